use Rattle.std.proofs.Common.{◌+◌, ◌/◌, ℕ, List, get_or, sym, ◌∙◌, subst, arith}
use Rattle.cycle_find.specs.declared.arcs.Arc.{Arc}
use Rattle.schedule_problem.specs.Flow.{flow_of}
use Rattle.schedule_flow.specs.Network.{HasRoom}
use Rattle.schedule_flow.proofs.Sending.{Sending, nothing_sent, sent_on, sent_all}
use Rattle.schedule_flow.proofs.network.send.Goals as goal

pub loop-k-init : goal.loop-k-init
loop-k-init c = nothing_sent c.args.problem.now c.args.flow.now c.args.path.now c.args.amount c.requires.path

pub push-requires-clause-room : goal.push-requires-clause-room
push-requires-clause-room c =
    let P : List Arc → Type 0 = λ l. HasRoom l (flow_of c.loop-k.flow) c.args.amount (get_or c.args.path.now c.loop-k.k 0) in
    subst P (sym c.as_slice-list.ensures) ((c.requires.path.room c.loop-k.k c.loop-k-test.true).0, λ e. c.loop-k.invariant.room c.loop-k.k (omega arith) c.loop-k-test.true e)

pub push-requires-clause-small : goal.push-requires-clause-small
push-requires-clause-small c =
    let j = get_or c.args.path.now c.loop-k.k 0 / 2 in
    omega (arith, c.loop-k.invariant.most j, c.requires.small j)

pub loop-k-preserved : goal.loop-k-preserved
loop-k-preserved c =
    let P : List ℕ → Type 0 = λ l. Sending c.args.problem.now c.args.flow.now l c.args.path.now c.args.amount (c.loop-k.k + 1) in
    subst P (sym c.push.ensures)
    (sent_on c.args.problem.now c.args.flow.now c.loop-k.flow c.args.path.now c.args.amount
    c.loop-k.k c.requires.path c.loop-k.invariant c.loop-k-test.true
    (c.loop-k.auto.flow ∙ c.requires.len))

pub returns : goal.returns
returns c = record {
  sent = sent_all c.args.problem.now c.args.flow.now c.loop-k.flow c.args.path.now c.args.amount c.loop-k.k c.loop-k.invariant c.loop-k-test.false c.loop-k.auto.k-end;
  most = c.loop-k.invariant.most;
}
