use Rattle.std.proofs.Common.{◌≡◌, ◌≤◌, ◌+◌, ◌-◌, ◌^◌, ℕ, ℤ, List, ◌++◌, take, drop, length, get_or, sym, ap, ◌∙◌, subst, arith}
use Rattle.std.proofs.lemmas.Int.{ints}
use Rattle.cycle_find.specs.Constraints.{numbers_of}
use Rattle.schedule_problem.specs.Flow.{flow_of}
use Rattle.schedule_flow.specs.Network.{Network, IsPath, IsSent, IsKept, first_of, last_of, tail_of, head_of, at_node}
use Rattle.schedule_flow.proofs.Sending.{kept_after, amount_small, sends_more, written_back}
use Rattle.schedule_flow.proofs.network.augment.Goals as goal

pub send-requires-clause-small : goal.send-requires-clause-small
send-requires-clause-small c =
    let p = c.net.inside.problem in
    let P : Network → Type 0 = λ w. IsPath w.problem (flow_of w.flow) c.args.path.now c.args.amount in
    let h = subst P (sym c.net.view_is) c.requires in
    let small : c.net.inside.moved + c.args.amount
    ≤ 2 ^ 52 = amount_small p c.net.inside.flow.items c.args.path.now
    c.net.inside.rest.items c.net.inside.sends c.net.inside.moved c.args.amount
    c.net.invariant h in
    λ j.
    let e : get_or c.as_mut_slice.result.now j 0 ≡ get_or c.net.inside.flow.items j 0 = ap (λ l. get_or l j 0) c.as_mut_slice.ensures.value in
    omega (arith, e, c.net.invariant.carried j, small)

pub overflow_add-net : goal.overflow_add-net
overflow_add-net c =
    let P : Network → Type 0 = λ w. IsPath w.problem (flow_of w.flow) c.args.path.now c.args.amount in
    let h = subst P (sym c.net.view_is) c.requires in
    let small : c.net.inside.moved + c.args.amount
    ≤ 2 ^ 52 = amount_small c.net.inside.problem c.net.inside.flow.items c.args.path.now
    c.net.inside.rest.items c.net.inside.sends c.net.inside.moved c.args.amount
    c.net.invariant h in
    omega (arith, small)

pub overflow_add-net-2 : goal.overflow_add-net-2
overflow_add-net-2 c =
    let P : Network → Type 0 = λ w. IsPath w.problem (flow_of w.flow) c.args.path.now c.args.amount in
    let h = subst P (sym c.net.view_is) c.requires in
    let small : c.net.inside.moved + c.args.amount
    ≤ 2 ^ 52 = amount_small c.net.inside.problem c.net.inside.flow.items c.args.path.now
    c.net.inside.rest.items c.net.inside.sends c.net.inside.moved c.args.amount
    c.net.invariant h in
    omega (arith, small, c.net.invariant.counted)

pub invariant_of-net : goal.invariant_of-net
invariant_of-net c =
    let p = c.net.inside.problem in
    let list = p.arcs.list in
    let path = c.args.path.now in
    let a = c.args.amount in
    let old = c.net.inside.flow.items in
    let rest = c.net.inside.rest.items in
    let P : Network → Type 0 = λ w. IsPath w.problem (flow_of w.flow) path a in
    let h = subst P (sym c.net.view_is) c.requires in
    let len : c.net.inside.flow.len ≡ length c.send.new.flow = omega (arith, c.net.inside.flow.ok.0, c.send.auto.flow, c.as_mut_slice.ensures.len) in
    let len2 : c.net.inside.rest.len ≡ length c.settle.new.rest = omega (arith, c.net.inside.rest.ok.0, c.settle.auto.rest, c.as_mut_slice-2.ensures.len) in
    let new : take c.net.inside.flow.len (c.send.new.flow ++ drop (length c.send.new.flow) old) ≡ c.send.new.flow = written_back c.net.inside.flow.len c.send.new.flow old len in
    let new2 : take c.net.inside.rest.len (c.settle.new.rest ++ drop (length c.settle.new.rest) rest) ≡ c.settle.new.rest = written_back c.net.inside.rest.len c.settle.new.rest rest len2 in
    let R : List ℕ → Type 0 = λ l. IsSent p (flow_of l) (flow_of c.send.new.flow) path a in
    let sent = subst R c.as_mut_slice.ensures.value c.send.ensures.sent in
    let first : c.tail-first.result ≡ first_of list path = c.tail-first.ensures ∙ ap (λ l. tail_of l (get_or path 0 0)) c.as_slice-list.ensures in
    let last : c.head-last.result ≡ last_of list path = c.head-last.ensures ∙ ap (λ l. head_of l (get_or path (length path - 1) 0)) c.as_slice-list.ensures in
    let K : List ℕ → Type 0 = λ l. IsKept p l (take c.net.inside.rest.len (c.settle.new.rest ++ drop (length c.settle.new.rest) rest)) (c.net.inside.sends + 1) (c.net.inside.moved + a) in
    let L : List ℤ → Type 0 = λ l. IsKept p c.send.new.flow l (c.net.inside.sends + 1) (c.net.inside.moved + a) in
    subst K (sym new) (subst L (sym new2) (kept_after p old c.send.new.flow path rest c.settle.new.rest c.net.inside.sends c.net.inside.moved a c.net.invariant h sent
    (λ j. let e : get_or c.as_mut_slice.result.now j 0 ≡ get_or old j 0 = ap (λ l. get_or l j 0) c.as_mut_slice.ensures.value in omega (arith, e, c.send.ensures.most j))
    (omega (arith, c.send.auto.flow, ap length c.as_mut_slice.ensures.value))
    (omega (arith, c.settle.auto.rest, ap length c.as_mut_slice-2.ensures.value))
    (λ v.
    let e : numbers_of c.as_mut_slice-2.result.now v ≡ numbers_of rest v = ap (λ l. numbers_of l v) c.as_mut_slice-2.ensures.value in
    let x : at_node c.tail-first.result a v ≡ at_node (first_of list path) a v = ap (λ n. at_node n a v) first in
    let y : at_node c.head-last.result a v ≡ at_node (last_of list path) a v = ap (λ n. at_node n a v) last in
    omega (arith, ints, e, x, y, c.settle.ensures v))))

pub returns-clause-sent : goal.returns-clause-sent
returns-clause-sent c =
    let old = c.net.inside.flow.items in
    let len : c.net.inside.flow.len ≡ length c.send.new.flow = omega (arith, c.net.inside.flow.ok.0, c.send.auto.flow, c.as_mut_slice.ensures.len) in
    let new : take c.net.inside.flow.len (c.send.new.flow ++ drop (length c.send.new.flow) old) ≡ c.send.new.flow = written_back c.net.inside.flow.len c.send.new.flow old len in
    let P : List ℕ → Type 0 = λ l. IsSent c.args.net.now.problem (flow_of c.args.net.now.flow) (flow_of l) c.args.path.now c.args.amount in
    let Q : Network → Type 0 = λ w. IsSent w.problem (flow_of w.flow) (flow_of c.send.new.flow) c.args.path.now c.args.amount in
    let R : List ℕ → Type 0 = λ l. IsSent c.net.inside.problem (flow_of l) (flow_of c.send.new.flow) c.args.path.now c.args.amount in
    subst P (sym new) (subst Q c.net.view_is (subst R c.as_mut_slice.ensures.value c.send.ensures.sent))

pub returns-clause-counted : goal.returns-clause-counted
returns-clause-counted c =
    let P : Network → Type 0 = λ w. IsPath w.problem (flow_of w.flow) c.args.path.now c.args.amount in
    let h = subst P (sym c.net.view_is) c.requires in
    sends_more c.net.inside.problem c.net.inside.flow.items c.args.path.now c.net.inside.rest.items c.net.inside.sends c.net.inside.moved c.args.amount c.net.invariant h
