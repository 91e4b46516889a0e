use Rattle.std.proofs.Common.{◌≡◌, ℕ, ◌<◌, ◌-ℤ◌, arith, below_more}
use Rattle.std.proofs.lemmas.Int.{ints}
use Rattle.cycle_find.specs.Constraints.{numbers_of, start_of, end_of, need_of}
use Rattle.schedule_problem.specs.Flow.{flow_of}
use Rattle.schedule_flow.proofs.certified.is_tight.Goals as goal
use Rattle.schedule_flow.proofs.certified.is_tight.Goals.{
  else-flow-j-gt0-via-then-flow-j-gt0+else-slack-ne0,
  else-flow-j-gt0-via-else-flow-j-gt0,
}

pub loop-j-preserved : goal.loop-j-preserved
loop-j-preserved c =
    let p = c.args.problem.now in
    let x = numbers_of c.args.x.now in
    let P : ℕ → Type 0 = λ k. 0 < flow_of c.args.flow.now k
    → (x (end_of p.arcs.list k) -ℤ x (start_of p.arcs.list k)) ≡ need_of p.arcs.list k in
    let here : P c.loop-j.j = λ some. elim c.else-flow-j-gt0.branch [
      | else-flow-j-gt0-via-then-flow-j-gt0+else-slack-ne0 w ↦ omega (
        arith,
        ints,
        w.slack.ensures.slack,
        w.if-slack-ne0.false,
      )
      | else-flow-j-gt0-via-else-flow-j-gt0 w ↦ absurd (omega (arith, some, w.if-flow-j-gt0.false))
    ] in
    below_more P c.loop-j.j c.loop-j.invariant here
