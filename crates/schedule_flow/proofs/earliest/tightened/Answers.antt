use Rattle.std.proofs.Common.{◌≡◌, ◌+◌, ◌<◌, ◌∷◌, [], ◌++◌, List, length, sym, subst, arith, rules}
use Rattle.cycle_find.specs.declared.arcs.Arc.{Arc}
use Rattle.schedule_problem.specs.Flow.{flow_of}
use Rattle.schedule_flow.specs.Earliest.{turned_arc}
use Rattle.schedule_flow.proofs.Tightening.{Tightening, with_arc, with_both}
use Rattle.schedule_flow.proofs.earliest.tightened.Goals as goal
use Rattle.schedule_flow.proofs.earliest.tightened.Goals.{then-flow-j-gt0+in_ok-push-2, else-flow-j-gt0}

pub loop-j-preserved : goal.loop-j-preserved
loop-j-preserved c =
    let p = c.args.problem.now in
    let f = flow_of c.args.flow.now in
    let n = c.loop-j.j in
    let a = c.arc_of-arc.result in
    let list = c.loop-j.list.items in
    let P : List Arc → Type 0 = λ l. Tightening p f l (n + 1) in
    let l : n < length p.arcs.list = search rules in
    elim c.if-flow-j-gt0.branch [
      | then-flow-j-gt0+in_ok-push-2 w ↦ (
          let e : c.if-flow-j-gt0.list.items ≡ (list ++ a ∷ []) ++ turned_arc a ∷ [] = search rules in
          subst P (sym e) (with_both p f list n a c.loop-j.invariant l c.arc_of-arc.ensures c.requires.ends w.if-flow-j-gt0.true))
      | else-flow-j-gt0 w ↦ (
          let e : c.if-flow-j-gt0.list.items ≡ list ++ a ∷ [] = search rules in
          subst P (sym e) (with_arc p f list n a c.loop-j.invariant l c.arc_of-arc.ensures c.requires.ends (omega (arith, w.if-flow-j-gt0.false))))
    ]
