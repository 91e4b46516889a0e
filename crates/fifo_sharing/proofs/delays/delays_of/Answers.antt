-- Each edge adds its delay, where that is above 0, to the list of its producer.
use Rattle.std.proofs.Common.{◌≡◌, ℕ, ◌+◌, ◌*◌, ◌<◌, List, length, sym, ap, ◌∙◌, subst, arith}
use Rattle.std.proofs.lemmas.Grind.{common_steps}
use Rattle.cycle_find.specs.declared.arcs.Arc.{Arc}
use Rattle.cycle_find.specs.Constraints.{numbers_of, arc_at}
use Rattle.fifo_sharing.specs.Chains.{producer_of}
use Rattle.fifo_sharing.proofs.DelaysBelow.{AreDelaysBelow}
use Rattle.fifo_sharing.proofs.Collecting.{none_collected, one_pushed, all_collected}
use Rattle.fifo_sharing.proofs.delays.delays_of.Goals as goal
use Rattle.fifo_sharing.proofs.delays.delays_of.Goals.{then-delay-gt0+in_ok-push, else-delay-gt0}

pub loop-edge-preserved : goal.loop-edge-preserved
loop-edge-preserved c =
    let p = c.args.problem.now in
    let x = numbers_of c.args.times.now in
    let n = c.loop-edge.edge in
    let d = c.delay_of-delay.result in
    let old = c.loop-edge.delays.items in
    let edge : 2 * n < length p.arcs.list = grind (arith, common_steps) in
    let arc = c.arc_number-producer.ensures ∙ ap (λ arcs. arc_at arcs (2 * n))
    c.as_slice-list.ensures in
    let here : c.arc_number-producer.result.from ≡ producer_of p n = ap (λ (a : Arc). a.from) arc in
    let within : c.arc_number-producer.result.from < length old = omega (
      arith,
      here,
      c.loop-edge.invariant.0,
      (c.requires.arcs.ends (2 * n) edge).0,
    ) in
    elim c.if-delay-gt0.branch [
      | then-delay-gt0+in_ok-push w ↦
          let more = one_pushed p x n c.arc_number-producer.result.from d old
          c.if-delay-gt0.delays.items w.index_mut.result.now w.push.new.self
          c.loop-edge.invariant.1 edge within (sym here) c.delay_of-delay.ensures
          w.if-delay-gt0.true w.index_mut.ensures.value w.in_ok-push.ensures.ok (ap (λ v.
          v.items) w.delays-is) in
          (more.0 ∙ c.loop-edge.invariant.0, more.1)
      | else-delay-gt0 w ↦
          let P : List (List ℕ) → Type 0 = λ lists. (length lists ≡ p.arcs.nodes) × AreDelaysBelow p
          x (n + 1) lists in
          subst P (sym (ap (λ v. v.items) w.delays-is)) (
            c.loop-edge.invariant.0,
            none_collected p x
                n d old c.loop-edge.invariant.1 c.delay_of-delay.ensures w.if-delay-gt0.false,
          )
    ]

pub returns-clause-delays : goal.returns-clause-delays
returns-clause-delays c = all_collected c.args.problem.now (numbers_of c.args.times.now)
    c.loop-edge.edge c.loop-edge.delays.items c.loop-edge.invariant.1 (grind (arith, common_steps))
