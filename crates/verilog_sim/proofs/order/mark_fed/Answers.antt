use Rattle.std.proofs.Common.{◌≡◌, ◌+◌, ◌-◌, ℕ, false, length, get_or, refl, subst, ◌∙◌, arith}
use Rattle.std.proofs.lemmas.Option.{slice_get_read, slice_get_within}
use Rattle.verilog_sim.specs.Feeding.{AreMarkedFrom}
use Rattle.verilog_sim.proofs.Marking.{unmarked_passed, marked_on}
use Rattle.verilog_sim.proofs.order.mark_fed.Goals as goal

pub bounds-marks-index : goal.bounds-marks-index
bounds-marks-index c =
    let i = c.loop-left.left - 1 in
    let at = slice_get_read c.args.order.now (length c.args.order.now) i c.index-order-left.result refl (omega (arith, c.loop-left.invariant.3, c.loop-left-test.true)) c.index-order-left.is in
    let from = c.requires.order.from i c.index-order-left.result at in
    let lt = (c.requires.runnable.assigns from.0 c.index-order-left.result from.1).target in
    omega (arith, lt, c.index.ensures.number, c.loop-left.invariant.2, c.requires.size)

pub mark_reads-requires : goal.mark_reads-requires
mark_reads-requires c = λ n read.
    let i = c.loop-left.left - 1 in
    let at = slice_get_read c.args.order.now (length c.args.order.now) i c.index-order-left.result refl (omega (arith, c.loop-left.invariant.3, c.loop-left-test.true)) c.index-order-left.is in
    let from = c.requires.order.from i c.index-order-left.result at in
    let lt = (c.requires.runnable.assigns from.0 c.index-order-left.result from.1).expr.nets n read in
    omega (arith, lt, c.loop-left.invariant.2, c.requires.size)

pub loop-left-preserved-then-marks-index : goal.loop-left-preserved-then-marks-index
loop-left-preserved-then-marks-index c =
    let order = c.args.order.now in
    let i = c.loop-left.left - 1 in
    let a = c.index-order-left.result in
    let at = slice_get_read order (length order) i a refl (omega (arith, c.loop-left.invariant.3, c.loop-left-test.true)) c.index-order-left.is in
    let next : c.loop-left.left ≡ i + 1 = omega (arith, c.loop-left-test.true) in
    let before : AreMarkedFrom order c.loop-left.marks (i + 1) = subst (AreMarkedFrom order c.loop-left.marks) next c.loop-left.invariant.0 in (
      marked_on order i a at c.args.module.now c.loop-left.marks c.mark_reads.new.marks c.requires.order.in_order c.mark_reads.ensures before,
      λ n h. c.mark_reads.ensures.kept n (c.loop-left.invariant.1 n h),
      c.mark_reads.auto.marks ∙ c.loop-left.invariant.2,
      omega (arith, c.loop-left.invariant.3),
    )

pub loop-left-preserved : goal.loop-left-preserved
loop-left-preserved c =
    let order = c.args.order.now in
    let i = c.loop-left.left - 1 in
    let a = c.index-order-left.result in
    let at = slice_get_read order (length order) i a refl (omega (arith, c.loop-left.invariant.3, c.loop-left-test.true)) c.index-order-left.is in
    let next : c.loop-left.left ≡ i + 1 = omega (arith, c.loop-left-test.true) in
    let before : AreMarkedFrom order c.loop-left.marks (i + 1) = subst (AreMarkedFrom order c.loop-left.marks) next c.loop-left.invariant.0 in
    let off : get_or c.loop-left.marks a.target false ≡ false = subst (λ (n : ℕ). get_or c.loop-left.marks n false ≡ false) c.index.ensures.number c.if-marks-index.false in
    (unmarked_passed order i a at c.loop-left.marks off before, c.loop-left.invariant.1, c.loop-left.invariant.2, omega (arith, c.loop-left.invariant.3))

pub loop-left-init : goal.loop-left-init
loop-left-init c = (
  record { closed = λ i n a le at marked read. absurd (omega (arith, le, slice_get_within c.args.order.now i a at)) },
  λ n h. h,
  refl,
  omega arith,
)

pub returns-clause-kept : goal.returns-clause-kept
returns-clause-kept c = c.loop-left.invariant.1

pub returns-clause-marked : goal.returns-clause-marked
returns-clause-marked c =
    let none : c.loop-left.left ≡ 0 = omega (arith, c.loop-left-test.false) in
    subst (AreMarkedFrom c.args.order.now c.loop-left.marks) none c.loop-left.invariant.0
