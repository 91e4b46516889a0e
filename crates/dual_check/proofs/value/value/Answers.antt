use Rattle.std.proofs.Common.{◌≡◌, ◌<◌, ◌≤◌, ℕ, ◌+◌, ◌*◌, ◌^◌, pos, ◌*ℤ◌, List, length, sym, subst, arith}
use Rattle.std.proofs.lemmas.Int.{ints}
use Rattle.std.proofs.Math.Nat.{mul-le-mul_right}
use Rattle.cycle_find.specs.declared.arcs.Arc.{Arc}
use Rattle.cycle_find.specs.Constraints.{need_of, NeedsWithin}
use Rattle.schedule_problem.specs.Flow.{flow_of}
use Rattle.schedule_problem.proofs.Sums.{total-more}
use Rattle.dual_check.proofs.value.value.Goals as goal

-- needs so small that as many as there are arcs come to at most 2^64
abbrev Light : List Arc → Type 0
Light list = (size : ℕ) × NeedsWithin size list × (length list * size ≤ 2 ^ 64)

-- one size more is so many sizes and one
size_more : (j size : ℕ) → (j + 1) * size ≡ j * size + size
size_more j size = omega arith

-- so are the needs of the arcs up to any
light_so_far : (list : List Arc) (light : Light list) (j : ℕ) → j < length list → j * light.0 + light.0 ≤ 2 ^ 64
light_so_far list light j l =
    let up : (j + 1) * light.0 ≤ length list * light.0 = mul-le-mul_right light.0 (omega (arith, l)) in
    omega (arith, up, size_more j light.0, light.2)

pub overflow_add-sum : goal.overflow_add-sum
overflow_add-sum c =
    let list = c.as_slice-list.result.now in
    let j = c.loop-j.j in
    let light : Light list = subst Light (sym c.as_slice-list.ensures) c.requires.small in
    let most = light_so_far list light j c.loop-j-test.true in
    omega (arith, ints, most, light.1 j c.loop-j-test.true, c.worth-sum.ensures.small, c.loop-j.invariant.small light.0 light.1)

pub loop-j-preserved : goal.loop-j-preserved
loop-j-preserved c =
    let list = c.as_slice-list.result.now in
    let j = c.loop-j.j in
    let f = flow_of c.args.flow.now in
    let light : Light list = subst Light (sym c.as_slice-list.ensures) c.requires.small in
    let most = light_so_far list light j c.loop-j-test.true in
    let here = light.1 j c.loop-j-test.true in
    let before = c.loop-j.invariant.small light.0 light.1 in
    let one = c.worth-sum.ensures in
    let more = total-more j (λ k. pos (f k) *ℤ need_of list k) in
    record {
      so_far = omega (arith, ints, most, here, before, one.small, one.worth, more, c.loop-j.invariant.so_far);
      small = λ s within.
          let within_here = within j c.loop-j-test.true in
          omega (arith, ints, most, here, before, one.small, size_more j s, within_here, c.loop-j.invariant.small s within);
    }
