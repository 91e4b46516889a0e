-- One size more.
use Rattle.std.proofs.Common.{◌≡◌, ℕ, ◌+◌, ◌*◌, drop, get_or, ap, sym, ◌∙◌, arith}
use Rattle.std.proofs.Math.Nat.{mul-add, mul_assoc}
use Rattle.std.proofs.lemmas.List.{drop_more}
use Rattle.kernel_meaning.specs.Arrays.{nested}
use Rattle.kernel_rows.proofs.new_arrays.steps_within.Goals as goal

spread : (steps arrays size rest : ℕ) → steps + arrays * size + arrays * size * rest
    ≡ steps + arrays * (size + size * rest)
spread steps arrays size rest =
    let sums = mul-add arrays size (size * rest) in
    let products = mul_assoc arrays size rest in
    omega arith

pub loop-size-preserved : goal.loop-size-preserved
loop-size-preserved c =
    let sizes = c.args.sizes.now in
    let place = c.loop-size.size-index in
    let i = c.loop-size.invariant in
    let next = drop_more sizes place 0 c.loop-size-test.true in
    let rest = nested (drop (place + 1) sizes) in
    let size : c.from-arrays.result ≡ get_or sizes place 0 = c.from-arrays.ensures in
    let whole = spread c.loop-size.steps c.loop-size.arrays c.from-arrays.result rest in
    let parts : nested (drop place sizes) ≡ c.from-arrays.result + c.from-arrays.result * rest =
    ap nested next ∙ ap (λ n. n + n * rest) (sym size) in
    let left = c.ranges.left.fits in
    record {
      all = whole ∙ (ap (λ n. c.loop-size.steps + c.loop-size.arrays * n) (sym parts) ∙ i.all);
      arrays = omega (arith, c.if-steps-from.false, c.from.ensures);
      steps = omega (arith, c.if-steps-from.false, c.from.ensures);
    }
