use Rattle.std.proofs.Common.{◌==◌, ◌/◌, ◌%◌, ◌^◌, ◌+◌, ◌-◌, ap, bit_and, refl, arith}
use Rattle.std.proofs.lemmas.Result.{IfOk-weaker}
use Rattle.rtl_build.proofs.Growing.{goes_on}
use Rattle.rtl_ops.proofs.Carries.{tie_test}
use Rattle.rtl_ops.proofs.rounding.odd_tie.Goals as goal

pub returns : goal.returns
returns c =
    let left = c.args.left in
    let half = c.args.half in
    let floor = c.args.floor in
    let tie = c.in_ok-tie.ensures in
    let odd = c.in_ok-odd.ensures in
    IfOk-weaker _ _ _ (λ r made.
    goes_on 3 1 _ tie (goes_on 2 1 (λ v. bit_and (v c.in_ok-tie.tie.net)
    ((v floor.net / 2 ^ 0) % 2 ^ (0 + 1 - 0))) odd made (omega arith) tie.width
    (λ d v h e. ap (bit_and (v c.in_ok-tie.tie.net)) e)) (omega arith) refl
    (λ d v h e. tie_test (v left.net == v half.net) (v floor.net) (v c.in_ok-tie.tie.net) _ e refl)) c.binary-2.ensures
