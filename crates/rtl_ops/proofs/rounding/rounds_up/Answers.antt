use Rattle.std.proofs.Common.{◌==◌, ◌%◌, ◌^◌, ◌∙◌, ap, sym, refl, arith}
use Rattle.std.proofs.lemmas.Result.{IfOk-weaker}
use Rattle.fix_arith.specs.Rounding.{rounds_up}
use Rattle.fix_arith.specs.Table.{bit_of}
use Rattle.rtl_build.proofs.Growing.{same_value}
use Rattle.rtl_ops.proofs.Carries.{near_test}
use Rattle.rtl_ops.proofs.rounding.rounds_up.Goals as goal

pub returns-in-Truncate : goal.returns-in-Truncate
returns-in-Truncate c =
    let a = c.args.a in
    let f = c.args.floor in
    let k = c.args.bits in
    IfOk-weaker _ _ _ (λ r made. same_value 7 1 _ made (omega arith) c.new.ensures.width (λ d v h.
    c.new.ensures.bits ∙ ap (λ m. bit_of (rounds_up m (v f.net % 2 == 1) (v a.net % 2 ^ k) (2 ^ k))) (sym c.in-Truncate.is))) c.literal.ensures

pub returns-in-ToNear : goal.returns-in-ToNear
returns-in-ToNear c =
    let a = c.args.a in
    let f = c.args.floor in
    let k = c.args.bits in
    IfOk-weaker _ _ _ (λ r made. same_value 7 1 _ made (omega arith) (omega arith) (λ d v h.
    near_test k (v a.net) (v f.net % 2 == 1) c.requires.some ∙ ap (λ m. bit_of (rounds_up m (v f.net % 2 == 1) (v a.net % 2 ^ k) (2 ^ k))) (sym c.in-ToNear.is))) c.part.ensures

pub returns-in-ToNearEven : goal.returns-in-ToNearEven
returns-in-ToNearEven c =
    let a = c.args.a in
    let f = c.args.floor in
    let k = c.args.bits in
    IfOk-weaker _ _ _ (λ r made. same_value 7 1 _ made (omega arith) refl (λ d v h.
    ap (λ m. bit_of (rounds_up m (v f.net % 2 == 1) (v a.net % 2 ^ k) (2 ^ k))) (sym c.in-ToNearEven.is))) c.up_to_even.ensures
