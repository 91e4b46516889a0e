use Rattle.std.proofs.Common.{◌≡◌, ◌∙◌, ◌-◌, ◌^◌, arith, ap}
use Rattle.std.proofs.lemmas.Nat.Bits.{ones_shr}
use Rattle.verilog_syntax.proofs.number.greatest.Goals as goal

pub returns : goal.returns
returns c =
    let back : 128 - (128 - c.args.width) ≡ c.args.width = omega arith in
    ones_shr 128 (128 - c.args.width) (omega arith) ∙ ap (λ k. 2 ^ k - 1) back
