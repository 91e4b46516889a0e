use Rattle.std.proofs.Common.{◌^◌, arith}
use Rattle.text_scan.proofs.Digits.{large_at}
use Rattle.maxj_tokens.proofs.profile.value.Goals as goal

pub returns-in_err-checked_mul : goal.returns-in_err-checked_mul
returns-in_err-checked_mul c =
    let l = c.loop-digit in
    let big = c.in_err-checked_mul.ensures in
    rw c.from_residual.ensures (large_at c.args.base l.value (2 ^ 128) _ c.args.digits.now l.digit-index c.requires (omega arith) l.invariant (omega (arith, big)))

pub returns-in_err-value : goal.returns-in_err-value
returns-in_err-value c =
    let l = c.loop-digit in
    let big = c.in_err-value.ensures in
    let product = c.in_ok-checked_mul.ensures in
    rw c.from_residual-in_err-value.ensures (large_at c.args.base l.value (2 ^ 128) _ c.args.digits.now l.digit-index c.requires (omega arith) l.invariant (omega (arith, big, product)))
