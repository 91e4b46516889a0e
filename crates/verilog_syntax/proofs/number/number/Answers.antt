use Rattle.std.proofs.Common.{◌≡◌, ◌+◌, None, arith}
use Rattle.text_scan.proofs.Digits.{large_at}
use Rattle.verilog_syntax.proofs.Digits.{over, is_given}
use Rattle.verilog_syntax.proofs.number.number.Goals as goal

pub returns-in_err-checked_mul : goal.returns-in_err-checked_mul
returns-in_err-checked_mul c =
    let l = c.loop-digit in
    let e : c.from_residual.result ≡ None = cc in
    let big = over _ _ c.checked_mul.ensures c.in_err-checked_mul.was in
    let large = large_at c.args.base l.value (c.args.limit + 1) _ c.args.digits.now l.digit-index c.requires (omega arith) l.invariant.said (omega arith) in
    rw e (omega arith)

pub returns-in_err-value : goal.returns-in_err-value
returns-in_err-value c =
    let l = c.loop-digit in
    let e : c.from_residual-in_err-value.result ≡ None = cc in
    let big = over _ _ c.checked_add.ensures c.in_err-value.was in
    let product = is_given _ _ c.checked_mul.ensures c.in_ok-checked_mul.was in
    let large = large_at c.args.base l.value (c.args.limit + 1) _ c.args.digits.now l.digit-index c.requires (omega arith) l.invariant.said (omega arith) in
    rw e (omega arith)

pub returns-then-value-limit : goal.returns-then-value-limit
returns-then-value-limit c =
    let l = c.loop-digit in
    let product = is_given _ _ c.checked_mul.ensures c.in_ok-checked_mul.was in
    let sum = is_given _ _ c.checked_add.ensures c.in_ok-value.was in
    let large = large_at c.args.base l.value (c.args.limit + 1) _ c.args.digits.now l.digit-index c.requires (omega arith) l.invariant.said (omega arith) in
    omega arith
