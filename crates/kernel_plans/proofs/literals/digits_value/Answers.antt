-- No value on the way is above the last one.
use Rattle.std.proofs.Common.{◌≤◌, ◌+◌, ◌*◌, get_or, arith}
use Rattle.grammar.specs.Bytes.{digits_value, hex_value}
use Rattle.text_scan.proofs.Digits.{large_at}
use Rattle.kernel_plans.proofs.literals.digits_value.Goals as goal

pub overflow_mul-value : goal.overflow_mul-value
overflow_mul-value c =
    let l = c.loop-digit in
    let next = l.value * c.args.base + hex_value (get_or c.args.digits.now l.digit-index 0) in
    let said = digits_value c.args.base c.args.before c.args.digits.now in
    let e : next ≤ said = large_at c.args.base l.value next said c.args.digits.now l.digit-index
    c.requires.base (omega arith) l.invariant (omega arith) in
    omega (arith, e, c.requires.within)

pub overflow_add-value : goal.overflow_add-value
overflow_add-value c =
    let l = c.loop-digit in
    let next = l.value * c.args.base + hex_value (get_or c.args.digits.now l.digit-index 0) in
    let said = digits_value c.args.base c.args.before c.args.digits.now in
    let e : next ≤ said = large_at c.args.base l.value next said c.args.digits.now l.digit-index
    c.requires.base (omega arith) l.invariant (omega arith) in
    omega (arith, e, c.requires.within, c.digit_value.ensures, c.from.ensures)
