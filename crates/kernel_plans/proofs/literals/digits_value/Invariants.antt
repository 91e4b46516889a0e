-- The value so far, with the digits to come, says the number.
use Rattle.std.proofs.Common.{◌≡◌, drop}
use Rattle.grammar.specs.Bytes.{digits_value}
use Rattle.kernel_plans.proofs.literals.digits_value.Given as goal

abbrev pub invariant-loop-digit : goal.invariant-loop-digit
invariant-loop-digit l =
    digits_value l.base l.value (drop l.digit-index l.digits)
    ≡ digits_value l.base l.before l.digits
