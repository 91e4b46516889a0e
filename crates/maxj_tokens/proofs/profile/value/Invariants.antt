use Rattle.std.proofs.Common.{◌≡◌, drop}
use Rattle.grammar.specs.Bytes.{digits_value}
use Rattle.maxj_tokens.proofs.profile.value.Given as goal

-- the value so far, with the digits to come, says the number
abbrev pub invariant-loop-digit : goal.invariant-loop-digit
invariant-loop-digit l = digits_value l.base l.value (drop l.digit-index l.digits) ≡ digits_value l.base 0 l.digits
