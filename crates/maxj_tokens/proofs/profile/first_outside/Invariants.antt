use Rattle.std.proofs.Common.{take}
use Rattle.maxj_tokens.specs.Faults.{HasNone, IsOutside}
use Rattle.maxj_tokens.proofs.profile.first_outside.Given as goal

-- no token so far is out of profile
abbrev pub invariant-loop-number : goal.invariant-loop-number
invariant-loop-number l = HasNone IsOutside (take l.number l.tokens)
