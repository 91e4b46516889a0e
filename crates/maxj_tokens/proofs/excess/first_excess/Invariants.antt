use Rattle.std.proofs.Common.{take}
use Rattle.maxj_tokens.proofs.Excesses.{IsCounted}
use Rattle.maxj_tokens.proofs.excess.first_excess.Given as goal

-- the counts are those of the tokens so far, and none of these is an excess
abbrev pub invariant-loop-number : goal.invariant-loop-number
invariant-loop-number l = IsCounted (take l.number l.tokens) l.opened l.closed l.behind_break
