use Rattle.std.proofs.Common.{◌+◌, ◌≤◌, length}
use Rattle.maxj_tokens.proofs.scanner.count.Given as goal

-- a token has a byte at least
abbrev pub invariant-loop-rest : goal.invariant-loop-rest
invariant-loop-rest l = l.count + length l.rest ≤ length l.text

abbrev pub decreases-loop-rest : goal.decreases-loop-rest
decreases-loop-rest l = length l.rest
