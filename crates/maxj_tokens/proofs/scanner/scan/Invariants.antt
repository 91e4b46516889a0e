use Rattle.std.proofs.Common.{◌≤◌, ◌+◌, length, map}
use Rattle.maxj_tokens.specs.Scanning.{ReadsAt}
use Rattle.maxj_tokens.specs.Lexemes.{placed_in}
use Rattle.maxj_tokens.proofs.scanner.scan.Given as goal

-- the tokens so far are those of the text up to the rest, and each has a byte at least
abbrev pub invariant-loop-rest : goal.invariant-loop-rest
invariant-loop-rest l = record {
  read : ReadsAt 0 l.text (map (placed_in l.text) l.lexemes) l.rest;
  within : length l.rest ≤ length l.text;
  few : length l.lexemes + length l.rest ≤ length l.text;
}

abbrev pub decreases-loop-rest : goal.decreases-loop-rest
decreases-loop-rest l = length l.rest
