use Rattle.std.proofs.Common.{drop}
use Rattle.maxj_syntax.specs.Building.{Reached, todo}
use Rattle.maxj_syntax.specs.Plain.{Ranged}
use Rattle.maxj_syntax.proofs.parser.read_tokens.Given as goal

abbrev pub invariant-loop-at : goal.invariant-loop-at
invariant-loop-at l = record {
  reached : Reached l.tokens (drop l.at l.tokens) (todo l.stack.items) l.builder;
  ranged : Ranged l.tokens (todo l.stack.items) l.builder;
}
