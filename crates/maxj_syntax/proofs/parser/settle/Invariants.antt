use Rattle.std.proofs.Common.{drop}
use Rattle.maxj_syntax.specs.Choosing.{chain}
use Rattle.maxj_syntax.specs.Building.{Reached, todo}
use Rattle.maxj_syntax.specs.Plain.{Ranged}
use Rattle.maxj_syntax.proofs.parser.settle.Given as goal

abbrev pub invariant-loop-top : goal.invariant-loop-top
invariant-loop-top l = record {
  reached : Reached l.tokens (drop l.at l.tokens) (todo l.stack.items) l.builder;
  ranged : Ranged l.tokens (todo l.stack.items) l.builder;
}

abbrev pub decreases-loop-top : goal.decreases-loop-top
decreases-loop-top l = chain (todo l.stack.items)
