use Rattle.std.proofs.Common.{[], drop, subst}
use Rattle.maxj_syntax.specs.declared.tree.NodeKind.TheVariants as N
use Rattle.maxj_syntax.specs.Tree.{Node, Nil}
use Rattle.maxj_syntax.specs.Steps.{At, On}
use Rattle.maxj_syntax.specs.Building.{Holds}
use Rattle.maxj_syntax.proofs.build.hole.Goals as goal

pub returns-clause-trees : goal.returns-clause-trees
returns-clause-trees c = λ b s h.
    subst (λ n. Holds c.args.tokens.now c.begin.new.builder (At (drop c.args.at c.args.tokens.now) (Node N.Empty [] (record { from = n; to = n }) Nil)) (On b s)) c.place_at-from.ensures
    (c.in_ok-begin.ensures.trees c.args.tokens.now b s h)
