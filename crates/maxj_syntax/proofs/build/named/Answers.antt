use Rattle.std.proofs.Common.{refl}
use Rattle.maxj_syntax.specs.Cells.{cells_of}
use Rattle.maxj_syntax.proofs.Trees.{renamed}
use Rattle.maxj_syntax.proofs.build.named.Goals as goal

pub returns-in_ok-push-clause-trees : goal.returns-in_ok-push-clause-trees
returns-in_ok-push-clause-trees c = λ tokens xs b s h.
    renamed tokens xs (cells_of tokens c.args.builder.now.nodes) c.args.builder.now.classes _ _ _ _
    c.in-Some.top c.in-Some-pop.below _ b s c.in-Some.ensures.items c.in-Some-pop.ensures.items
    c.in_ok-push.ensures.items refl refl refl refl refl h

pub returns-in_ok-push-clause-numbers : goal.returns-in_ok-push-clause-numbers
returns-in_ok-push-clause-numbers c = λ tokens b s h i j. j
