use Rattle.std.proofs.Common.{refl, ap, ◌∙◌, ◌++◌, ◌∷◌, []}
use Rattle.maxj_syntax.specs.Cells.{cells_of, word_in}
use Rattle.maxj_syntax.proofs.Trees.{wrapped, cells_more, cells_number}
use Rattle.maxj_syntax.proofs.Ranging.{with_top}
use Rattle.maxj_syntax.proofs.build.wrap.Goals as goal

pub returns-in_ok-push-2-clause-trees : goal.returns-in_ok-push-2-clause-trees
returns-in_ok-push-2-clause-trees c = λ tokens b s h.
    let old = c.args.builder.now.nodes in
    let new = c.in_ok-child.ensures in
    wrapped tokens (cells_of tokens old) _ _ _ _ _ c.in-Some.top _ c.args.kind
    (word_in tokens c.args.word) c.in_ok-child.child b s c.in-Some.ensures.items
    (cells_more tokens old _ c.in-Some.top.node new.nodes) c.in_ok-push-2.ensures.items
    (cells_number tokens old c.in_ok-child.child new.number) refl
    c.leaf-node.ensures.kind (ap
    (word_in tokens) c.leaf-node.ensures.word) c.leaf-node.ensures.span_is
    (c.in_ok-push.ensures.ok ∙ ap (λ l. l ++ c.in_ok-child.child
    ∷ []) c.leaf-node.ensures.children) h

pub returns-in_ok-push-2-clause-numbers : goal.returns-in_ok-push-2-clause-numbers
returns-in_ok-push-2-clause-numbers c = λ tokens b s h i j.
    let old = c.args.builder.now.nodes in
    with_top tokens (cells_of tokens old) _ _ _ _ c.in-Some.top b s c.in-Some.ensures.items
    (cells_more tokens old _ c.in-Some.top.node c.in_ok-child.ensures.nodes) h i j
