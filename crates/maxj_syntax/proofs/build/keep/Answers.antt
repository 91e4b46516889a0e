use Rattle.std.proofs.Common.{refl, ◌∙◌}
use Rattle.maxj_syntax.specs.Cells.{cells_of}
use Rattle.maxj_syntax.proofs.Trees.{kept, cells_more, cells_number}
use Rattle.maxj_syntax.proofs.Ranging.{with_top}
use Rattle.maxj_syntax.proofs.build.keep.Goals as goal

pub returns-in_ok-push-2-clause-trees : goal.returns-in_ok-push-2-clause-trees
returns-in_ok-push-2-clause-trees c = λ xs b s h.
    let tokens = c.args.tokens.now in
    let old = c.args.builder.now.nodes in
    let new = c.in_ok-node.ensures in
    kept tokens xs (cells_of tokens old) _ _ _ _ _ _ _ c.in-Some.top c.in-Some-pop.below
    c.args.kind _ c.in_ok-node.node b s c.in-Some.ensures.items
    c.in-Some-pop.ensures.items
    (cells_more tokens old _ c.in-Some.top.node new.nodes) c.in_ok-push.ensures.ok
    c.in_ok-push-2.ensures.items
    (c.from_vec.ensures ∙ c.in_ok-name.ensures.items_if_clones_equal (λ x y e. e) ∙ c.word_of.ensures) c.is_manager.ensures refl (cells_number tokens old c.in_ok-node.node new.number) h

pub returns-in_ok-push-2-clause-numbers : goal.returns-in_ok-push-2-clause-numbers
returns-in_ok-push-2-clause-numbers c = λ tokens b s h i j.
    let old = c.args.builder.now.nodes in
    with_top tokens (cells_of tokens old) _ _ _ _ c.in-Some.top b s c.in-Some.ensures.items
    (cells_more tokens old _ c.in-Some.top.node c.in_ok-node.ensures.nodes) h i j
