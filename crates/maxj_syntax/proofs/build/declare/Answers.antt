use Rattle.std.proofs.Common.{sym, subst, ◌≡◌, refl, ap, ◌∙◌, drop, length, min}
use Rattle.maxj_syntax.specs.Cells.{cell_in, cells_of}
use Rattle.maxj_syntax.specs.Ranges.{IsInRange}
use Rattle.maxj_syntax.proofs.Trees.{declared, declared_span, cells_more, cells_number}
use Rattle.maxj_syntax.proofs.Ranging.{with_node}
use Rattle.maxj_syntax.proofs.build.declare.Goals as goal

pub returns-in_ok-push-clause-trees : goal.returns-in_ok-push-clause-trees
returns-in_ok-push-clause-trees c = λ b s h.
    let tokens = c.args.tokens.now in
    let old = c.args.builder.now.nodes in
    let new = c.in_ok-node.ensures in
    let m : c.min-to.result ≡ min c.in-Some.top.start (length tokens) = c.min-to.ensures ∙ ap (λ n. min c.in-Some.top.start n) c.len.ensures.number in
    declared tokens (drop c.args.at tokens)
    (cells_of tokens old) _ _ _ _ _ _ c.in-Some.top c.in-Some-pop.below _ new.memory
    c.span_between-span.result (length old) b s c.in-Some.ensures.items
    c.in-Some-pop.ensures.items
    (cells_more tokens old _ new.memory new.nodes) c.in_ok-push.ensures.items
    (cells_number tokens old (length old) refl) new.leaf
    (c.span_between-span.ensures ∙ declared_span tokens c.in-Some-pop.below.start
    c.in-Some.top.start c.min-to.result m) refl new.kind new.word new.span_is new.children h

pub returns-in_ok-push-clause-numbers : goal.returns-in_ok-push-clause-numbers
returns-in_ok-push-clause-numbers c = λ tokens b s h i j.
    let old = c.args.builder.now.nodes in
    let memory = c.in_ok-node.ensures.memory in
    with_node (cells_of tokens old) _ (cell_in tokens memory)
    (cells_more tokens old _ memory c.in_ok-node.ensures.nodes)
    (subst (λ k. IsInRange k (cell_in tokens memory).word) (sym c.in_ok-node.ensures.leaf.kind) tt) j
