use Rattle.std.proofs.Common.{◌≤◌, refl, ap, sym, subst, ◌∙◌}
use Rattle.fix_arith.specs.Types.{width_of, HasWidth}
use Rattle.stream_graph.specs.declared.node.NodeView.{NodeView}
use Rattle.stream_graph.proofs.NodeLemmas.{orderly}
use Rattle.stream_graph.proofs.Reading.{view_read}
use Rattle.project_design.proofs.nodes.width.Goals as goal

pub width-requires : goal.width-requires
width-requires c =
    let nodes = c.args.kernel.now.nodes in
    let v = view_read nodes c.args.node c.args.node c.node.result refl c.node.ensures in
    subst (λ (w : NodeView). HasWidth w.t) (sym v) ((orderly nodes c.args.kernel.now.made).widths c.args.node c.requires)

pub returns-clause-is : goal.returns-clause-is
returns-clause-is c =
    let v = view_read c.args.kernel.now.nodes c.args.node c.args.node c.node.result refl c.node.ensures in
    c.width.ensures ∙ ap (λ (w : NodeView). width_of w.t) v

pub returns-clause-some : goal.returns-clause-some
returns-clause-some c =
    let nodes = c.args.kernel.now.nodes in
    let v = view_read nodes c.args.node c.args.node c.node.result refl c.node.ensures in
    subst (λ n. 1 ≤ n) (sym (c.width.ensures ∙ ap (λ (w : NodeView). width_of w.t) v)) ((orderly nodes c.args.kernel.now.made).widths c.args.node c.requires).0

pub returns-clause-at_most : goal.returns-clause-at_most
returns-clause-at_most c =
    let nodes = c.args.kernel.now.nodes in
    let v = view_read nodes c.args.node c.args.node c.node.result refl c.node.ensures in
    subst (λ n. n ≤ 128) (sym (c.width.ensures ∙ ap (λ (w : NodeView). width_of w.t) v)) ((orderly nodes c.args.kernel.now.made).widths c.args.node c.requires).1
