use Rattle.std.proofs.Common.{arith, ◌∙◌, ap, sym, subst}
use Rattle.fix_arith.specs.Types.{width_of, HasWidth}
use Rattle.stream_graph.proofs.NodeLemmas.{orderly}
use Rattle.stream_graph.proofs.Reading.{view_read}
use Rattle.offset_edges.proofs.problem.width.Goals as goal

pub width-requires : goal.width-requires
width-requires c =
    let nodes = c.args.kernel.now.nodes in
    let v = view_read nodes c.new.result c.args.number c.node.result c.new.ensures c.node.ensures in
    subst (λ w. HasWidth w.t) (sym v) ((orderly nodes c.args.kernel.now.made).widths c.args.number
    c.requires)

pub returns-clause-value : goal.returns-clause-value
returns-clause-value c =
    c.width.ensures
    ∙ ap (λ w. width_of w.t) (view_read c.args.kernel.now.nodes c.new.result c.args.number
    c.node.result c.new.ensures c.node.ensures)

pub returns-clause-at_most : goal.returns-clause-at_most
returns-clause-at_most c =
    let nodes = c.args.kernel.now.nodes in
    let v = ap (λ w. width_of w.t) (view_read nodes c.new.result c.args.number c.node.result
    c.new.ensures c.node.ensures) in
    let w = (orderly nodes c.args.kernel.now.made).widths c.args.number c.requires in
    let most = w.1 in
    let e = c.width.ensures in
    omega arith
