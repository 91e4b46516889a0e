use Rattle.std.proofs.Common.{arith, ◌≡◌, ◌≤◌, ◌^◌, length, sym, subst, ap, ◌∙◌}
use Rattle.std.specs.Prelude.{All}
use Rattle.offset_edges.specs.Edges.{edges_of, edges_below, IsEdge}
use Rattle.stream_graph.proofs.NodeLemmas.{orderly}
use Rattle.offset_edges.proofs.EdgeLemmas.{edges_are, edges_few}
use Rattle.offset_edges.proofs.edge.edge_list.Goals as goal

-- the loop has come to the last node
all_read : (c : goal.After-drop-sources-2) → c.loop-number.edges.items ≡ edges_of
    c.args.kernel.now.nodes
all_read c =
    let e : c.loop-number.number ≡ length c.args.kernel.now.nodes =
    omega (
      arith,
      c.loop-number.auto.number-end,
      c.loop-number-test.false,
      c.count-number-end.ensures,
    ) in
    c.loop-number.invariant ∙ ap (edges_below c.args.kernel.now.nodes) e

pub returns-clause-each : goal.returns-clause-each
returns-clause-each c =
    let nodes = c.args.kernel.now.nodes in
    subst (λ es. All (IsEdge nodes) es) (sym (all_read c))
    (edges_are nodes (orderly nodes c.args.kernel.now.made) c.args.kernel.now.few)

pub returns-clause-few : goal.returns-clause-few
returns-clause-few c =
    let nodes = c.args.kernel.now.nodes in
    subst (λ es. length es ≤ 2 ^ 19) (sym (all_read c))
    (edges_few nodes (orderly nodes c.args.kernel.now.made) c.args.kernel.now.few)
