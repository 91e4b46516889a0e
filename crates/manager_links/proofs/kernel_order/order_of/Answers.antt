use Rattle.std.proofs.Common.{◌∙◌, ◌<◌, length, map, ap, sym, subst}
use Rattle.std.specs.Prelude.{All}
use Rattle.digraph.specs.Graph.{RanksOrWalk}
use Rattle.manager_links.specs.Terminals.{kernel_name}
use Rattle.manager_links.proofs.Ordering.{as_graph, is_graph, ordered, loop_of, walk_within}
use Rattle.manager_links.proofs.kernel_order.order_of.Goals as goal

pub rank-requires-clause-graph : goal.rank-requires-clause-graph
rank-requires-clause-graph c =
    is_graph (length c.args.kernels.now) c.args.links.now c.as_slice.result.now c.requires.within
    (as_graph (length c.args.kernels.now) c.args.links.now c.in_ok-sources.field-0.items
    c.as_slice.result.now (c.as_slice.ensures.value ∙ c.in_ok-graph.ensures)
    c.in_ok-sources.ensures.count c.in_ok-sources.ensures.sources)

pub returns-in-Ranks-clause-ok : goal.returns-in-Ranks-clause-ok
returns-in-Ranks-clause-ok c =
    let found = subst (RanksOrWalk c.as_slice.result.now) c.in-Ranks.is c.in_ok-order.ensures in
    ordered (length c.args.kernels.now) c.args.links.now c.as_slice.result.now
    c.in-Ranks.order.nodes.items c.in-Ranks.order.rank.items c.requires.within
    (as_graph (length c.args.kernels.now) c.args.links.now c.in_ok-sources.field-0.items
    c.as_slice.result.now (c.as_slice.ensures.value ∙ c.in_ok-graph.ensures)
    c.in_ok-sources.ensures.count c.in_ok-sources.ensures.sources)
    found.0 found.1

pub names_of-requires : goal.names_of-requires
names_of-requires c =
    let found = subst (RanksOrWalk c.as_slice.result.now) c.in-Walk.is c.in_ok-order.ensures in
    subst (λ xs. All (λ k. k < length c.args.kernels.now) xs) (sym c.as_slice-in-Walk.ensures.value)
    (walk_within (length c.args.kernels.now) c.args.links.now c.as_slice.result.now c.in-Walk.walk.items
    (as_graph (length c.args.kernels.now) c.args.links.now c.in_ok-sources.field-0.items
    c.as_slice.result.now (c.as_slice.ensures.value ∙ c.in_ok-graph.ensures)
    c.in_ok-sources.ensures.count c.in_ok-sources.ensures.sources)
    found.0)

pub returns-clause-err : goal.returns-clause-err
returns-clause-err c =
    let found = subst (RanksOrWalk c.as_slice.result.now) c.in-Walk.is c.in_ok-order.ensures in
    record {
      walk = c.in-Walk.walk.items;
      loop = loop_of (length c.args.kernels.now) c.args.links.now c.as_slice.result.now
          c.in-Walk.walk.items
          (as_graph (length c.args.kernels.now) c.args.links.now c.in_ok-sources.field-0.items
          c.as_slice.result.now (c.as_slice.ensures.value ∙ c.in_ok-graph.ensures)
          c.in_ok-sources.ensures.count c.in_ok-sources.ensures.sources)
          found.0 found.1 found.2;
      said = c.in_ok-names-in-Walk.ensures
          ∙ ap (map (kernel_name c.args.kernels.now)) c.as_slice-in-Walk.ensures.value;
    }
