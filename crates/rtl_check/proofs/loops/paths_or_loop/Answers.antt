use Rattle.std.proofs.Common.{◌≡◌, map, inr, refl, sym, ◌∙◌, ap, subst}
use Rattle.digraph.specs.Graph.{IsGraph}
use Rattle.rtl_ir.specs.Formed.{name_of}
use Rattle.rtl_check.specs.Paths.{HasEdges}
use Rattle.rtl_check.proofs.Graphs.{is_graph, graph_of, levelled, loop_of, simple_of, paths_of}
use Rattle.rtl_check.proofs.loops.paths_or_loop.Goals as goal

pub rank-requires-clause-graph : goal.rank-requires-clause-graph
rank-requires-clause-graph c =
    let m = c.args.module.now in let tables = c.args.tables.now in let edges = c.in_ok-graph.ensures in
    subst IsGraph (sym c.as_slice.ensures.value) (is_graph m tables c.in_ok-graph.graph.items c.requires edges)

pub returns-in-Walk-clause-err : goal.returns-in-Walk-clause-err
returns-in-Walk-clause-err c =
    let m = c.args.module.now in let tables = c.args.tables.now in let edges = c.in_ok-graph.ensures in
    let g = c.as_slice.result.now in let walk = c.in-Walk.walk.items in
    let here = subst (HasEdges m tables) (sym c.as_slice.ensures.value) edges in
    let found = rw c.in-Walk.is at c.in_ok-walk.ensures in
    let names : c.in_ok-names-in-Walk.names ≡ map (name_of m) walk = c.in_ok-names-in-Walk.ensures ∙ ap (map (name_of m)) c.as_slice-in-Walk.ensures.value in
    inr (c.in_ok-names-in-Walk.names, refl, λ d part. (walk, loop_of d m g (graph_of d m tables g part here) walk found.0 found.1, names, simple_of walk found.2))

pub returns-then-not-wanted-clause-levelled : goal.returns-then-not-wanted-clause-levelled
returns-then-not-wanted-clause-levelled c = λ d part.
    let m = c.args.module.now in let tables = c.args.tables.now in let edges = c.in_ok-graph.ensures in
    let g = c.as_slice.result.now in
    let here = subst (HasEdges m tables) (sym c.as_slice.ensures.value) edges in
    let found = rw c.in-Ranks.is at c.in_ok-walk.ensures in
    levelled d m g (graph_of d m tables g part here) _ found.0

pub port_paths-requires-clause-graph : goal.port_paths-requires-clause-graph
port_paths-requires-clause-graph c =
    let m = c.args.module.now in let tables = c.args.tables.now in let edges = c.in_ok-graph.ensures in
    subst IsGraph (sym c.as_slice-in-Ranks.ensures.value) (is_graph m tables c.in_ok-graph.graph.items c.requires edges)

pub returns-clause-levelled : goal.returns-clause-levelled
returns-clause-levelled c = λ d part.
    let m = c.args.module.now in let tables = c.args.tables.now in let edges = c.in_ok-graph.ensures in
    let g = c.as_slice.result.now in
    let here = subst (HasEdges m tables) (sym c.as_slice.ensures.value) edges in
    let found = rw c.in-Ranks.is at c.in_ok-walk.ensures in
    levelled d m g (graph_of d m tables g part here) _ found.0

pub returns-clause-paths : goal.returns-clause-paths
returns-clause-paths c = λ wanted d part.
    let m = c.args.module.now in let tables = c.args.tables.now in let edges = c.in_ok-graph.ensures in
    let g = c.as_slice-in-Ranks.result.now in
    let here = subst (HasEdges m tables) (sym c.as_slice-in-Ranks.ensures.value) edges in
    paths_of d m g c.in_ok-paths-in-Ranks.paths (graph_of d m tables g part here) c.in_ok-paths-in-Ranks.ensures
