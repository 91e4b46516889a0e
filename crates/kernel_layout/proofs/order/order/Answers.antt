use Rattle.std.proofs.Common.{◌≡◌, List, ℕ, map, sym, ◌∙◌, subst}
use Rattle.digraph.specs.Graph.{IsGraph, IsClosedWalk}
use Rattle.kernel_layout.specs.Reads.{direct_of}
use Rattle.kernel_layout.proofs.order.order.Goals as goal

pub rank-requires-clause-graph : goal.rank-requires-clause-graph
rank-requires-clause-graph c = subst IsGraph (sym (c.as_slice.ensures.value ∙ c.in_ok-graph.ensures)) c.requires.loops.graph

pub unreachable-requires : goal.unreachable-requires
unreachable-requires c =
    let walk = c.in-Walk.field-0.items in
    let found = rw c.in-Walk.is at c.in_ok-order.ensures in
    let same : c.as_slice.result.now ≡ map direct_of c.args.reads.now = c.as_slice.ensures.value ∙ c.in_ok-graph.ensures in
    c.requires.loops.none walk (subst (λ (g : List (List ℕ)). IsClosedWalk g walk) same found.0)
