use Rattle.std.proofs.Common.{◌≡◌, ⊎_elim, ℕ, List, length, sym, subst, arith}
use Rattle.std.proofs.lemmas.List.{with_items_is}
use Rattle.digraph.specs.Graph.{Reads}
use Rattle.rtl_check.specs.Paths.{IsSmall, HasEdges}
use Rattle.rtl_check.proofs.paths.feeding.Goals as goal

pub returns : goal.returns
returns c =
    let g = c.add_edges.new.graph in let m = c.args.module.now in let tables = c.args.tables.now in
    let size : length g ≡ c.in_ok-graph.graph.len = omega (arith, c.add_edges.auto.graph, c.as_mut_slice.ensures.len) in
    let are = with_items_is c.in_ok-graph.graph g size in
    let added = c.in_ok-add_edges.ensures.added in
    let here : HasEdges m tables g = record {
      size = omega (arith, size, c.in_ok-graph.ensures.size);
      small = c.in_ok-add_edges.ensures.small (subst IsSmall (sym c.as_mut_slice.ensures.value) (λ a b r. absurd (c.in_ok-graph.ensures.none a b r)));
      added = added.added;
      only = λ a b r. ⊎_elim (λ o. absurd (c.in_ok-graph.ensures.none a b (subst (λ (l : List (List ℕ)). Reads l b a) c.as_mut_slice.ensures.value o))) (λ e. e) (added.only a b r);
    } in
    subst (HasEdges m tables) (sym are) here
