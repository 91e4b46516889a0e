use Rattle.std.proofs.Common.{◌≡◌, ℕ, vec_len}
use Rattle.digraph.specs.Graph.{Reads}
use Rattle.rtl_check.proofs.paths.no_edges.Given as goal

abbrev pub invariant-loop : goal.invariant-loop
invariant-loop l = record {
  size : vec_len l.graph ≡ l.counter;
  none : (a b : ℕ) → Reads l.graph.items b a → ⊥;
}
