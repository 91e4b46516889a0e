use Rattle.std.proofs.Common.{◌≡◌, ℕ, ◌<◌, [], length, slice_index}
use Rattle.digraph.specs.Search.{Searches}
use Rattle.digraph.proofs.ranking.rank.Given as goal

abbrev pub invariant-loop-node : goal.invariant-loop-node
invariant-loop-node l = record {
  searches : Searches l.graph l.search.rank.items l.search.fresh.items l.search.path.items l.search.next.items l.search.order.items;
  empty : l.search.path.items ≡ [];
  size : l.n ≡ length l.graph;
  ranked : (x : ℕ) → x < l.node → 0 < slice_index l.search.rank.items x;
}
