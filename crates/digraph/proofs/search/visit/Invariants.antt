use Rattle.std.proofs.Common.{◌≡◌, ℕ, ◌<◌, length, slice_index}
use Rattle.digraph.specs.Search.{Searches, work}
use Rattle.digraph.proofs.search.visit.Given as goal

abbrev pub invariant-loop-search : goal.invariant-loop-search
invariant-loop-search l = record {
  searches : Searches l.graph l.search.rank.items l.search.fresh.items l.search.path.items l.search.next.items l.search.order.items;
  kept : (x : ℕ) → 0 < slice_index l.fn.search.rank.items x → 0 < slice_index l.search.rank.items x;
  root : 0 < length l.search.path.items → slice_index l.search.path.items 0 ≡ l.fn.node;
  ended : length l.search.path.items ≡ 0 → 0 < slice_index l.search.rank.items l.fn.node;
}

abbrev pub decreases-loop-search : goal.decreases-loop-search
decreases-loop-search l = work l.search.fresh.items l.search.path.items
