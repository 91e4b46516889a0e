use Rattle.std.proofs.Common.{◌≡◌, ℕ, ◌<◌, [], length, take, get_or}
use Rattle.manager_links.specs.Ordering.{sources_of}
use Rattle.manager_links.proofs.kernel_order.sources.Given as goal

abbrev pub invariant-loop-link : goal.invariant-loop-link
invariant-loop-link l = record {
  size : length l.lists.items ≡ l.count;
  each : (kernel : ℕ) → kernel < l.count
      → get_or l.lists.items kernel [] ≡ sources_of kernel (take l.link-index l.links);
}
