use Rattle.std.proofs.Common.{◌≡◌, ◌<◌, ◌≤◌, ℕ, length, slice_index}
use Rattle.digraph.specs.Graph.{Reaches}
use Rattle.rtl_check.specs.Paths.{ArePaths}
use Rattle.rtl_check.proofs.paths.port_paths.Given as goal

abbrev pub invariant-loop-output : goal.invariant-loop-output
invariant-loop-output l = record {
  paths : ArePaths (Reaches l.graph) l.module (λ i o. o < l.output) l.table;
  rows : length l.table ≡ l.output;
  size : length l.seen.items ≡ length l.graph;
  seen : (x : ℕ) → slice_index l.seen.items x ≤ l.output;
}
