use Rattle.std.proofs.Common.{◌≡◌, ℕ, ◌<◌, length}
use Rattle.cycle_find.specs.Constraints.{numbers_of}
use Rattle.kernel_report.specs.Times.{kept_until}
use Rattle.kernel_report.proofs.times.kept_times.Given as goal

abbrev pub invariant-loop-node : goal.invariant-loop-node
invariant-loop-node l = record {
  counted : length l.kept.items ≡ l.node;
  kept : (u : ℕ) → u < l.node → numbers_of l.kept.items u ≡ kept_until (numbers_of l.times) l.edges u;
}
