use Rattle.std.proofs.Common.{◌≡◌, ℕ, length, drop}
use Rattle.std.specs.Prelude.{slice_index_or, None}
use Rattle.cycle_find.specs.Constraints.{numbers_of}
use Rattle.kernel_report.specs.Times.{last_read}
use Rattle.kernel_report.proofs.times.last_reads.Given as goal

abbrev pub invariant-loop-number : goal.invariant-loop-number
invariant-loop-number l = record {
  counted : length l.reads.items ≡ length l.times;
  reads : (u : ℕ) → slice_index_or l.reads.items u None ≡ last_read (numbers_of l.times) (drop l.number l.edges) u;
}
