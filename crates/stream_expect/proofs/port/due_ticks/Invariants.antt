use Rattle.std.proofs.Common.{◌≡◌, ℕ, ◌<◌, false, length}
use Rattle.std.specs.Prelude.{slice_index_or}
use Rattle.stream_equations.specs.Equations.{enabled}
use Rattle.kernel_words.specs.Streams.{values_of}
use Rattle.stream_expect.proofs.port.due_ticks.Given as goal

abbrev pub invariant-loop-tick : goal.invariant-loop-tick
invariant-loop-tick l = record {
  size : length l.due ≡ l.tick;
  each : (t : ℕ) → t < l.tick → slice_index_or l.due t false ≡ enabled l.kernel.nodes (values_of l.streams) l.port t;
}
