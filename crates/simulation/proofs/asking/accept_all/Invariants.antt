use Rattle.std.proofs.Common.{◌≡◌, ◌<◌, ℕ, not, false, slice_index_or}
use Rattle.simulation.proofs.asking.accept_all.Given as goal

abbrev pub invariant-loop-k : goal.invariant-loop-k
invariant-loop-k l = (j : ℕ) → j < l.k → slice_index_or l.accepts j false ≡ not (slice_index_or l.stalled j false)
