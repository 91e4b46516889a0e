use Rattle.std.proofs.Common.{ℕ, ◌<◌, ◌≤◌, length}
use Rattle.std.specs.Prelude.{slice_index}
use Rattle.offset_edges.specs.Walks.{start_of}
use Rattle.offset_edges.proofs.walk.least_start.Given as goal

abbrev pub invariant-loop-place : goal.invariant-loop-place
invariant-loop-place l =
    (l.least < length l.numbers)
    × ((i : ℕ) → i < l.place → start_of l.edges (slice_index l.numbers l.least) ≤ start_of l.edges
    (slice_index l.numbers i))
