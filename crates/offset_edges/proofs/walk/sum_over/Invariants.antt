use Rattle.std.proofs.Common.{◌≡◌, ◌≤◌, ◌*◌, ◌^◌, take, map}
use Rattle.std.specs.Prelude.{slice_index, unsigned_abs}
use Rattle.offset_edges.specs.Walks.{start_of, offsets_of, latencies_of}
use Rattle.offset_edges.proofs.walk.sum_over.Given as goal

abbrev pub invariant-loop-number : goal.invariant-loop-number
invariant-loop-number l =
    (l.nodes ≡ map (start_of l.edges) (take l.number-index l.numbers))
    × (l.latency ≡ latencies_of (λ n. slice_index l.ticks n) l.edges (take l.number-index
    l.numbers))
    × (l.offset ≡ offsets_of l.edges (take l.number-index l.numbers))
    × (l.latency ≤ 64 * l.number-index)
    × (unsigned_abs l.offset ≤ 2 ^ 32 * l.number-index)
