use Rattle.std.proofs.Common.{◌≡◌, ◌≤◌, ◌*◌}
use Rattle.std.specs.Prelude.{slice_index, slice_index_or, None}
use Rattle.offset_edges.specs.Problems.{base_below}
use Rattle.offset_edges.proofs.problem.base.Given as goal

abbrev pub invariant-loop-number : goal.invariant-loop-number
invariant-loop-number l =
    (l.base ≡ base_below (λ n. slice_index l.ticks n) l.kernel.nodes (λ u. slice_index_or l.readers
    u None) l.number)
    × (l.base ≤ 8192 * l.number)
