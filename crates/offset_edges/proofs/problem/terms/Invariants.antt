use Rattle.std.proofs.Common.{◌≡◌}
use Rattle.std.specs.Prelude.{slice_index_or, None}
use Rattle.offset_edges.specs.Problems.{terms_below}
use Rattle.offset_edges.proofs.problem.terms.Given as goal

abbrev pub invariant-loop-number : goal.invariant-loop-number
invariant-loop-number l = l.terms ≡ terms_below l.kernel.nodes (λ u. slice_index_or l.readers u
    None) l.number
