use Rattle.std.proofs.Common.{◌≡◌, take}
use Rattle.std.specs.Prelude.{slice_index}
use Rattle.offset_edges.specs.Problems.{arcs_over}
use Rattle.offset_edges.proofs.problem.arcs.Given as goal

abbrev pub invariant-loop-edge : goal.invariant-loop-edge
invariant-loop-edge l = l.arcs ≡ arcs_over l.nodes (λ n. slice_index l.ticks n) (take l.edge-index
    l.edges)
