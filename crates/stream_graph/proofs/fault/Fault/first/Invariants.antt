use Rattle.std.proofs.Common.{ℕ, ◌<◌}
use Rattle.stream_graph.specs.Faults.{HasAt}
use Rattle.stream_graph.proofs.fault.Fault.first.Given as goal

abbrev pub invariant-loop-number : goal.invariant-loop-number
invariant-loop-number l = (k : ℕ) → k < l.number → HasAt l.self l.nodes k → ⊥
