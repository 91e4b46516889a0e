use Rattle.std.proofs.Common.{◌≡◌, ◌++◌, map, drop}
use Rattle.stream_graph.specs.LookUps.{type_at}
use Rattle.kernel_wiring.proofs.taps.types_of.Given as goal

-- the types so far and those of the operands that are left are all
abbrev pub invariant-loop-operand : goal.invariant-loop-operand
invariant-loop-operand l = record {
  told : l.types.items ++ map (type_at l.kernel.nodes) (drop l.operand-index l.operands) ≡ map (type_at l.kernel.nodes) l.operands;
}
