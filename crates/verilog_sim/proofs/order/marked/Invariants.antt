use Rattle.std.proofs.Common.{◌≡◌, take}
use Rattle.verilog_sim.specs.Feeding.{marked_of}
use Rattle.verilog_sim.proofs.order.marked.Given as goal

abbrev pub invariant-loop-assign : goal.invariant-loop-assign
invariant-loop-assign l = l.picked.items ≡ marked_of l.marks (take l.assign-index l.order)
