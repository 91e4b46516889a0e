use Rattle.std.proofs.Common.{◌≡◌, ◌+◌, ◌≤◌, length, drop}
use Rattle.rtl_ir.specs.declared.design.Module.{Module}
use Rattle.rtl_delays.specs.Extends.{Extends}
use Rattle.rtl_delays.specs.Stored.{stored_bits}
use Rattle.kernel_control.specs.Outputs.{AreUndriven, AreDriven, DrivesAtMost}
use Rattle.kernel_control.specs.Answers.{answers_of, AreTold}
use Rattle.kernel_control.proofs.answers.answer_all.Given as goal

-- what holds of the ports that are left makes all of them
abbrev pub invariant-loop-port : goal.invariant-loop-port
invariant-loop-port l = record {
  extends : Extends l.fn.netlist l.netlist;
  updates : l.netlist.updates ≡ l.fn.netlist.updates;
  stored : stored_bits l.netlist ≡ stored_bits l.fn.netlist;
  leaves : DrivesAtMost l.fn.netlist l.netlist (answers_of l.ports);
  undriven : AreUndriven l.netlist (answers_of (drop l.port-index l.ports));
  driven : (m : Module) → Extends l.netlist m → AreDriven m (answers_of (drop l.port-index l.ports)) → AreDriven m (answers_of l.ports);
  told : (m : Module) → Extends l.netlist m → AreTold m l.run.net (drop l.port-index l.ports) → AreTold m l.run.net l.ports;
  nets : length l.netlist.nets + length (drop l.port-index l.ports) ≤ length l.fn.netlist.nets + length l.ports;
}
