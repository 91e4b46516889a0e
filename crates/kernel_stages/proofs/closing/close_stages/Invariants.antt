use Rattle.std.proofs.Common.{◌≡◌, ℕ, ◌+◌, ◌*◌, ◌<◌, ◌≤◌, length, drop}
use Rattle.rtl_ir.specs.declared.design.Module.{Module}
use Rattle.rtl_delays.specs.Extends.{Extends, AddsNoRegister, KeepsStill}
use Rattle.rtl_delays.specs.Driven.{KeepsUndriven}
use Rattle.rtl_delays.specs.Stored.{stored_bits}
use Rattle.kernel_stages.specs.Chains.{joined, ring_delays, word_at, delays_at, AreFreeIn}
use Rattle.kernel_stages.specs.Closing.{LeavesOthers, AreWritten}
use Rattle.kernel_stages.proofs.Chaining.{Linked}
use Rattle.kernel_stages.proofs.closing.close_stages.Given as goal

-- the delays of the nodes so far follow their words, and the others are free
abbrev pub invariant-loop-node : goal.invariant-loop-node
invariant-loop-node l = record {
  extends : Extends l.fn.netlist l.netlist;
  still : KeepsStill l.fn.netlist l.netlist l.run.net l.reset.net;
  others : LeavesOthers l.fn.netlist l.netlist (joined l.delays);
  written : (m : Module) → Extends l.netlist m → AreWritten m (joined (drop l.node l.delays)) → AreWritten m (joined l.delays);
  registers : AddsNoRegister l.fn.netlist l.netlist;
  undriven : KeepsUndriven l.fn.netlist l.netlist;
  stored : stored_bits l.netlist ≡ stored_bits l.fn.netlist;
  nets : length l.netlist.nets + 8 * ring_delays (joined (drop l.node l.delays)) ≤ length l.fn.netlist.nets + 8 * ring_delays (joined l.delays);
  free : AreFreeIn l.netlist (joined (drop l.node l.delays));
  linked : (u : ℕ) → u < l.node → Linked l.netlist l.run.net l.reset.net (word_at l.words u) (delays_at l.delays u);
}
