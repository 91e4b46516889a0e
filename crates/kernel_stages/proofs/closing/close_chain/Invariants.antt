use Rattle.std.proofs.Common.{◌≡◌, ℕ, ◌+◌, ◌*◌, ◌<◌, ◌≤◌, length, drop, get_or}
use Rattle.rtl_ir.specs.declared.design.Module.{Module}
use Rattle.rtl_delays.specs.declared.elements.Element.{Element}
use Rattle.rtl_delays.specs.Extends.{Extends, AddsNoRegister, KeepsStill}
use Rattle.rtl_delays.specs.Driven.{KeepsUndriven}
use Rattle.rtl_delays.specs.Stored.{stored_bits}
use Rattle.kernel_stages.specs.Chains.{last_shown, ring_delays, AreFreeIn}
use Rattle.kernel_stages.specs.Closing.{MayFollow, LeavesOthers, AreWritten, Follows}
use Rattle.kernel_stages.proofs.closing.close_chain.Given as goal

-- what holds of the delays that are left makes all of them
abbrev pub invariant-loop-element : goal.invariant-loop-element
invariant-loop-element l = record {
  extends : Extends l.fn.netlist l.netlist;
  still : KeepsStill l.fn.netlist l.netlist l.run.net l.reset.net;
  others : LeavesOthers l.fn.netlist l.netlist l.chain;
  written : (m : Module) → Extends l.netlist m → AreWritten m (drop l.element-index l.chain) → AreWritten m l.chain;
  registers : AddsNoRegister l.fn.netlist l.netlist;
  undriven : KeepsUndriven l.fn.netlist l.netlist;
  stored : stored_bits l.netlist ≡ stored_bits l.fn.netlist;
  nets : length l.netlist.nets + 8 * ring_delays (drop l.element-index l.chain) ≤ length l.fn.netlist.nets + 8 * ring_delays l.chain;
  free : AreFreeIn l.netlist (drop l.element-index l.chain);
  may : (j : ℕ) (d : Element) → l.element-index ≤ j → j < length l.chain → MayFollow l.netlist l.from (get_or l.chain j d);
  follows :
      (m : Module) → Extends l.netlist m → Follows m l.run.net l.reset.net l.from.net (drop l.element-index l.chain)
      → Follows m l.run.net l.reset.net l.fn.word.net l.chain;
  last : last_shown l.from (drop l.element-index l.chain) ≡ last_shown l.fn.word l.chain;
}
