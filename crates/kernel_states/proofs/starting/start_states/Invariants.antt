use Rattle.std.proofs.Common.{◌≡◌, ℕ, ◌+◌, ◌<◌, length, take}
use Rattle.rtl_delays.specs.Extends.{Extends}
use Rattle.rtl_delays.specs.Driven.{KeepsUndriven}
use Rattle.rtl_delays.specs.Stored.{stored_bits}
use Rattle.kernel_states.specs.States.{state_bits, state_count, state_at, IsState, AreFree}
use Rattle.kernel_states.specs.Starting.{AddsRegistersOf}
use Rattle.kernel_states.proofs.starting.start_states.Given as goal

-- the registers of the nodes so far
abbrev pub invariant-loop-number : goal.invariant-loop-number
invariant-loop-number l = record {
  extends : Extends l.fn.netlist l.netlist;
  counted : length l.states ≡ l.number;
  each : (n : ℕ) → n < l.number → IsState l.netlist l.kernel.nodes n (state_at l.states n);
  free : AreFree l.netlist (length l.fn.netlist.nets) l.states (length l.netlist.nets);
  updates : l.netlist.updates ≡ l.fn.netlist.updates;
  only : AddsRegistersOf l.fn.netlist l.netlist l.states;
  undriven : KeepsUndriven l.fn.netlist l.netlist;
  stored : stored_bits l.netlist ≡ stored_bits l.fn.netlist + state_bits (take l.number l.kernel.nodes);
  nets : length l.netlist.nets ≡ length l.fn.netlist.nets + state_count (take l.number l.kernel.nodes);
  mems : l.netlist.mems ≡ l.fn.netlist.mems;
}
