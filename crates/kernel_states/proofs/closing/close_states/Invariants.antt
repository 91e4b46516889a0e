use Rattle.std.proofs.Common.{◌≡◌, ℕ, ◌+◌, ◌<◌, ◌≤◌, true, length, take, drop}
use Rattle.std.specs.Prelude.{slice_index}
use Rattle.rtl_delays.specs.Steps.{writes_reg}
use Rattle.rtl_delays.specs.Extends.{Extends, AddsNoRegister, KeepsStill}
use Rattle.rtl_delays.specs.Driven.{KeepsUndriven}
use Rattle.rtl_delays.specs.Stored.{stored_bits}
use Rattle.kernel_states.specs.States.{step_nets, state_at, is_state_of}
use Rattle.kernel_states.specs.Closing.{word_at, LeavesOthers}
use Rattle.kernel_states.proofs.Closes.{AreFreeFrom, IsClosed}
use Rattle.kernel_states.proofs.closing.close_states.Given as goal

-- the states of the nodes so far step, and the others are free
abbrev pub invariant-loop-number : goal.invariant-loop-number
invariant-loop-number l = record {
  extends : Extends l.fn.netlist l.netlist;
  still : KeepsStill l.fn.netlist l.netlist l.nets.run.net l.nets.reset.net;
  others : LeavesOthers l.fn.netlist l.netlist (take l.number l.states);
  written : (k : ℕ) → is_state_of (take l.number l.states) k ≡ true → writes_reg k l.netlist.updates ≡ true;
  registers : AddsNoRegister l.fn.netlist l.netlist;
  undriven : KeepsUndriven l.fn.netlist l.netlist;
  stored : stored_bits l.netlist ≡ stored_bits l.fn.netlist;
  nets : length l.netlist.nets ≤ length l.fn.netlist.nets + step_nets (take l.number l.kernel.nodes);
  mems : l.netlist.mems ≡ l.fn.netlist.mems;
  free : AreFreeFrom l.netlist (drop l.number l.states);
  closed : (n : ℕ) → n < l.number → IsClosed l.netlist l.kernel.nodes n (slice_index l.times n) (word_at l.words n) l.nets (state_at l.states n);
}
