use Rattle.std.proofs.Common.{◌≡◌, ℕ, ◌+◌, ◌<◌, [], length, drop, get_or}
use Rattle.std.specs.Prelude.{All}
use Rattle.rtl_delays.specs.Extends.{Extends}
use Rattle.rtl_delays.specs.Driven.{KeepsUndriven}
use Rattle.rtl_delays.specs.Stored.{stored_bits}
use Rattle.rtl_delays.specs.Elements.{shown, AreFree}
use Rattle.kernel_stages.specs.Numbers.{register_count, wait_count, ring_count, pipeline_bits, all_word_bits, all_pointer_bits}
use Rattle.kernel_stages.specs.Chains.{elements_of, delays_at, joined, IsDelayedBy, AddsRegistersOf}
use Rattle.kernel_stages.proofs.Climbing.{NodesLeft}
use Rattle.kernel_stages.proofs.starting.start_stages.Given as goal

-- the delays of the nodes so far
abbrev pub invariant-loop-node : goal.invariant-loop-node
invariant-loop-node l = record {
  extends : Extends l.fn.netlist l.netlist;
  counted : length l.delays ≡ l.node;
  late : (u : ℕ) → u < length l.delays → IsDelayedBy (get_or l.latencies u 0) (get_or l.waits u []) (delays_at l.delays u);
  wide : (u : ℕ) → u < length l.delays → All (λ e. (shown e).width ≡ get_or l.widths u 0) (elements_of (delays_at l.delays u));
  free : AreFree l.netlist (length l.fn.netlist.nets) (length l.fn.netlist.mems) (joined l.delays) (length l.netlist.nets) (length l.netlist.mems);
  updates : l.netlist.updates ≡ l.fn.netlist.updates;
  only : AddsRegistersOf l.fn.netlist l.netlist (joined l.delays);
  undriven : KeepsUndriven l.fn.netlist l.netlist;
  stored : NodesLeft (stored_bits l.netlist)
      (stored_bits l.fn.netlist + pipeline_bits l.widths l.latencies + all_word_bits l.widths l.waits + all_pointer_bits l.waits)
      (drop l.node l.widths) (drop l.node l.latencies) (drop l.node l.waits);
  nets :
      length l.netlist.nets + (register_count (drop l.node l.latencies) + wait_count (drop l.node l.waits) + ring_count (drop l.node l.waits))
      ≡ length l.fn.netlist.nets + (register_count l.latencies + wait_count l.waits + ring_count l.waits);
  mems : length l.netlist.mems + ring_count (drop l.node l.waits) ≡ length l.fn.netlist.mems + ring_count l.waits;
}
