use Rattle.std.proofs.Common.{◌≡◌, ◌+◌, ◌*◌, ◌++◌, List, length, drop}
use Rattle.std.specs.Prelude.{All, sum_by}
use Rattle.rtl_delays.specs.declared.elements.Element.{Element}
use Rattle.rtl_delays.specs.Extends.{Extends}
use Rattle.rtl_delays.specs.Driven.{KeepsUndriven}
use Rattle.rtl_delays.specs.Stored.{stored_bits}
use Rattle.rtl_delays.specs.Elements.{shown, AreFree}
use Rattle.kernel_stages.specs.Numbers.{differences, last_from, rings_from, place_bits, pointer_bits}
use Rattle.kernel_stages.specs.Chains.{IsChain, AddsRegistersOf}
use Rattle.kernel_stages.proofs.Climbing.{Climbs}
use Rattle.kernel_stages.proofs.starting.start_chain.Given as goal

-- the delays of the stages so far
abbrev pub invariant-loop-stage : goal.invariant-loop-stage
invariant-loop-stage l = record {
  extends : Extends l.fn.netlist l.netlist;
  climbs : Climbs l.prior (drop l.stage-index l.stages);
  late : (es : List Element) → IsChain l.prior (drop l.stage-index l.stages) es → IsChain 0 l.stages (l.chain ++ es);
  wide : All (λ e. (shown e).width ≡ l.width) l.chain;
  free : AreFree l.netlist (length l.fn.netlist.nets) (length l.fn.netlist.mems) l.chain (length l.netlist.nets) (length l.netlist.mems);
  updates : l.netlist.updates ≡ l.fn.netlist.updates;
  only : AddsRegistersOf l.fn.netlist l.netlist l.chain;
  undriven : KeepsUndriven l.fn.netlist l.netlist;
  stored :
      stored_bits l.netlist + l.width * last_from l.prior (drop l.stage-index l.stages) + sum_by place_bits (differences l.prior (drop l.stage-index l.stages))
      ≡ stored_bits l.fn.netlist + l.width * l.prior + (l.width * last_from 0 l.stages + pointer_bits l.stages);
  nets :
      length l.netlist.nets + (length (drop l.stage-index l.stages) + rings_from l.prior (drop l.stage-index l.stages))
      ≡ length l.fn.netlist.nets + (length l.stages + rings_from 0 l.stages);
  mems : length l.netlist.mems + rings_from l.prior (drop l.stage-index l.stages) ≡ length l.fn.netlist.mems + rings_from 0 l.stages;
}
