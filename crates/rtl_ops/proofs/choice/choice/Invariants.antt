use Rattle.std.proofs.Common.{◌≡◌, ◌+◌, ◌*◌}
use Rattle.rtl_ir.specs.Value.{Family, Contents}
use Rattle.rtl_ir.specs.Grow.{Holds}
use Rattle.rtl_build.specs.declared.signal.Signal.{Signal}
use Rattle.rtl_build.specs.Wires.{AddsWires}
use Rattle.rtl_build.specs.Signals.{HasSignal}
use Rattle.rtl_ops.proofs.Options.{Prefers}
use Rattle.rtl_ops.proofs.choice.choice.Given as goal

-- what was chosen so far is the option that the selector numbers, among the first
abbrev pub invariant-loop-k : goal.invariant-loop-k
invariant-loop-k l = record {
  adds : AddsWires l.fn.netlist l.netlist (3 * l.k);
  chosen : HasSignal l.netlist l.chosen;
  width : l.chosen.width ≡ l.width;
  prefers : Prefers l.netlist l.options l.selector (l.k + 1) l.chosen;
  keeps : (t : Signal) → HasSignal l.fn.netlist t → HasSignal l.netlist t;
  before : (c : Contents) (v : Family) → Holds l.netlist c v → Holds l.fn.netlist c v;
}
