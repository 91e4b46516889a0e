use Rattle.std.proofs.Common.{◌≡◌, ◌*◌, eqb, drop}
use Rattle.rtl_ir.specs.Value.{Family, Contents}
use Rattle.rtl_ir.specs.Grow.{Holds}
use Rattle.rtl_build.specs.declared.signal.Signal.{Signal}
use Rattle.rtl_build.specs.Wires.{AddsWires}
use Rattle.rtl_build.specs.Signals.{HasSignal}
use Rattle.kernel_control.specs.Nets.{HasWidth}
use Rattle.kernel_control.specs.Serving.{all_serve}
use Rattle.kernel_control.proofs.serving.all_served.Given as goal

-- the test so far and the ports that are left are the first test and all ports
abbrev pub invariant-loop-port : goal.invariant-loop-port
invariant-loop-port l = record {
  adds : AddsWires l.fn.netlist l.netlist (3 * l.port-index);
  all : HasWidth l.netlist 1 l.all;
  value : (c : Contents) (v : Family) → Holds l.netlist c v → all_serve (eqb (v l.all.net) 1) (drop l.port-index l.ports) v ≡ all_serve
      (eqb (v l.fn.test.net) 1) l.ports v;
  keeps : (t : Signal) → HasSignal l.fn.netlist t → HasSignal l.netlist t;
  before : (c : Contents) (v : Family) → Holds l.netlist c v → Holds l.fn.netlist c v;
}
