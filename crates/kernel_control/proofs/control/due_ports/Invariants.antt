use Rattle.std.proofs.Common.{◌*◌, take}
use Rattle.rtl_ir.specs.Value.{Family, Contents}
use Rattle.rtl_ir.specs.Grow.{Holds}
use Rattle.rtl_build.specs.declared.signal.Signal.{Signal}
use Rattle.rtl_build.specs.Wires.{AddsWires}
use Rattle.rtl_build.specs.Signals.{HasSignal}
use Rattle.kernel_control.specs.Due.{AreDuePorts}
use Rattle.kernel_control.proofs.control.due_ports.Given as goal

-- the bits of the ports so far
abbrev pub invariant-loop-port : goal.invariant-loop-port
invariant-loop-port l = record {
  adds : AddsWires l.fn.netlist l.netlist (7 * l.port-index);
  due : AreDuePorts l.netlist l.position.net l.ticks.net (take l.port-index l.ports) l.made.items;
  keeps : (t : Signal) → HasSignal l.fn.netlist t → HasSignal l.netlist t;
  before : (c : Contents) (v : Family) → Holds l.netlist c v → Holds l.fn.netlist c v;
}
