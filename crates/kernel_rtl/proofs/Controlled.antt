-- The control, as it is added.
use Rattle.std.proofs.Common.{◌≡◌, ℕ, ◌+◌, ◌*◌, ◌≤◌, true, List, length, subst}
use Rattle.std.specs.Prelude.{Result, Ok, Err, IfOk, OnOk, Option, None}
use Rattle.rtl_ir.specs.declared.design.Module.{Module}
use Rattle.rtl_build.specs.declared.signal.Signal.{Signal}
use Rattle.rtl_delays.specs.Steps.{writes_reg}
use Rattle.rtl_delays.specs.Extends.{Extends, KeepsStill, LeavesFree}
use Rattle.rtl_delays.specs.Stored.{stored_bits}
use Rattle.stream_graph.specs.declared.node.Node.{Node}
use Rattle.kernel_control.specs.declared.handshakes.Handshake.{Handshake}
use Rattle.kernel_control.specs.declared.handshakes.ControlNets.{ControlNets}
use Rattle.kernel_control.specs.Ports.{ModuleNets}
use Rattle.kernel_control.specs.Nets.{HasWidth, told_nets, AreNetsOf}
use Rattle.kernel_control.specs.Outputs.{AreDriven, DrivesAtMost}
use Rattle.kernel_control.specs.IsControl.{IsControl}
use Rattle.kernel_rtl.specs.Handshakes.{AddsControl}

made : {E : Type 0} (r : Result Signal E) (old new : Module) (nets : ControlNets) (hs : List Handshake) → OnOk r (Extends old new)
    → IfOk r (λ run. KeepsStill old new run.net nets.reset.net) → OnOk r (LeavesFree old new nets.position.net None)
    → OnOk r (writes_reg nets.position.net new.updates ≡ true)
    → OnOk r (stored_bits new ≡ stored_bits old) → OnOk r (DrivesAtMost old new (told_nets nets hs)) → OnOk r (AreDriven new (told_nets nets hs))
    → OnOk r (length new.nets ≤ length old.nets + 11 * length hs + 12)
    → IfOk r (HasWidth new 1)
    → IfOk r (λ run. (nodes : List Node) (times : ℕ → ℕ) (controls : ℕ → Option ℕ) (q : ModuleNets)
    → AreNetsOf nodes times controls q nets hs → IsControl new nodes times controls q run.net)
    → IfOk r (AddsControl old new nets hs)
made (Ok run) old new nets hs extends still others written stored leaves driven count one control = record {
  extends = extends;
  still = still;
  others = others;
  written = written;
  stored = stored;
  leaves = leaves;
  driven = driven;
  added = count;
  one = one;
  control = control;
}
made (Err e) old new nets hs extends still others written stored leaves driven count one control = tt

pub control_added : {E : Type 0} (r : Result Signal E) (old new : Module) (nets : ControlNets) (hs to : List Handshake) → hs ≡ to → OnOk r (Extends old new)
    → IfOk r (λ run. KeepsStill old new run.net nets.reset.net) → OnOk r (LeavesFree old new nets.position.net None)
    → OnOk r (writes_reg nets.position.net new.updates ≡ true)
    → OnOk r (stored_bits new ≡ stored_bits old) → OnOk r (DrivesAtMost old new (told_nets nets hs)) → OnOk r (AreDriven new (told_nets nets hs))
    → OnOk r (length new.nets ≤ length old.nets + 11 * length hs + 12)
    → IfOk r (HasWidth new 1)
    → IfOk r (λ run. (nodes : List Node) (times : ℕ → ℕ) (controls : ℕ → Option ℕ) (q : ModuleNets)
    → AreNetsOf nodes times controls q nets hs → IsControl new nodes times controls q run.net)
    → IfOk r (AddsControl old new nets to)
control_added r old new nets hs to same extends still others written stored leaves driven count one control =
    subst (λ l. IfOk r (AddsControl old new nets l)) same (made r old new nets hs extends still others written stored leaves driven count one control)
