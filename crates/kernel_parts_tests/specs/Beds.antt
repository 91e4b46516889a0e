-- Modules of ports, to which parts of kernels are added.
use Rattle.std.specs.Prelude.{◌≤◌, length}
use Rattle.rtl_ir.specs.declared.design.Module.{Module}
use Rattle.rtl_build.specs.declared.signal.Signal.{Signal}
use Rattle.rtl_build.specs.Signals.{HasSignal}
use Rattle.rtl_build.specs.Ports.{HasOutput}
use Rattle.rtl_delays.specs.Steps.{IsSound}
use Rattle.rtl_delays.specs.Partial.{HasPortsAlone}
use Rattle.kernel_control.specs.Nets.{HasWidth, HasBitOutput}
use Rattle.kernel_parts_tests.specs.declared.signals.Inputs.{Inputs}
use Rattle.kernel_parts_tests.specs.declared.signals.Frame.{Frame}

-- ports were added, and what the module had it still has
pub record AddsPorts (old new : Module) : Type 0 where
  pub alone : HasPortsAlone new
  pub nets : length old.nets ≤ length new.nets
  pub keeps : (t : Signal) → HasSignal old t → HasSignal new t
  pub outputs : (t : Signal) → HasOutput old t → HasOutput new t

-- the inputs are signals of the module, of their widths
pub record HasInputs (m : Module) (i : Inputs) : Type 0 where
  pub sound : IsSound m
  pub run : HasWidth m 1 i.run
  pub reset : HasWidth m 1 i.reset
  pub narrow : HasWidth m 8 i.narrow
  pub wide : HasWidth m 16 i.wide

-- the nets of the frame are there, with their widths
pub record HasFrame (m : Module) (f : Frame) : Type 0 where
  pub reset : HasWidth m 1 f.reset
  pub ticks : HasWidth m 48 f.ticks
  pub hold : HasWidth m 1 f.hold
  pub ended : HasBitOutput m f.ended
