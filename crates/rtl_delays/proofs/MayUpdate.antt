-- Modules that grow by wires, registers, memories, updates and the values of outputs.
use Rattle.std.specs.Prelude.{◌<◌, length}
use Rattle.rtl_ir.specs.declared.design.Module.{Module}
use Rattle.rtl_ir.specs.declared.design.Update.{Update}
use Rattle.rtl_ir.specs.Typed.{IsUpdateTyped}
use Rattle.rtl_delays.specs.Steps.{IsFree, IsTargetIn, IsKept}

-- An update that may be added: in range and typed, of a register or a memory that nothing writes
-- yet.
pub record MayUpdate (m : Module) (u : Update) : Type 0 where
  pub free : IsFree m.updates u.target
  pub enable : u.enable < length m.nets
  pub value : u.value < length m.nets
  pub target : IsTargetIn (length m.nets) (length m.mems) u.target
  pub kept : IsKept m u.target
  pub typed : IsUpdateTyped m u
