-- Assignments that read earlier nets alone, and no outputs.
use Rattle.std.specs.Prelude.{◌≡◌, ℕ, ◌<◌, false, length, Some, slice_get}
use Rattle.rtl_ir.specs.declared.design.Module.{Module}
use Rattle.rtl_ir.specs.declared.design.Assign.{Assign}
use Rattle.rtl_ir.specs.Operands.{IsRead}
use Rattle.rtl_build.specs.Wires.{is_output}

-- An assignment reads nets of the module that are no outputs, and earlier nets alone if its target
-- is no output.
pub record IsOrderedAssign (m : Module) (a : Assign) : Type 0 where
  pub within : (n : ℕ) → IsRead a.expr n → n < length m.nets
  pub inner : (n : ℕ) → IsRead a.expr n → is_output m.ports n ≡ false
  pub earlier : (n : ℕ) → IsRead a.expr n → is_output m.ports a.target ≡ false → n < a.target

-- each assignment of the module is so
abbrev pub IsOrdered : Module → Type 0
IsOrdered m = (j : ℕ) (a : Assign) → slice_get m.assigns j ≡ Some a → IsOrderedAssign m a
