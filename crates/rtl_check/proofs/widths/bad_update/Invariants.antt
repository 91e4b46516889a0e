use Rattle.std.proofs.Common.{◌≡◌, ◌<◌, ℕ, Some}
use Rattle.std.specs.Prelude.{slice_get}
use Rattle.rtl_ir.specs.declared.design.Update.{Update}
use Rattle.rtl_ir.specs.Typed.{IsUpdateTyped}
use Rattle.rtl_check.proofs.widths.bad_update.Given as goal

abbrev pub invariant-loop-place : goal.invariant-loop-place
invariant-loop-place l =
    (j : ℕ) (u : Update) → j < l.place → slice_get l.module.updates j ≡ Some u → IsUpdateTyped l.module u
