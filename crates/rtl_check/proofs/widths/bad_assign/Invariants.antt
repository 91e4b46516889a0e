use Rattle.std.proofs.Common.{◌≡◌, ◌<◌, ℕ, Some}
use Rattle.std.specs.Prelude.{slice_get}
use Rattle.rtl_ir.specs.declared.design.Assign.{Assign}
use Rattle.rtl_ir.specs.Value.{width_of}
use Rattle.rtl_ir.specs.Typed.{IsTyped}
use Rattle.rtl_check.proofs.widths.bad_assign.Given as goal

abbrev pub invariant-loop-place : goal.invariant-loop-place
invariant-loop-place l =
    (j : ℕ) (a : Assign) → j < l.place → slice_get l.module.assigns j ≡ Some a → IsTyped l.module (width_of l.module a.target) a.expr
