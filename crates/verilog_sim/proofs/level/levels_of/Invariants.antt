use Rattle.std.proofs.Common.{◌≡◌, ◌<◌, ◌≤◌, ℕ, Some, get_or, length}
use Rattle.std.specs.Prelude.{slice_get}
use Rattle.rtl_ir.specs.declared.design.Assign.{Assign}
use Rattle.rtl_ir.specs.Operands.{IsRead}
use Rattle.verilog_sim.proofs.level.levels_of.Given as goal

abbrev pub invariant-loop-assign : goal.invariant-loop-assign
invariant-loop-assign l =
    (length l.levels.items ≡ length l.module.nets)
    × ((n : ℕ) → get_or l.levels.items n 0 ≤ l.assign-index)
    × ((i n : ℕ) (a : Assign) → i < l.assign-index → slice_get l.order i ≡ Some a → IsRead a.expr n → get_or l.levels.items n 0 < get_or l.levels.items a.target 0)
