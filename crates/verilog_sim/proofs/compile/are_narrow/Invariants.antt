use Rattle.std.proofs.Common.{◌≡◌, ◌<◌, ◌≤◌, ℕ, Some}
use Rattle.std.specs.Prelude.{slice_get}
use Rattle.rtl_ir.specs.declared.design.Update.{Update}
use Rattle.rtl_ir.specs.Value.{width_of}
use Rattle.verilog_sim.proofs.compile.are_narrow.Given as goal

abbrev pub invariant-loop-update : goal.invariant-loop-update
invariant-loop-update l = (j : ℕ) (u : Update) → j < l.update-index → slice_get l.«module».updates j ≡ Some u → width_of l.«module» u.value ≤ 64
