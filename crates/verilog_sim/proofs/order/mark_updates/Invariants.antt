use Rattle.std.proofs.Common.{◌≡◌, ◌<◌, ℕ, true, length, Some}
use Rattle.std.specs.Prelude.{slice_get}
use Rattle.rtl_ir.specs.declared.design.Update.{Update}
use Rattle.verilog_sim.specs.Feeding.{is_marked, AreNetsMarked}
use Rattle.verilog_sim.proofs.order.mark_updates.Given as goal

abbrev pub invariant-loop-update : goal.invariant-loop-update
invariant-loop-update l =
    (length l.marks ≡ length l.fn.marks)
    × ((n : ℕ) → is_marked l.fn.marks n ≡ true → is_marked l.marks n ≡ true)
    × ((j : ℕ) (u : Update) → j < l.update-index → slice_get l.updates j ≡ Some u → AreNetsMarked l.marks u)
