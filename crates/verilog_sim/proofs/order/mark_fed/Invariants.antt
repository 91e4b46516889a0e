use Rattle.std.proofs.Common.{◌≡◌, ◌≤◌, ℕ, true, length}
use Rattle.verilog_sim.specs.Feeding.{is_marked, AreMarkedFrom}
use Rattle.verilog_sim.proofs.order.mark_fed.Given as goal

abbrev pub invariant-loop-left : goal.invariant-loop-left
invariant-loop-left l =
    AreMarkedFrom l.order l.marks l.left
    × ((n : ℕ) → is_marked l.fn.marks n ≡ true → is_marked l.marks n ≡ true)
    × (length l.marks ≡ length l.fn.marks)
    × (l.left ≤ length l.order)

abbrev pub decreases-loop-left : goal.decreases-loop-left
decreases-loop-left l = l.left
