use Rattle.std.proofs.Common.{◌≡◌, ◌<◌, ℕ, true, length, get_or}
use Rattle.verilog_sim.specs.Feeding.{is_marked}
use Rattle.verilog_sim.proofs.order.own_marks.Given as goal

abbrev pub invariant-loop-net : goal.invariant-loop-net
invariant-loop-net l =
    (length l.marks.items ≡ l.net)
    × ((n : ℕ) → n < l.net → get_or l.origins n 0 ≡ n → is_marked l.marks.items n ≡ true)
