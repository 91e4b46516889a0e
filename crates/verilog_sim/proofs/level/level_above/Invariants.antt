use Rattle.std.proofs.Common.{◌≡◌, ◌<◌, ◌≤◌, ℕ, Some, get_or}
use Rattle.std.specs.Prelude.{slice_get}
use Rattle.rtl_ir.specs.Operands.{reads}
use Rattle.verilog_sim.proofs.level.level_above.Given as goal

abbrev pub invariant-loop-net : goal.invariant-loop-net
invariant-loop-net l =
    ((j n : ℕ) → j < l.net-index → slice_get (reads l.expr) j ≡ Some n → get_or l.levels n 0 ≤ l.level)
    × ((bound : ℕ) → ((k : ℕ) → get_or l.levels k 0 ≤ bound) → l.level ≤ bound)
