use Rattle.std.proofs.Common.{◌≡◌, ℕ, length, get_or, map, take}
use Rattle.verilog_sim.specs.Start.{held_at_start}
use Rattle.verilog_sim.proofs.start.registers.Given as goal

abbrev pub invariant-loop-k : goal.invariant-loop-k
invariant-loop-k l =
    (length l.held ≡ length l.«module».nets)
    × ((n : ℕ) → get_or l.held n 0 ≡ get_or (map (held_at_start l.fill) (take l.k l.net-items)) n 0)
