use Rattle.std.proofs.Common.{◌≡◌, ◌<◌, ℕ, length, get_or}
use Rattle.verilog_sim.proofs.origin.own_origins.Given as goal

abbrev pub invariant-loop-net : goal.invariant-loop-net
invariant-loop-net l = (length l.origins.items ≡ l.net) × ((n : ℕ) → n < l.net → get_or l.origins.items n 0 ≡ n)
