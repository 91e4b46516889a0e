use Rattle.std.proofs.Common.{◌≡◌, take, map}
use Rattle.verilog_sim.specs.Origins.{update_at}
use Rattle.verilog_sim.proofs.origin.updates_at.Given as goal

abbrev pub invariant-loop-update : goal.invariant-loop-update
invariant-loop-update l = l.direct.items ≡ map (update_at l.origins) (take l.update-index l.updates)
