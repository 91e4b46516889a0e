use Rattle.std.proofs.Common.{◌≤◌, ◌<◌, ◌-◌, ◌^◌}
use Rattle.link_fifo.proofs.building.bits_for.Given as goal

abbrev pub invariant-loop-bits : goal.invariant-loop-bits
invariant-loop-bits l = (2 ^ (l.bits - 1) ≤ l.number) × (0 < l.bits) × (l.bits ≤ 17)

abbrev pub decreases-loop-bits : goal.decreases-loop-bits
decreases-loop-bits l = 17 - l.bits
