use Rattle.std.proofs.Common.{◌≡◌, max, drop}
use Rattle.kernel_control.specs.Due.{latest_time}
use Rattle.kernel_control.proofs.control.latest.Given as goal

-- the greatest time so far and those of the ports that are left
abbrev pub invariant-loop-port : goal.invariant-loop-port
invariant-loop-port l = max l.last (latest_time (drop l.port-index l.ports)) ≡ latest_time l.ports
