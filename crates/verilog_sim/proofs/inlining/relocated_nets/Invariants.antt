use Rattle.std.proofs.Common.{◌≡◌, ◌+◌, map, take}
use Rattle.verilog_sim.proofs.inlining.relocated_nets.Given as goal

abbrev pub invariant-loop-net : goal.invariant-loop-net
invariant-loop-net l = l.moved.items ≡ map (λ n. l.first_net + n) (take l.net-index l.nets)
