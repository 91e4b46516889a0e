use Rattle.std.proofs.Common.{◌≡◌, replicate, None}
use Rattle.verilog_sim.proofs.order.undriven.Given as goal

abbrev pub invariant-loop-net : goal.invariant-loop-net
invariant-loop-net l = l.drivers.items ≡ replicate l._net None
