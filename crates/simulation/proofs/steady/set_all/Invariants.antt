use Rattle.std.proofs.Common.{◌≡◌, ◌++◌, length, take}
use Rattle.simulation.proofs.steady.set_all.Given as goal

abbrev pub invariant-loop-port : goal.invariant-loop-port
invariant-loop-port l = record {
  size : length l.sim.steady ≡ length l.fn.sim.steady;
  kept : l.sim ≡ record l.fn.sim { steady = l.sim.steady };
  set : take l.port l.sim.steady ≡ take l.port (l.ticks ++ l.scalars);
}
