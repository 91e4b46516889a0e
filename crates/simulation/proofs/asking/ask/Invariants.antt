use Rattle.std.proofs.Common.{◌<◌, ℕ, false, slice_index_or}
use Rattle.simulation.proofs.asking.ask.Given as goal

abbrev pub invariant-loop-port : goal.invariant-loop-port
invariant-loop-port g l = (k : ℕ) → k < l.port → g.G.Fn.post l.stalls.test (l.pick, (l.edge, (k, tt))) (slice_index_or l.stalled k false)
