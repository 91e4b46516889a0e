use Rattle.verilog_sim.proofs.Loads.{Loaded}
use Rattle.verilog_sim.proofs.clock.load.Given as goal

abbrev pub invariant-loop-update : goal.invariant-loop-update
invariant-loop-update l = Loaded l.updates l.ahead l.fn.values l.values l.update-index
