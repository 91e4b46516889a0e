use Rattle.verilog_sim.specs.Origins.{AreAtOrigins}
use Rattle.verilog_sim.proofs.origin.trace.Given as goal

abbrev pub invariant-loop-assign : goal.invariant-loop-assign
invariant-loop-assign l = AreAtOrigins l.«module» l.order l.origins.items l.assigns.items l.assign-index
