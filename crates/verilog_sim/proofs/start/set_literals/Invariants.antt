use Rattle.verilog_sim.specs.First.{AreLiteralsSet}
use Rattle.verilog_sim.proofs.start.set_literals.Given as goal

abbrev pub invariant-loop-assign : goal.invariant-loop-assign
invariant-loop-assign l = AreLiteralsSet l.assigns l.fn.values l.values l.assign-index
