use Rattle.rtl_check.specs.Paths.{AreAmong}
use Rattle.rtl_check.proofs.paths.inputs_among.Given as goal

abbrev pub invariant-loop-place : goal.invariant-loop-place
invariant-loop-place l = AreAmong l.places l.nodes l.place l.inputs
