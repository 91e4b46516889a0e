use Rattle.rtl_check.specs.Paths.{AreJoined}
use Rattle.rtl_check.proofs.inputs.joined_nets.Given as goal

abbrev pub invariant-loop-place : goal.invariant-loop-place
invariant-loop-place l = AreJoined l.instance l.ports l.place l.nets
