use Rattle.top_ports.specs.Stages.{Stands}
use Rattle.top_ports.proofs.wrong.first_wrong.Given as goal

abbrev pub invariant-loop-place : goal.invariant-loop-place
invariant-loop-place l = Stands l.top l.place l.stage
