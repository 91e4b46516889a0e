use Rattle.std.proofs.Common.{refl}
use Rattle.simulation.proofs.LookUps.{one_put}
use Rattle.simulation.proofs.planning.by_name.Goals as goal

pub loop-name-preserved : goal.loop-name-preserved
loop-name-preserved g c = λ name.
    one_put _ c.loop-name.named c.insert.new.self _ _ c.in-Some.field-0.now c.as_bytes.result _
    name c.in-Some.ensures.steps c.as_bytes.ensures refl c.in_ok-insert.ensures.updates
    (c.loop-name.invariant name)
