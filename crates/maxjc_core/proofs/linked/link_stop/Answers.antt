-- Links are refused by their depth alone.
use Rattle.maxjc_core.specs.ExpectCauses.{IsTooDeep}
use Rattle.maxjc_core.proofs.linked.link_stop.Goals as goal

pub returns-in-LinkTooDeep-clause-cause : goal.returns-in-LinkTooDeep-clause-cause
returns-in-LinkTooDeep-clause-cause c project times deep =
    IsTooDeep.at_link c.in-LinkTooDeep.link c.in-LinkTooDeep.words
    (rw c.in-LinkTooDeep.is at deep)
