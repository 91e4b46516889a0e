use Rattle.maxjc_core.proofs.Refusing.{of_source}
use Rattle.maxjc_core.proofs.project.refused.Goals as goal

pub returns-in_default-clause-cause : goal.returns-in_default-clause-cause
returns-in_default-clause-cause c = λ bytes table h. of_source bytes table c.args.error c.in_default.not-NoMemory h
