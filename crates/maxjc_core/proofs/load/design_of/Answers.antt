use Rattle.maxjc_core.proofs.Refusing.{of_text}
use Rattle.maxjc_core.proofs.load.design_of.Goals as goal

pub returns-in_default-clause-every : goal.returns-in_default-clause-every
returns-in_default-clause-every c = λ d is. absurd (c.in_default.not-NoMemory (c.in-Err.ensures.every d is))

pub returns-in_default-clause-refused : goal.returns-in_default-clause-refused
returns-in_default-clause-refused c = of_text c.args.text.now c.in-Err.error c.in_default.not-NoMemory c.in-Err.ensures.refused
