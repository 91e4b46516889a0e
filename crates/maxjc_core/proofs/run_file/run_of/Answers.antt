use Rattle.maxjc_core.proofs.Refusing.{of_run_file}
use Rattle.maxjc_core.proofs.run_file.run_of.Goals as goal

pub returns-in_default-clause-refused : goal.returns-in_default-clause-refused
returns-in_default-clause-refused c = of_run_file c.args.bytes.now c.in-Err.error c.in_default.not-NoMemory c.in-Err.ensures
