use Rattle.maxjc_core.proofs.Refusing.{of_ports}
use Rattle.maxjc_core.proofs.run_file.fit_for.Goals as goal

pub returns-in_default-clause-unfit : goal.returns-in_default-clause-unfit
returns-in_default-clause-unfit c = of_ports c.args.run.now c.args.ports.now c.in-Err.error c.in_default.not-NoMemory c.in-Err.ensures
