use Rattle.rtl_runs.proofs.Driving.{one_driven_run}
use Rattle.rtl_runs.proofs.laws.one_driven_run.Goals as goal

pub returns : goal.returns
returns c = one_driven_run
