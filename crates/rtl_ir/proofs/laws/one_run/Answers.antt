use Rattle.rtl_ir.proofs.OneRun.{one_run}
use Rattle.rtl_ir.proofs.laws.one_run.Goals as goal

pub returns : goal.returns
returns c = one_run
