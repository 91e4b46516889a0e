use Rattle.project_verilog.proofs.Designs.{together}
use Rattle.project_verilog.proofs.laws.design_of_project.Goals as goal

pub returns : goal.returns
returns c =
    together c.refinements_keep_rules.ensures c.project_is_accepted.ensures
    c.project_runs.ensures c.project_runs_on_time.ensures c.project_is_sized.ensures
