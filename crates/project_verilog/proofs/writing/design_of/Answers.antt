use Rattle.std.proofs.lemmas.Result.{IfOk-weaker}
use Rattle.project_rtl.specs.Projects.{IsProjectOf}
use Rattle.project_rtl.specs.Designs.{IsDesignOf}
use Rattle.project_verilog.proofs.writing.design_of.Goals as goal

pub returns : goal.returns
returns c = λ times refines first links.
    let project = c.args.project.now in
    let made = c.args.links.now in
    let inners = c.args.inners.items in
    IfOk-weaker c.design.result (IsProjectOf project made inners)
    (IsDesignOf project made inners times)
    (λ d whole.
    c.design_of_project.ensures project times made inners d refines first links whole)
    c.design.ensures
