-- The laws of the design of a project.
use Rattle.std.specs.Prelude.{ℤ, List}
use Rattle.std.specs.List.{All}
use Rattle.rtl_ir.specs.declared.design.Design.{Design}
use Rattle.rtl_ir.specs.declared.design.Module.{Module}
use Rattle.rtl_ir.specs.Rules.{IsAccepted}
use Rattle.rtl_reading.specs.Reads.{IsPortsFirst}
use Rattle.manager_links.specs.declared.links.Links.{Links}
use Rattle.manager_links.specs.declared.project.Project.{Project}
use Rattle.manager_links.specs.Links.{AreLinksOf}
use Rattle.project_rtl.specs.Tops.{top_module}
use Rattle.project_rtl.specs.Projects.{IsProjectOf}
use Rattle.project_rtl.specs.Kept.{AllKeepRules, AllRefine}
use Rattle.project_rtl.specs.Words.{RunsAsEquations}
use Rattle.project_rtl.specs.Times.{RunsOnTime}
use Rattle.project_rtl.specs.Designs.{IsDesignOf}

-- a design with modules that keep all rules of designs keeps them
abbrev pub ProjectIsAccepted : Type 0
ProjectIsAccepted =
    (project : Project) (made : Links) (inners : List Module) (d : Design)
    → AllKeepRules project inners
    → IsProjectOf project made inners d
    → IsAccepted d

-- modules that refine the kernels keep them
abbrev pub RefinementsKeepRules : Type 0
RefinementsKeepRules =
    (project : Project) (times : List (List ℤ)) (inners : List Module)
    → AllRefine project times inners
    → AllKeepRules project inners

-- a design with modules that refine the kernels runs as the stream equations
abbrev pub ProjectRuns : Type 0
ProjectRuns =
    (project : Project) (times : List (List ℤ)) (made : Links) (inners : List Module)
    (d : Design)
    → AllRefine project times inners
    → IsProjectOf project made inners d
    → RunsAsEquations project d (top_module project)

-- where the links and the starts are those that the project has at the times at which the modules
-- refine the kernels, the words leave in time
abbrev pub ProjectRunsOnTime : Type 0
ProjectRunsOnTime =
    (project : Project) (times : List (List ℤ)) (made : Links) (inners : List Module)
    (d : Design)
    → AllRefine project times inners
    → AreLinksOf project times made
    → IsProjectOf project made inners d
    → RunsOnTime project d (top_module project) times made

-- so it is the design of the project, where the ports of the kernels' modules are their first nets
abbrev pub DesignOfProject : Type 0
DesignOfProject =
    (project : Project) (times : List (List ℤ)) (made : Links) (inners : List Module)
    (d : Design)
    → AllRefine project times inners
    → All IsPortsFirst inners
    → AreLinksOf project times made
    → IsProjectOf project made inners d
    → IsDesignOf project made inners times d
