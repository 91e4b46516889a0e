-- The errors in which the refusals of the parts are told: want of memory is told apart.
use Rattle.std.specs.Prelude.{ℕ, List}
use Rattle.kernel_meaning.specs.declared.error.EvalError.{EvalError}
use Rattle.kernel_meaning.specs.declared.error.EvalError.TheVariants as E
use Rattle.manager_links.specs.declared.error.LinkError.{LinkError}
use Rattle.manager_links.specs.declared.error.LinkError.TheVariants as L
use Rattle.project_build.specs.declared.error.ProjectError.{ProjectError}
use Rattle.project_build.specs.declared.error.ProjectError.TheVariants as P
use Rattle.stream_graph.specs.declared.error.GraphError.{GraphError}
use Rattle.stream_graph.specs.declared.error.GraphError.TheVariants as G

-- of the run of a manager, or of a source without one
abbrev pub of_plan : EvalError → ProjectError
of_plan E.NoMemory = P.NoMemory
of_plan error = P.Plan error

-- of the run of a kernel
abbrev pub of_run : EvalError → ProjectError
of_run E.NoMemory = P.NoMemory
of_run error = P.Kernel error

-- of what the run of the kernel of this name makes
abbrev pub of_graph : List ℕ → GraphError → ProjectError
of_graph name G.NoMemory = P.NoMemory
of_graph name error = P.Graph name error

-- of the rules of joins
abbrev pub of_links : LinkError → ProjectError
of_links L.NoMemory = P.NoMemory
of_links error = P.Links error
