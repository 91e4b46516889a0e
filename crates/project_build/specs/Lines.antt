-- The line that is said of a source that has no project.
use Rattle.std.specs.Prelude.{ℕ, List, Option, None}
use Rattle.kernel_eval.specs.Lines.{refusal_of}
use Rattle.manager_links.specs.Refused.{said as links_line}
use Rattle.project_build.specs.declared.error.ProjectError.{ProjectError}
use Rattle.project_build.specs.declared.error.ProjectError.TheVariants as P
use Rattle.stream_graph.specs.Lines.{fault_line}

-- the line of the code that the error has; want of memory says none
abbrev pub said : ProjectError → Option (List ℕ)
said (P.Plan error) = refusal_of error
said (P.Kernel error) = refusal_of error
said (P.Graph name error) = fault_line name error
said (P.Links error) = links_line error
said P.NoMemory = None
