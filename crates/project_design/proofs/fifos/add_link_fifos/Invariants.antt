use Rattle.std.proofs.Common.{length, map, take}
use Rattle.project_rtl.specs.Projects.{link_queue}
use Rattle.project_design.specs.Building.{AddsFifos}
use Rattle.project_design.proofs.fifos.add_link_fifos.Given as goal

abbrev pub invariant-loop-link : goal.invariant-loop-link
invariant-loop-link l =
    AddsFifos (length l.initial.modules.items)
    (map (link_queue l.kernels) (take l.link-index l.links)) l.initial.modules.items
    l.modules.items
