use Rattle.std.proofs.Common.{length, map, take}
use Rattle.project_rtl.specs.Projects.{host_queue}
use Rattle.project_design.specs.Building.{AddsFifos}
use Rattle.project_design.proofs.fifos.add_host_fifos.Given as goal

abbrev pub invariant-loop-host : goal.invariant-loop-host
invariant-loop-host l =
    AddsFifos (length l.initial.modules.items) (map host_queue (take l.host-index l.hosts))
    l.initial.modules.items l.modules.items
