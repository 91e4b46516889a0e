use Rattle.std.proofs.Common.{◌≡◌, ◌-◌, ◌++◌, map, length}
use Rattle.project_rtl.specs.Blocks.{ended_net}
use Rattle.project_rtl.specs.Tops.{range, ended_nets}
use Rattle.project_design.proofs.top.ended_nets.Given as goal

abbrev pub invariant-loop-number : goal.invariant-loop-number
invariant-loop-number l =
    l.nets.items
    ++ map (ended_net l.blocks.project.now)
    (range l.number (length l.blocks.project.now.kernels - l.number))
    ≡ ended_nets l.blocks.project.now
