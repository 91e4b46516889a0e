use Rattle.std.proofs.Common.{◌≡◌, ◌-◌}
use Rattle.digraph.specs.FanIn.{Collects, all_left}
use Rattle.digraph.proofs.cone.fan_in.Given as goal

abbrev pub invariant-loop-done : goal.invariant-loop-done
invariant-loop-done l = record {
  collects : Collects l.graph l.end l.number l.seen l.nodes.items l.done;
  left : all_left l.number l.seen l.nodes.items ≡ all_left l.number l.initial.seen l.initial.nodes.items;
}

abbrev pub decreases-loop-done : goal.decreases-loop-done
decreases-loop-done l = all_left l.number l.seen l.nodes.items - l.done
