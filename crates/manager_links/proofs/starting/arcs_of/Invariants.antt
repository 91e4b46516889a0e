use Rattle.std.proofs.Common.{◌≡◌, map, take}
use Rattle.manager_links.specs.Waiting.{arc_of}
use Rattle.manager_links.proofs.starting.arcs_of.Given as goal

abbrev pub invariant-loop-link : goal.invariant-loop-link
invariant-loop-link l = l.list ≡ map (arc_of l.times) (take l.link-index l.links)
