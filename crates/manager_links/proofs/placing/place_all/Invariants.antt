use Rattle.std.proofs.Common.{take}
use Rattle.manager_links.specs.Lists.{AllDiffer}
use Rattle.manager_links.specs.Placed.{ArePlaced}
use Rattle.manager_links.specs.Terminals.{terminals, ends_of}
use Rattle.manager_links.proofs.placing.place_all.Given as goal

abbrev pub invariant-loop-number : goal.invariant-loop-number
invariant-loop-number l = record {
  placed : ArePlaced (terminals l.plan l.kernels) l.ends (ends_of (take l.number l.joins)) l.places;
  once : AllDiffer (ends_of (take l.number l.joins));
}
