use Rattle.std.proofs.Common.{◌≡◌, map, take}
use Rattle.std.specs.Prelude.{All}
use Rattle.manager_links.specs.Links.{IsWithinLimit}
use Rattle.manager_links.specs.Waiting.{deep_link}
use Rattle.manager_links.proofs.starting.deep_links.Given as goal

abbrev pub invariant-loop-number : goal.invariant-loop-number
invariant-loop-number l = record {
  links : l.made ≡ map (deep_link l.kernels l.times l.starts) (take l.number l.links);
  within : All IsWithinLimit l.made;
}
