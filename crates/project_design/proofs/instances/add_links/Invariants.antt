use Rattle.std.proofs.Common.{◌≡◌, ◌+◌, ◌*◌, ◌++◌, length, drop}
use Rattle.project_rtl.specs.Tops.{link_instances}
use Rattle.project_design.proofs.instances.add_links.Given as goal

abbrev pub invariant-loop-number : goal.invariant-loop-number
invariant-loop-number l = record {
  told :
      l.instances
      ++ link_instances l.blocks.project.now (length l.instances) l.number (drop l.number l.links)
      ≡ l.initial.instances
      ++ link_instances l.blocks.project.now (length l.initial.instances) 0 l.links;
  count : length l.instances ≡ length l.initial.instances + l.number;
}
