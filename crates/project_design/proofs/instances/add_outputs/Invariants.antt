use Rattle.std.proofs.Common.{◌≡◌, ◌+◌, ◌*◌, ◌++◌, length, drop}
use Rattle.project_rtl.specs.Tops.{output_instances}
use Rattle.project_design.proofs.instances.add_outputs.Given as goal

abbrev pub invariant-loop-host : goal.invariant-loop-host
invariant-loop-host l = record {
  told :
      l.instances
      ++ output_instances l.blocks.project.now (length l.instances) l.port (drop l.host-index l.hosts)
      ≡ l.initial.instances
      ++ output_instances l.blocks.project.now (length l.initial.instances) l.first l.hosts;
  port : l.port ≡ l.first + 3 * l.host-index;
  count : length l.instances ≡ length l.initial.instances + l.host-index;
}
