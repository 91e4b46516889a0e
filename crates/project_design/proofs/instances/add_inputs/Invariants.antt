use Rattle.std.proofs.Common.{◌≡◌, ◌+◌, ◌*◌, ◌++◌, length, drop}
use Rattle.project_rtl.specs.Tops.{input_instances}
use Rattle.project_design.proofs.instances.add_inputs.Given as goal

abbrev pub invariant-loop-host : goal.invariant-loop-host
invariant-loop-host l = record {
  told :
      l.instances
      ++ input_instances l.blocks.project.now (length l.instances) l.port (drop l.host-index l.hosts)
      ≡ l.initial.instances
      ++ input_instances l.blocks.project.now (length l.initial.instances) l.first l.hosts;
  port : l.port ≡ l.first + 3 * l.host-index;
  count : length l.instances ≡ length l.initial.instances + l.host-index;
}
