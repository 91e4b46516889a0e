use Rattle.std.proofs.Common.{◌≡◌, ◌+◌, ◌*◌, ◌++◌, length, drop}
use Rattle.project_rtl.specs.Tops.{kernel_instances}
use Rattle.project_design.proofs.instances.add_kernels.Given as goal

abbrev pub invariant-loop-number : goal.invariant-loop-number
invariant-loop-number l = record {
  told :
      l.instances
      ++ kernel_instances l.blocks.project.now (length l.instances) l.number
      (drop l.number l.blocks.project.now.kernels)
      ≡ l.initial.instances
      ++ kernel_instances l.blocks.project.now (length l.initial.instances) 0
      l.blocks.project.now.kernels;
  count : length l.instances ≡ length l.initial.instances + l.number;
}
