use Rattle.std.proofs.Common.{◌≡◌, length, take}
use Rattle.std.specs.List.{flat_map}
use Rattle.project_rtl.specs.Shapes.{scalar_shapes}
use Rattle.maxjc_core.specs.ExpectStops.{AreNodeLists}
use Rattle.maxjc_core.proofs.project_run.all_node_words.Given as goal

-- the kernels so far have the first scalars
abbrev pub invariant-loop-kernel : goal.invariant-loop-kernel
invariant-loop-kernel l = record {
  next : l.next ≡ length (flat_map scalar_shapes (take l.kernel-index l.kernels));
  lists : AreNodeLists (take l.kernel-index l.kernels) l.lists (take l.next l.scalars);
}
