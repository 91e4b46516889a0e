use Rattle.std.proofs.Common.{◌≡◌, ◌++◌, drop}
use Rattle.std.specs.List.{flat_map}
use Rattle.project_rtl.specs.Tops.{block_widths}
use Rattle.project_design.proofs.wires.add_blocks.Given as goal

abbrev pub invariant-loop-kernel : goal.invariant-loop-kernel
invariant-loop-kernel l =
    l.widths.items ++ flat_map block_widths (drop l.kernel-index l.kernels)
    ≡ l.initial.widths.items ++ flat_map block_widths l.kernels
