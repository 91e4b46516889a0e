-- The parts of a project, by which the size of its design is bounded.
use Rattle.std.specs.Prelude.{ℕ, ◌+◌, length, sum_by}
use Rattle.stream_graph.specs.declared.kernel.Kernel.{Kernel}
use Rattle.kernel_wiring.specs.OneNode.{operand_count}
use Rattle.manager_links.specs.declared.project.Project.{Project}
use Rattle.project_rtl.specs.Tops.{fifo_count}

-- a kernel, the bytes of its name, its nodes, and their operands
abbrev pub kernel_parts : Kernel → ℕ
kernel_parts kernel =
    1 + length kernel.name + length kernel.nodes + operand_count kernel.nodes

-- those of all kernels, the streams of the host, and the links
abbrev pub part_count : Project → ℕ
part_count project = sum_by kernel_parts project.kernels + fifo_count project
