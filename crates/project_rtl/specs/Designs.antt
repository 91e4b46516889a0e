-- What the design of a project is.
use Rattle.std.specs.Prelude.{
  ◌≡◌,
  ℕ,
  ◌+◌,
  ◌*◌,
  ◌^◌,
  ◌≤◌,
  false,
  ℤ,
  List,
  [],
  ◌∷◌,
  ◌++◌,
  map,
  length,
  Some,
  sum_by,
}
use Rattle.std.specs.List.{All}
use Rattle.rtl_ir.specs.declared.design.Design.{Design}
use Rattle.rtl_ir.specs.declared.design.Instance.{Instance}
use Rattle.rtl_ir.specs.declared.design.Module.{Module}
use Rattle.rtl_ir.specs.Value.{is_reg}
use Rattle.rtl_ir.specs.Flat.{top_of}
use Rattle.rtl_ir.specs.Ports.{HasShape}
use Rattle.rtl_ir.specs.Rules.{IsAccepted}
use Rattle.rtl_reading.specs.Reads.{ArePortsFirst}
use Rattle.stream_graph.specs.declared.kernel.Kernel.{Kernel}
use Rattle.rtl_delays.specs.Stored.{stored_bits}
use Rattle.link_fifo.specs.TextNames.{HasTextNames}
use Rattle.manager_links.specs.declared.links.Links.{Links}
use Rattle.manager_links.specs.declared.project.Project.{Project}
use Rattle.verilog_size.specs.Names.{inner_names, design_names}
use Rattle.verilog_size.specs.Sizes.{size_of, design_size}
use Rattle.project_rtl.specs.Shapes.{shape_of}
use Rattle.project_rtl.specs.Blocks.{scalar_count, stream_count}
use Rattle.project_rtl.specs.Tops.{range, host_count, fifo_count}
use Rattle.project_rtl.specs.Projects.{AreFifos, queues_of}
use Rattle.project_rtl.specs.Storage.{all_bits, all_nets, net_count, fifo_bits}
use Rattle.project_rtl.specs.Words.{RunsAsEquations}
use Rattle.project_rtl.specs.Times.{RunsOnTime}

-- What the design stores stands in these modules: the FIFOs and those of the kernels. Each of them
-- has one instance in the top module, which stores nothing itself.
pub record StoresParts (project : Project) (made : Links) (inners : List Module) (d : Design)
    (top : Module) : Type 0
  where
    pub fifos : List Module
    pub are_fifos : AreFifos 0 (queues_of project made) fifos
    pub modules : d.modules ≡ fifos ++ (inners ++ top ∷ [])
    pub once :
        map (λ (i : Instance). i.«module») top.instances
        ≡ range 0 (length fifos + length inners)
    pub no_registers : (n : ℕ) → is_reg top n ≡ false
    pub no_memories : top.mems ≡ []
    pub no_updates : top.updates ≡ []

-- ---- how large it is

-- the kernel, its scalars, and its inputs and outputs
abbrev pub kernel_weight : Kernel → ℕ
kernel_weight kernel = 1 + scalar_count kernel + stream_count kernel

-- those of all kernels, and the streams of the host
abbrev pub port_weight : Project → ℕ
port_weight project = sum_by kernel_weight project.kernels + host_count project

-- and the links
abbrev pub part_weight : Project → ℕ
part_weight project = sum_by kernel_weight project.kernels + fifo_count project

-- the bytes of the names of a kernel and of its scalars' ports in the text
abbrev pub kernel_bytes : Kernel → ℕ
kernel_bytes kernel = (16 + 4 * scalar_count kernel) * length kernel.name

-- The design of a project whose kernels have these modules, at these times and with these links: it
-- keeps all rules of designs; the ports of its top module are those of the project's shape; it runs
-- as the stream equations, and its words leave in time; all its registers and memories are those of
-- the kernels' modules and of the FIFOs; its wires are those of the kernels' modules and of the top
-- module, and at most 64 for a FIFO; it has few parts and few bytes of names beside those of the
-- kernels' modules, by the scalars, inputs and outputs of the kernels, their names, the streams of
-- the host and the links; and its names are such as a text has where those of the kernels' modules
-- are.
pub record IsDesignOf (project : Project) (made : Links) (inners : List Module)
    (times : List (List ℤ)) (d : Design) : Type 0
  where
    pub accepted : IsAccepted d
    pub top : Module
    pub is_top : top_of d ≡ Some top
    pub shape : HasShape top (shape_of project)
    pub ports_first : ArePortsFirst d
    pub runs : RunsAsEquations project d top
    pub on_time : RunsOnTime project d top times made
    pub stored : StoresParts project made inners d top
    pub bits : all_bits d ≡ sum_by stored_bits inners + fifo_bits project made
    pub nets : length top.nets ≤ 16 + 8 * port_weight project
    pub wires :
        all_nets d ≤ sum_by net_count inners + length top.nets + 64 * fifo_count project
    pub size : design_size d ≤ sum_by size_of inners + 32 + 128 * part_weight project
    pub names :
        design_names d
        ≤ sum_by inner_names inners + sum_by kernel_bytes project.kernels
        + 2 ^ 14 * (1 + part_weight project)
    pub text_names : All HasTextNames inners → All HasTextNames d.modules
