-- How large the design of a project is, what it stores, and what its names are.
use Rattle.std.specs.Prelude.{◌≡◌, ◌+◌, ◌*◌, ◌^◌, ◌≤◌, ℤ, List, length, Some, sum_by}
use Rattle.std.specs.List.{All}
use Rattle.rtl_ir.specs.declared.design.Design.{Design}
use Rattle.rtl_ir.specs.declared.design.Module.{Module}
use Rattle.rtl_ir.specs.Flat.{top_of}
use Rattle.rtl_ir.specs.Ports.{HasShape}
use Rattle.rtl_reading.specs.Reads.{IsPortsFirst, ArePortsFirst}
use Rattle.rtl_delays.specs.Stored.{stored_bits}
use Rattle.link_fifo.specs.TextNames.{HasTextNames}
use Rattle.manager_links.specs.declared.links.Links.{Links}
use Rattle.manager_links.specs.declared.project.Project.{Project}
use Rattle.verilog_size.specs.Names.{inner_names, design_names}
use Rattle.verilog_size.specs.Sizes.{size_of, design_size}
use Rattle.project_rtl.specs.Shapes.{shape_of}
use Rattle.project_rtl.specs.Tops.{fifo_count, top_module}
use Rattle.project_rtl.specs.Projects.{IsProjectOf}
use Rattle.project_rtl.specs.Kept.{AllRefine}
use Rattle.project_rtl.specs.Storage.{all_bits, all_nets, net_count, fifo_bits}
use Rattle.project_rtl.specs.Designs.{StoresParts, port_weight, part_weight, kernel_bytes}

-- The last module of the design is the top module, whose ports are those of the project's shape,
-- and the ports of each module are its first nets. All registers and memories of the design are
-- those of the kernels' modules and of the FIFOs; its wires are those of the kernels' modules and
-- of the top module, and at most 64 for a FIFO; it has few parts and few bytes of names beside
-- those of the kernels' modules; and its names are such as a text has where those of the kernels'
-- modules are.
pub record IsSized (project : Project) (made : Links) (inners : List Module) (d : Design) : Type 0
  where
    pub is_top : top_of d ≡ Some (top_module project)
    pub shape : HasShape (top_module project) (shape_of project)
    pub ports_first : ArePortsFirst d
    pub stored : StoresParts project made inners d (top_module project)
    pub bits : all_bits d ≡ sum_by stored_bits inners + fifo_bits project made
    pub nets : length (top_module project).nets ≤ 16 + 8 * port_weight project
    pub wires :
        all_nets d
        ≤ sum_by net_count inners + length (top_module project).nets + 64 * fifo_count project
    pub size : design_size d ≤ sum_by size_of inners + 32 + 128 * part_weight project
    pub names :
        design_names d
        ≤ sum_by inner_names inners + sum_by kernel_bytes project.kernels
        + 2 ^ 14 * (1 + part_weight project)
    pub text_names : All HasTextNames inners → All HasTextNames d.modules

-- each design of a project is such a one, whatever the depths of its links, where the modules
-- refine the kernels and their ports are their first nets
abbrev pub ProjectIsSized : Type 0
ProjectIsSized =
    (project : Project) (times : List (List ℤ)) (made : Links) (inners : List Module)
    (d : Design)
    → AllRefine project times inners
    → All IsPortsFirst inners
    → IsProjectOf project made inners d
    → IsSized project made inners d
