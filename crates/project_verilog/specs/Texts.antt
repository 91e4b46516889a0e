-- The Verilog text of a project, and what a report says of the project.
use Rattle.std.specs.Prelude.{◌≡◌, ℕ, ◌*◌, ◌≤◌, ◌^◌, List, length}
use Rattle.std.specs.List.{All}
use Rattle.rtl_ir.specs.declared.design.Design.{Design}
use Rattle.rtl_text.specs.Text.{TextOf}
use Rattle.rtl_reading.specs.Reads.{ReadsAs}
use Rattle.latency_table.specs.declared.table.Table.{Table}
use Rattle.link_fifo.specs.TextNames.{HasTextNames}
use Rattle.verilog_print.specs.Lines.{text_of_lines, design_lines}
use Rattle.manager_links.specs.declared.project.Project.{Project}
use Rattle.project_netlists.specs.declared.making.ProjectNetlists.{ProjectNetlists}
use Rattle.project_netlists.specs.Netlists.{AreNetlistsOf}
use Rattle.project_netlists.specs.Scheduled.{all_times}
use Rattle.project_rtl.specs.Designs.{IsDesignOf}
use Rattle.project_rtl.specs.Storage.{all_nets}
use Rattle.project_verilog.specs.declared.writing.ProjectText.{ProjectText}
use Rattle.project_verilog.specs.Parts.{part_count}

-- a text of a design, line by line, which reading it gives back
pub record IsPrinted (d : Design) (text : List ℕ) : Type 0 where
  pub of : TextOf text d
  pub lines : text ≡ text_of_lines (design_lines d)
  pub reads : ReadsAs text d

-- The text of a project, at the least schedules of its kernels by a table of latencies, with the
-- kernels' parts of a report and the links. It is one of a design of the project around the modules
-- of the kernels, which refine these at the times of the schedules (`netlists.kernels`), and with
-- these links; it runs as the stream equations, and its words leave in time. All registers and
-- memories of the design (`is.bits`) are those of the kernels' modules and the FIFOs of the streams
-- of the host and of the links. Those of a kernel's module (`netlists.kernels`) are these: the FIFOs
-- of its schedule, which hold the bits that its part says, the fewest that they may hold and at most
-- 2^28; for each node its width times its latency; the position of 48 bits; the states of holds,
-- counters and chains; and the pointers of the words that are kept in memories. For each part of the
-- project the design has at most 2^11 wires and the text at most 2^18 bytes. Each name in it has a
-- `$`, is a letter with digits, or is one of four, so none is a reserved word.
pub record IsTextOf (table : Table) (project : Project) (made : ProjectText) : Type 0 where
  pub own : ProjectNetlists
  pub netlists : AreNetlistsOf table project own
  pub parts : made.parts ≡ own.parts
  pub links : made.links ≡ own.links
  pub design : Design
  pub printed : IsPrinted design made.text.items
  pub is : IsDesignOf project made.links own.inners.items (all_times netlists.schedules) design
  pub wires : all_nets design ≤ 2 ^ 11 * part_count project
  pub bytes : length made.text.items ≤ 2 ^ 18 * part_count project
  pub names : All HasTextNames design.modules
