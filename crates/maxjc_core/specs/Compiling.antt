-- What `compile` makes of a source.
use Rattle.std.specs.Prelude.{◌≡◌, ℕ, ◌+◌, List, [], ◌∷◌, ◌++◌, codes}
use Rattle.std.specs.Fmt.{decimal}
use Rattle.std.specs.List.{flat_map}
use Rattle.latency_table.specs.declared.table.Table.{Table}
use Rattle.manager_links.specs.declared.links.Link.{Link}
use Rattle.manager_links.specs.declared.project.Project.{Project}
use Rattle.project_verilog.specs.declared.writing.ProjectText.{ProjectText}
use Rattle.project_verilog.specs.Texts.{IsTextOf}
use Rattle.schedule_report.specs.declared.report.ReportKernel.{ReportKernel}
use Rattle.maxjc_core.specs.Projects.{IsProjectOf}
use Rattle.maxjc_core.specs.Showing.{ShowsLeast}

-- `kernel NAME fifo B`
abbrev pub fifo_line : ReportKernel → List ℕ
fifo_line part = codes "kernel " ++ part.name ++ codes " fifo " ++ decimal part.bits ++ codes "\n"

-- `link I depth D`
abbrev pub link_line : ℕ → Link → List ℕ
link_line number link =
    codes "link " ++ decimal number ++ codes " depth " ++ decimal link.depth ++ codes "\n"

-- of these links, which are numbered from this number on
abbrev pub link_lines : ℕ → List Link → List ℕ
link_lines number [] = []
link_lines number (link ∷ links) = link_line number link ++ link_lines (number + 1) links

-- the summary: a line for each kernel, by what the report says of it, and then one for each link
abbrev pub summary_of : List ReportKernel → List Link → List ℕ
summary_of parts links = flat_map fifo_line parts ++ link_lines 0 links

-- The bytes of a source and of a latency table, the text and the report made of them, and the line
-- said: the project is the one that the source builds. The report has a part for each kernel, and
-- shows that no legal schedule of it has FIFOs of fewer bits than the part says. The text is one of a
-- design that runs as the stream equations of the project, at the times of these schedules, with
-- FIFOs of these bits and links of their depths at these times; and the summary says bits and depths.
pub record Compiles (source table text report line : List ℕ) : Type 0 where
  pub project : Project
  pub latencies : Table
  pub is : IsProjectOf source table project latencies
  pub made : ProjectText
  pub text_is : text ≡ made.text.items
  pub text_of : IsTextOf latencies project made
  pub shows : ShowsLeast latencies project.kernels report made.parts
  pub summary : line ≡ summary_of made.parts made.links.links
