-- What is made of the bytes of a project, from its text and what a report says of its kernels.
use Rattle.std.proofs.Common.{◌≡◌, ◌∙◌, List, ℕ, sym, subst, arith}
use Rattle.std.specs.Prelude.{ℤ, All}
use Rattle.std.specs.List.{AllZip}
use Rattle.std.proofs.lemmas.Int.{ints, clamps}
use Rattle.latency_table.specs.declared.table.Table.{Table}
use Rattle.manager_links.specs.declared.project.Project.{Project}
use Rattle.rtl_ir.specs.declared.design.Module.{Module}
use Rattle.offset_edges.specs.declared.edge.Edge.{Edge}
use Rattle.offset_edges.specs.Edges.{edges_of}
use Rattle.offset_edges.specs.Latencies.{ticks_of}
use Rattle.offset_edges.specs.Walks.{IsCausal, AreCovered}
use Rattle.kernel_report.specs.Judging.{IsShown, IsLeastOf, ShownAreLeast}
use Rattle.project_check.specs.Checked.{HasProblem}
use Rattle.project_netlists.specs.Netlists.{AreKernelNetlists}
use Rattle.project_netlists.specs.Scheduled.{all_times}
use Rattle.project_verilog.specs.declared.writing.ProjectText.{ProjectText}
use Rattle.project_verilog.specs.Texts.{IsTextOf}
use Rattle.schedule_report.specs.Reports.{IsKernelPart, report_text}
use Rattle.schedule_report.specs.declared.report.ReportKernel.{ReportKernel}
use Rattle.stream_graph.specs.declared.kernel.Kernel.{Kernel}
use Rattle.maxjc_core.specs.Compiling.{Compiles, summary_of}
use Rattle.maxjc_core.specs.Projects.{IsProjectOf}
use Rattle.maxjc_core.specs.Showing.{PartBegins, ShowsLeast}
use Rattle.maxjc_core.specs.declared.compile.Compiled.{Compiled}
use Rattle.maxjc_core.proofs.Lists.{zip_weaker, zip_all, zip_left, zip_right, zip_from, item_beside}

-- ---- the parts of the report

-- a kernel all of whose closed walks are covered is causal
causal : (ticks : ℕ → ℕ) (edges : List Edge) → AreCovered ticks edges → IsCausal edges
causal ticks edges covered v j js walk =
    let back = covered v j js walk in
    omega (arith, ints, clamps, back)

-- what was made of a kernel and its part
record IsPartOf (table : Table) (kernel : Kernel) (part : ReportKernel) : Type 0 where
  is : IsKernelPart part
  problem : HasProblem table kernel
  shown : IsShown table kernel part
  begins : PartBegins kernel part

own_parts : (table : Table) (kernels : List Kernel) (times : List (List ℤ))
    (parts : List ReportKernel) (inners : List Module)
    → AreKernelNetlists table kernels times parts inners → AllZip (IsPartOf table) kernels parts
own_parts table kernels times parts inners are =
    zip_from (IsPartOf table) kernels parts are.one_part (λ k kernel part here there.
    let inner = item_beside parts inners k part (are.one_part ∙ sym are.one_module) there in
    let netlist = are.each k kernel part inner.0 here there inner.1 in
    record {
      is = netlist.part.is;
      problem = record {
        timed = netlist.schedulable.timed;
        causal = causal (ticks_of table kernel.nodes) (edges_of kernel.nodes) netlist.schedulable.covered;
      };
      shown = netlist.part.shown;
      begins = netlist.part.begins;
    })

-- those of a text that was made
parts_of : (table : Table) (project : Project) (made : ProjectText) → IsTextOf table project made
    → AllZip (IsPartOf table) project.kernels made.parts
parts_of table project made t =
    subst (AllZip (IsPartOf table) project.kernels) (sym t.parts)
    (own_parts table project.kernels (all_times t.netlists.schedules) t.own.parts t.own.inners.items
    t.netlists.kernels)

-- they can be printed
pub printable : (table : Table) (project : Project) (made : ProjectText)
    → IsTextOf table project made → All IsKernelPart made.parts
printable table project made t =
    zip_right (IsPartOf table) IsKernelPart project.kernels made.parts (λ kernel part of. of.is)
    (parts_of table project made t)

-- and they show that no legal schedule has FIFOs of fewer bits
shows : (table : Table) (project : Project) (made : ProjectText) (report : List ℕ)
    → IsTextOf table project made → All (ShownAreLeast table) project.kernels
    → report ≡ report_text (record { kernels = made.parts })
    → ShowsLeast table project.kernels report made.parts
shows table project made report t least report_is =
    let kernels = project.kernels in
    let parts = parts_of table project made t in
    let shown = zip_weaker (IsPartOf table) (IsShown table) kernels made.parts (λ kernel part of. of.shown)
    parts in
    record {
      checked = record {
        says = record { is = printable table project made t; text = report_is };
        problems = zip_left (IsPartOf table) (HasProblem table) kernels made.parts
            (λ kernel part of. of.problem) parts;
        shown = shown;
        least = zip_all (ShownAreLeast table) (IsShown table) (IsLeastOf table) kernels made.parts
            (λ kernel part law of. law part of) least shown;
      };
      begins = zip_weaker (IsPartOf table) PartBegins kernels made.parts (λ kernel part of. of.begins)
          parts;
    }

-- ---- what is written

pub compiles_of : (source table : List ℕ) (project : Project) (latencies : Table)
    (made : ProjectText) (c : Compiled) → IsProjectOf source table project latencies
    → IsTextOf latencies project made → All (ShownAreLeast latencies) project.kernels
    → c.text.items ≡ made.text.items
    → c.report.items ≡ report_text (record { kernels = made.parts })
    → c.summary.items ≡ summary_of made.parts made.links.links
    → Compiles source table c.text.items c.report.items c.summary.items
compiles_of source table project latencies made c is text_of least text_is report_is line_is = record {
  project = project;
  latencies = latencies;
  is = is;
  made = made;
  text_is = text_is;
  text_of = text_of;
  shows = shows latencies project made c.report.items text_of least report_is;
  summary = line_is;
}
