-- What a report shows of the kernels of a project.
use Rattle.std.specs.Prelude.{ℕ, List, length}
use Rattle.std.specs.List.{AllZip}
use Rattle.cycle_find.specs.Constraints.{numbers_of}
use Rattle.latency_table.specs.declared.table.Table.{Table}
use Rattle.stream_graph.specs.declared.kernel.Kernel.{Kernel}
use Rattle.offset_edges.specs.Edges.{edges_of}
use Rattle.schedule_report.specs.declared.report.ReportKernel.{ReportKernel}
use Rattle.kernel_schedule.specs.Beginning.{BeginsAtZero}
use Rattle.project_check.specs.Checked.{IsCheckedReport}

-- the times of a kernel's part begin at 0
abbrev pub PartBegins : Kernel → ReportKernel → Type 0
PartBegins kernel part =
    BeginsAtZero (edges_of kernel.nodes) (length kernel.nodes) (numbers_of part.times)

-- The bytes are a report of these parts, one for each of the kernels. Each part is shown for its
-- kernel: it has the kernel's name and counts, its times are a legal schedule whose FIFOs hold the
-- part's bits, and no legal schedule has FIFOs of fewer. And its times begin at 0.
pub record ShowsLeast (table : Table) (kernels : List Kernel) (bytes : List ℕ)
    (parts : List ReportKernel) : Type 0
  where
    pub checked : IsCheckedReport table kernels bytes (record { kernels = parts })
    pub begins : AllZip PartBegins kernels parts
