-- The modules of a project's kernels.
use Rattle.std.proofs.Common.{◌≡◌, ℕ, List, Some, get_or, arith}
use Rattle.std.specs.Prelude.{ℤ, slice_get}
use Rattle.std.specs.List.{All}
use Rattle.std.proofs.lemmas.Option.{slice_get-get_or, slice_get_within}
use Rattle.rtl_ir.specs.declared.design.Module.{Module}
use Rattle.rtl_reading.specs.Reads.{IsPortsFirst}
use Rattle.stream_graph.specs.declared.kernel.Kernel.{Kernel}
use Rattle.latency_table.specs.declared.table.Table.{Table}
use Rattle.schedule_report.specs.declared.report.ReportKernel.{ReportKernel}
use Rattle.link_fifo.specs.TextNames.{HasTextNames}
use Rattle.kernel_netlist.specs.Netlists.{IsNetlistOf}
use Rattle.manager_links.specs.declared.project.Project.{Project}
use Rattle.manager_links.specs.Starts.{own_times}
use Rattle.project_netlists.specs.Netlists.{AreKernelNetlists}
use Rattle.project_rtl.specs.Kept.{AllRefine}
use Rattle.verilog_size.proofs.Slices.{found}

module _ (table : Table) (kernels : List Kernel) (times : List (List ℤ)) (parts : List ReportKernel)
    (inners : List Module) (are : AreKernelNetlists table kernels times parts inners) where
  -- the part and the module of a kernel
  pub of_kernel : (k : ℕ) (kernel : Kernel) (m : Module) → slice_get kernels k ≡ Some kernel
      → slice_get inners k ≡ Some m
      → (part : ReportKernel)
      × IsNetlistOf table kernel (own_times times k) (record { part = part; inner = m })
  of_kernel k kernel m here at =
      let lt = slice_get_within kernels k kernel here in
      let long = are.one_part in
      let part = found parts k (omega (arith, lt, long)) in
      (part.0, are.each k kernel part.0 m here part.1 at)

  -- what the modules of all kernels have
  of_modules : (P : Module → Type 0)
      → ((kernel : Kernel) (own : List ℤ) (part : ReportKernel) (m : Module)
      → IsNetlistOf table kernel own (record { part = part; inner = m }) → P m)
      → All P inners
  of_modules P each k d lt =
      let long = are.one_module in
      let kernel = found kernels k (omega (arith, lt, long)) in
      let m = get_or inners k d in
      let own = of_kernel k kernel.0 m kernel.1 (slice_get-get_or inners k d lt) in
      each kernel.0 (own_times times k) own.0 m own.1

  pub ports_first : All IsPortsFirst inners
  ports_first = of_modules IsPortsFirst (λ kernel own part m is. is.ports_first)

  pub text_names : All HasTextNames inners
  text_names = of_modules HasTextNames (λ kernel own part m is. is.names)

-- the modules refine the kernels
pub all_refine : (table : Table) (project : Project) (times : List (List ℤ))
    (parts : List ReportKernel) (inners : List Module)
    → AreKernelNetlists table project.kernels times parts inners → AllRefine project times inners
all_refine table project times parts inners are = record {
  count = are.one_module;
  each = λ k kernel m here at. (of_kernel table project.kernels times parts inners are k kernel m here at).1.refines;
}
