-- What a report says of a kernel's least schedule.
use Rattle.std.specs.Prelude.{◌≡◌, pos, length, take}
use Rattle.cycle_find.specs.Constraints.{numbers_of}
use Rattle.schedule_problem.specs.Flow.{cost_of}
use Rattle.stream_graph.specs.declared.kernel.Kernel.{Kernel}
use Rattle.offset_edges.specs.Edges.{edges_of}
use Rattle.kernel_schedule.specs.declared.schedule.Schedule.{Schedule}
use Rattle.schedule_report.specs.declared.report.ReportKernel.{ReportKernel}
use Rattle.schedule_report.specs.Reports.{IsKernelPart}

-- The part has the kernel's name and counts, what the schedule's times cost, the times of its nodes
-- and the flow of its problem.
pub record IsPartOf (kernel : Kernel) (schedule : Schedule) (part : ReportKernel) : Type 0 where
  pub is : IsKernelPart part
  pub named : part.name ≡ kernel.name
  pub nodes : part.nodes ≡ length kernel.nodes
  pub edges : part.edges ≡ length (edges_of kernel.nodes)
  pub bits : pos part.bits ≡ cost_of schedule.problem (numbers_of schedule.answer.times)
  pub times : part.times ≡ take (length kernel.nodes) schedule.answer.times
  pub flow : part.flow ≡ schedule.answer.flow
