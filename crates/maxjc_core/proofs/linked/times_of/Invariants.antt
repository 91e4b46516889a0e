use Rattle.std.proofs.Common.{◌≡◌, map}
use Rattle.schedule_report.specs.declared.report.ReportKernel.{ReportKernel}
use Rattle.maxjc_core.proofs.linked.times_of.Given as goal

-- the times of the parts so far
abbrev pub invariant-loop-part : goal.invariant-loop-part
invariant-loop-part l = l.times ≡ map (λ (part : ReportKernel). part.times) l.yielded
