use Rattle.std.proofs.Common.{length}
use Rattle.schedule_report.proofs.Reached.{IsReached}
use Rattle.schedule_report.proofs.report.Report.read.Given as goal

-- the lines so far lead to the stage
abbrev pub invariant-loop-line : goal.invariant-loop-line
invariant-loop-line l = IsReached l.bytes l.stage l.rest l.number

abbrev pub decreases-loop-line : goal.decreases-loop-line
decreases-loop-line l = length l.rest
