use Rattle.std.proofs.Common.{ap, length, arith}
use Rattle.std.proofs.lemmas.Bool.Decides.{nat_tests}
use Rattle.schedule_report.proofs.Reached.{reached_next, wrong_line, wrong_end}
use Rattle.schedule_report.proofs.report.Report.read.Goals as goal

pub returns-in-None-clause-err : goal.returns-in-None-clause-err
returns-in-None-clause-err c =
    wrong_line c.args.bytes.now c.loop-line.stage c.loop-line.rest.now c.in-Some.line.front.now c.in-Some.line.rest.now c.loop-line.number
    c.loop-line.invariant c.in-Some.ensures.some c.in-Some.ensures.line
    (rw c.in-None.is at c.in_ok-new.ensures.none)

pub loop-line-preserved : goal.loop-line-preserved
loop-line-preserved c =
    reached_next c.args.bytes.now c.loop-line.stage c.in-Some-2.new c.loop-line.rest.now c.in-Some.line.front.now c.in-Some.line.rest.now c.loop-line.number
    c.loop-line.invariant c.in-Some.ensures.some
    c.in-Some.ensures.line (rw c.in-Some-2.is at c.in_ok-new.ensures.some)

pub returns-then-not-is_empty-clause-err : goal.returns-then-not-is_empty-clause-err
returns-then-not-is_empty-clause-err c =
    wrong_end c.args.bytes.now c.loop-line.stage c.loop-line.rest.now c.loop-line.number c.loop-line.invariant c.in_default.ensures.none
    (λ q e d. let n = ap length e in let some = c.if-not-is_empty.ensures in grind (arith, nat_tests))

pub returns-in-None-report-clause-err : goal.returns-in-None-report-clause-err
returns-in-None-report-clause-err c =
    wrong_end c.args.bytes.now c.loop-line.stage c.loop-line.rest.now c.loop-line.number c.loop-line.invariant c.in_default.ensures.none
    (λ q e d. c.in-None-report.ensures.none q d)
