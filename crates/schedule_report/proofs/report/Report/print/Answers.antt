use Rattle.std.proofs.Common.{arith}
use Rattle.std.proofs.lemmas.Grind.{common_steps}
use Rattle.schedule_report.proofs.Printed.{printed_whole}
use Rattle.schedule_report.proofs.report.Report.print.Goals as goal

pub returns-in-Ok-clause-ok : goal.returns-in-Ok-clause-ok
returns-in-Ok-clause-ok c = let e = printed_whole c.args.self.now in let t = c.in-Ok.ensures.ok in grind (arith, common_steps, e, t)
