use Rattle.maxjc_core.proofs.Checking.{of-project}
use Rattle.maxjc_core.proofs.shown.show_report.Goals as goal

pub returns-in-Ok-clause-shows : goal.returns-in-Ok-clause-shows
returns-in-Ok-clause-shows c = c.show_project.ensures.shows c.args.source.now c.args.table.now c.in-Ok.ensures.made

pub returns-in-Ok-clause-refused : goal.returns-in-Ok-clause-refused
returns-in-Ok-clause-refused c = c.show_project.ensures.refused c.args.source.now c.args.table.now c.in-Ok.ensures.made

pub returns-in-Err-clause-refused : goal.returns-in-Err-clause-refused
returns-in-Err-clause-refused c =
    of-project c.args.source.now c.args.table.now c.args.report.now c.in-Err.stop c.in-Err.ensures.refused
