use Rattle.schedule_report.proofs.OneReport.{texts_differ}
use Rattle.schedule_report.proofs.law.texts_differ.Goals as goal

pub returns : goal.returns
returns c = texts_differ
