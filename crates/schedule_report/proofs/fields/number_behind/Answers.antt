use Rattle.schedule_report.proofs.FieldLemmas.{none_behind}
use Rattle.schedule_report.proofs.fields.number_behind.Goals as goal

pub returns-in-Some-clause-none : goal.returns-in-Some-clause-none
returns-in-Some-clause-none c =
    none_behind c.number.result c.args.text.now c.args.label.now c.in-Some.rest.now c.args.limit c.in-Some.ensures.some c.number.ensures.none
