use Rattle.std.proofs.Common.{◌≡◌, [], arith}
use Rattle.std.proofs.lemmas.Grind.{common_steps}
use Rattle.schedule_report.proofs.FieldLemmas.{last_field, field_same}
use Rattle.schedule_report.proofs.fields.last.Goals as goal

pub returns-in_default-clause-none : goal.returns-in_default-clause-none
returns-in_default-clause-none c = λ value l.
    let s =
    field_same c.args.text.now c.args.label.now c.args.limit c.args.limit c.in-Some.found.value value c.in-Some.found.rest.now [] c.ranges.limit.fits
    c.ranges.limit.fits c.in-Some.ensures.some (last_field c.args.text.now c.args.label.now c.args.limit value l) in
    let e : c.in-Some.found.rest.now ≡ [] = s.1 in
    grind (arith, common_steps, e)

pub returns-in_default-2-clause-none : goal.returns-in_default-2-clause-none
returns-in_default-2-clause-none c =
    λ value l. (rw c.in_default.is at c.number_behind.ensures.none) value [] (last_field c.args.text.now c.args.label.now c.args.limit value l)
