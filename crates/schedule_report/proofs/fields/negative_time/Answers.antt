use Rattle.std.proofs.Common.{◌≡◌, ◌<◌, ◌^◌, suc, [], arith}
use Rattle.std.specs.Prelude.{codes}
use Rattle.schedule_report.specs.Fields.{IsLast}
use Rattle.schedule_report.proofs.FieldLemmas.{last_field, field_same}
use Rattle.schedule_report.proofs.fields.negative_time.Goals as goal

pub returns-in_default-clause-none : goal.returns-in_default-clause-none
returns-in_default-clause-none c = λ size t.
    let line = c.args.line.now in
    let small = t.small in
    let said : IsLast line (codes "time -") 1152921504606846977 (suc size) = record { text_is = t.line_is; small = omega arith } in
    let fits : 1152921504606846977 < 2 ^ 64 = omega arith in
    let same =
    field_same line (codes "time -") 1152921504606846977 1152921504606846977 c.in-Some.value (suc size) [] [] fits fits
    (last_field line (codes "time -") 1152921504606846977 c.in-Some.value c.in-Some.ensures.some)
    (last_field line (codes "time -") 1152921504606846977 (suc size) said) in
    let e : c.in-Some.value ≡ suc size = same.0 in
    omega arith
