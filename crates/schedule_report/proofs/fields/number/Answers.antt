use Rattle.std.proofs.Common.{◌≡◌, ◌∙◌, ◌<◌, ◌^◌, sym, arith}
use Rattle.std.proofs.lemmas.Fmt.{decimal_injective}
use Rattle.schedule_report.proofs.FieldLemmas.{number_front}
use Rattle.schedule_report.proofs.fields.number.Goals as goal
use Rattle.schedule_report.proofs.fields.number.Goals.{in_default-via-in-Some+else-value-limit, in_default-via-in_default}

pub returns-in_default-clause-none : goal.returns-in_default-clause-none
returns-in_default-clause-none c = λ value rest n.
    let split = c.split_front-split in
    let f =
    number_front c.args.text.now split.result.front.now split.result.rest.now c.args.limit c.ranges.limit.fits split.ensures.joined split.ensures.front
    split.ensures.rest value rest n in
    let small = n.small in
    let fits : value < 2 ^ 64 = omega arith in
    elim c.in_default.branch [
      | in_default-via-in-Some+else-value-limit w ↦
          let same : w.in-Some.value ≡ value = decimal_injective w.in-Some.value value w.in-Some.ensures.fits fits (sym w.in-Some.ensures.some ∙ f) in
          omega arith
      | in_default-via-in_default w ↦ ((rw w.in_default.is at c.numeral.ensures.none) value fits f)
    ]
