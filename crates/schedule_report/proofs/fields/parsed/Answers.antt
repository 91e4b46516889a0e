use Rattle.std.proofs.Common.{◌≡◌, ◌∙◌, Ok, sym, subst, arith}
use Rattle.std.specs.Str.{IsAscii}
use Rattle.std.proofs.lemmas.Grind.{common_steps}
use Rattle.std.proofs.lemmas.Fmt.{parse-decimal, IsAscii-decimal}
use Rattle.std.proofs.lemmas.Str.{IsUtf8-from_ascii}
use Rattle.schedule_report.proofs.fields.parsed.Goals as goal

pub returns-in-Ok : goal.returns-in-Ok
returns-in-Ok c = λ value h e.
    let same : c.in-Ok.digits.now ≡ c.args.digits.now = c.in-Ok.ensures.cases.0 in
    let p : c.parse.result ≡ Ok value = parse-decimal 64 value c.in-Ok.digits.now c.parse.result h h (same ∙ e) c.parse.ensures.value.0 in
    grind (arith, common_steps, p)

pub returns-in-Err : goal.returns-in-Err
returns-in-Err c = λ value h e. absurd (c.in-Err.ensures.cases.0 (IsUtf8-from_ascii c.args.digits.now (subst IsAscii (sym e) (IsAscii-decimal value h))))
