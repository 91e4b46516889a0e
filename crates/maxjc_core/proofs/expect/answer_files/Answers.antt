-- What is answered of the files.
use Rattle.std.proofs.Common.{◌∙◌, Err, inl, inr, ap, ⊎_elim}
use Rattle.std.specs.Prelude.{IsSome, List, ℕ}
use Rattle.std.proofs.lemmas.Result.{IfOk-weaker, IfErr-weaker}
use Rattle.mx_base.specs.Files.{Held}
use Rattle.maxjc_core.specs.CompileStops.{IfRefused}
use Rattle.maxjc_core.specs.ExpectCauses.{ExpectStands}
use Rattle.maxjc_core.specs.ExpectStops.{AnswersAs, IsAnswerOf, readings_in}
use Rattle.maxjc_core.specs.InputWords.{HaveWords, IsFirstLineFault}
use Rattle.maxjc_core.specs.NamedCommand.{expect_told}
use Rattle.maxjc_core.proofs.Expecting.{answers-of, line-stands, lacks-four, lacks-input}
use Rattle.maxjc_core.proofs.ExpectClauses.{missing-four, read-lacks-none}
use Rattle.maxjc_core.proofs.InputReading.{err-same, ok-no-error, told-by-lack}
use Rattle.maxjc_core.proofs.expect.answer_files.Goals as goal

pub answer_begun-requires : goal.answer_begun-requires
answer_begun-requires g c = c.in-Ok.ensures.ready

pub returns-in-Err-clause-fault : goal.returns-in-Err-clause-fault
returns-in-Err-clause-fault g c = λ fault.
    lacks-four (expect_told c.args.names) (g.F.Files.held c.args.files.now)
    (c.in-Err.ensures.fault (ap Err (err-same fault)))

pub returns-in-Err-clause-missing : goal.returns-in-Err-clause-missing
returns-in-Err-clause-missing g c = λ lacks.
    ⊎_elim (λ e. inl (ap Err e)) (λ e. inr (ap Err e))
    (missing-four (expect_told c.args.names) (g.F.Files.held c.args.files.now) c.in-Err.stop
    (λ m. ⊎_elim (λ e. inl (err-same e)) (λ e. inr (err-same e)) (c.in-Err.ensures.missing m))
    c.in-Err.ensures.refused lacks)

pub returns-in-Ok-clause-quiet : goal.returns-in-Ok-clause-quiet
returns-in-Ok-clause-quiet g c = λ never.
    c.answer_begun.ensures.quiet never ∙ c.in-Ok.ensures.quiet (λ e. ok-no-error e)

pub returns-in-Ok-clause-answers : goal.returns-in-Ok-clause-answers
returns-in-Ok-clause-answers g c =
    let names = expect_told c.args.names in
    let held : Held = g.F.Files.held c.args.files.now in
    let begun = c.in-Ok.begun in
    IfOk-weaker c.answer_begun.result
    (λ answer. IsSome held
    → (words : List (List ℕ)) × HaveWords held (readings_in begun) words
    × IsAnswerOf begun words answer)
    (λ answer. IsSome held → AnswersAs names held answer)
    (λ answer made told.
    let m = made told in
    answers-of names held begun m.0 answer c.in-Ok.ensures.begins (λ _. m.1) m.2 told)
    (rw c.in-Ok.ensures.same at c.answer_begun.ensures.answers)

pub returns-in-Ok-clause-refused : goal.returns-in-Ok-clause-refused
returns-in-Ok-clause-refused g c =
    let names = expect_told c.args.names in
    let held : Held = g.F.Files.held c.args.files.now in
    let begun = c.in-Ok.begun in
    IfErr-weaker c.answer_begun.result
    (λ stop. IfRefused stop (λ cause. IsSome held
    → IsFirstLineFault held (readings_in begun) cause))
    (λ stop. IfRefused stop (λ cause. IsSome held → ExpectStands names held cause))
    (λ stop refused. line-stands names held begun stop c.in-Ok.ensures.begins refused)
    (rw c.in-Ok.ensures.same at c.answer_begun.ensures.refused)

pub returns-in-Ok-clause-fault : goal.returns-in-Ok-clause-fault
returns-in-Ok-clause-fault g c = λ fault.
    let names = expect_told c.args.names in
    let held : Held = g.F.Files.held c.args.files.now in
    let quiet = c.in-Ok.ensures.quiet (λ e. ok-no-error e) in
    lacks-input names held c.in-Ok.begun
    (λ lacks. c.in-Ok.ensures.begins (told-by-lack held (readings_in c.in-Ok.begun) lacks))
    (rw (c.in-Ok.ensures.same, quiet) at (c.answer_begun.ensures.fault fault))

pub returns-in-Ok-clause-missing : goal.returns-in-Ok-clause-missing
returns-in-Ok-clause-missing g c =
    let names = expect_told c.args.names in
    let held : Held = g.F.Files.held c.args.files.now in
    read-lacks-none names held c.in-Ok.begun c.in-Ok.ensures.begins
    (rw c.in-Ok.ensures.same at c.answer_begun.ensures.missing)
