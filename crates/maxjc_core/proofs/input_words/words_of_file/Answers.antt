-- The words of one file.
use Rattle.std.proofs.Common.{◌≡◌, Err, Some, inl, inr, arith, ap, sym, subst, ⊎_elim}
use Rattle.std.specs.Prelude.{IsSome}
use Rattle.mx_base.specs.Files.{Held}
use Rattle.simulation.specs.Errors.{stop_of}
use Rattle.maxjc_core.specs.InputWords.{reading_of, HasWords, IsLineFault}
use Rattle.maxjc_core.specs.ErrorCauses.{stop_cause}
use Rattle.maxjc_core.proofs.ExpectMissing.{no-cause-left}
use Rattle.maxjc_core.proofs.InputReading.{err-same, no-error, cause-held, has-words, line-fault}
use Rattle.maxjc_core.proofs.Refusing.{refused-so}
use Rattle.maxjc_core.proofs.input_words.words_of_file.Goals as goal

-- where no line is read there are no words
pub returns-then-most-eq0-clause-words : goal.returns-then-most-eq0-clause-words
returns-then-most-eq0-clause-words g c = λ told.
    subst (HasWords (g.F.Files.held c.args.files.now) (reading_of c.args.file.now c.args.most))
    (sym c.new.ensures) (HasWords.unread c.if-most-eq0.true)

pub returns-in-Ok-clause-words : goal.returns-in-Ok-clause-words
returns-in-Ok-clause-words g c = λ told.
    let held : Held = g.F.Files.held c.args.files.now in
    has-words held (reading_of c.args.file.now c.args.most) c.in-Ok.words told
    (λ lacks. no-error (c.in-Ok.ensures.lacking lacks (omega arith))) c.in-Ok.ensures.words

pub returns-in-Err-clause-quiet : goal.returns-in-Err-clause-quiet
returns-in-Err-clause-quiet g c = λ no.
    c.in-Err.ensures.quiet (λ e. no (ap Err (c.words_stop.ensures.fault (err-same e))))

pub returns-in-Err-clause-fault : goal.returns-in-Err-clause-fault
returns-in-Err-clause-fault g c = λ fault.
    ⊎_elim (λ rose. inl rose) (λ lacks. inr (record { some = omega arith; lacks = lacks }))
    (c.in-Err.ensures.fault (ap Err (c.words_stop.ensures.only (err-same fault))))

pub returns-in-Err-clause-missing : goal.returns-in-Err-clause-missing
returns-in-Err-clause-missing g c = λ lacks.
    ⊎_elim (λ e. inl (ap Err e)) (λ e. inr (ap Err e))
    (no-cause-left c.words_stop.result
    (λ cause. stop_cause (stop_of c.in-Err.error) ≡ Some cause)
    (λ cause is. cause-held is (c.in-Err.ensures.lacking lacks.lacks lacks.some))
    c.words_stop.ensures.cause)

pub returns-in-Err-clause-refused : goal.returns-in-Err-clause-refused
returns-in-Err-clause-refused g c =
    let held : Held = g.F.Files.held c.args.files.now in
    let r = reading_of c.args.file.now c.args.most in
    refused-so c.words_stop.result (λ cause. stop_cause (stop_of c.in-Err.error) ≡ Some cause)
    (λ cause. IsSome held → IsLineFault held r cause)
    (λ cause is told. line-fault held r c.in-Err.error cause told
    (λ lacks. cause-held is (c.in-Err.ensures.lacking lacks (omega arith)))
    c.in-Err.ensures.words is)
    c.words_stop.ensures.cause
