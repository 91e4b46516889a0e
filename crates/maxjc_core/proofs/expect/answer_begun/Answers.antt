-- What is answered of a run that was begun.
use Rattle.std.proofs.Common.{◌∙◌, Err, inl, inr, length, ap, sym, ⊎_elim}
use Rattle.maxjc_core.proofs.ExpectClauses.{ticks-for}
use Rattle.maxjc_core.proofs.InputReading.{err-same, no-error}
use Rattle.maxjc_core.proofs.Giving.{counted-inputs, inputs-wide}
use Rattle.maxjc_core.proofs.expect.answer_begun.Goals as goal

pub input_words-requires-clause-each : goal.input_words-requires-clause-each
input_words-requires-clause-each g c =
    let begun = c.args.begun.now in
    counted-inputs begun.linked.project begun.plan c.requires.fits
    ∙ ap length (sym c.inputs.ensures)

pub input_words-requires-clause-widths : goal.input_words-requires-clause-widths
input_words-requires-clause-widths g c =
    inputs-wide c.args.begun.now.linked.project c.args.begun.now.plan c.requires.fits

pub input_words-requires-clause-ticks : goal.input_words-requires-clause-ticks
input_words-requires-clause-ticks g c =
    ticks-for c.args.begun.now.linked.project c.args.begun.now.plan c.inputs.result.now
    c.inputs.ensures c.requires.fits

pub answer_of-requires : goal.answer_of-requires
answer_of-requires g c = record {
  ready = c.requires;
  within = rw c.inputs.ensures at c.in-Ok.ensures.within;
}

pub returns-in_ok-answer_of-in-Ok-clause-answers : goal.returns-in_ok-answer_of-in-Ok-clause-answers
returns-in_ok-answer_of-in-Ok-clause-answers g c = λ told. (
  c.in-Ok.words,
  (rw c.inputs.ensures at c.in-Ok.ensures.words) told,
  c.in_ok-answer_of-in-Ok.ensures.is,
)

pub returns-in_ok-answer_of-in-Ok-clause-missing : goal.returns-in_ok-answer_of-in-Ok-clause-missing
returns-in_ok-answer_of-in-Ok-clause-missing g c = λ lacks.
    absurd (no-error ((rw c.inputs.ensures at c.in-Ok.ensures.missing) lacks))

pub returns-in-Err-clause-fault : goal.returns-in-Err-clause-fault
returns-in-Err-clause-fault g c = λ fault.
    (rw c.inputs.ensures at c.in-Err.ensures.fault) (ap Err (err-same fault))

pub returns-in-Err-clause-missing : goal.returns-in-Err-clause-missing
returns-in-Err-clause-missing g c = λ lacks.
    ⊎_elim (λ e. inl (ap Err (err-same e))) (λ e. inr (ap Err (err-same e)))
    ((rw c.inputs.ensures at c.in-Err.ensures.missing) lacks)

pub returns-in-Err-clause-refused : goal.returns-in-Err-clause-refused
returns-in-Err-clause-refused g c = rw c.inputs.ensures at c.in-Err.ensures.refused
