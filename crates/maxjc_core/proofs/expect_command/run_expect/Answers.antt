use Rattle.std.proofs.Common.{◌≡◌, ◌∙◌, Err, inl, inr, ap, subst, ⊎_elim}
use Rattle.std.specs.Prelude.{IsSome}
use Rattle.std.specs.List.{AllZip}
use Rattle.mx_base.specs.Files.{Held}
use Rattle.simulation.specs.Outputs.{ChangesOnlyOutputs}
use Rattle.maxjc_core.specs.Command.{said_more}
use Rattle.maxjc_core.specs.ExpectCauses.{ExpectStands}
use Rattle.maxjc_core.specs.ExpectEnds.{HoldsLines}
use Rattle.maxjc_core.specs.CauseLines.{line_of}
use Rattle.maxjc_core.specs.NamedCommand.{expect_told}
use Rattle.maxjc_core.proofs.Exclusion.{told}
use Rattle.maxjc_core.proofs.ExpectExclusion.{excluded-expect, told-from-expect}
use Rattle.maxjc_core.proofs.Refusing.{said-cause, refused-so, refused-or-cut-off, not-done, not-limited}
use Rattle.maxjc_core.proofs.InputReading.{err-same}
use Rattle.maxjc_core.proofs.RunClauses.{quiet_reads, quiet_writes}
use Rattle.maxjc_core.proofs.expect_command.run_expect.Goals as goal

pub returns-in-Ok-clause-done : goal.returns-in-Ok-clause-done
returns-in-Ok-clause-done g c = λ ended told.
    let now : Held = g.F.Files.held c.deliver.new.files in
    let a = c.in-Ok.ensures.answers told in
    let written = c.deliver.ensures.written ended (rw c.in-Ok.ensures.same told) in
    record {
      expected = a.expected;
      is = a.is;
      written = subst (AllZip (HoldsLines now) a.is.can.begun.fit.plan.outputs) a.words
          (subst (λ files. AllZip (HoldsLines now) files c.in-Ok.answer.words) a.outputs written);
      said = c.deliver.ensures.said ended ∙ ap (said_more (g.S.Say.said c.args.say.now)) a.lines;
    }

pub returns-in-Ok-clause-stands : goal.returns-in-Ok-clause-stands
returns-in-Ok-clause-stands g c = λ cause stands.
    let before : Held = g.F.Files.held c.args.files.now in
    let names = expect_told c.args.names in
    let a = c.in-Ok.ensures.answers (told-from-expect names before cause stands) in
    absurd (excluded-expect names before cause stands a.is.can)

pub returns-in-Ok-clause-others : goal.returns-in-Ok-clause-others
returns-in-Ok-clause-others g c = λ told.
    let before : Held = g.F.Files.held c.args.files.now in
    let now : Held = g.F.Files.held c.deliver.new.files in
    let a = c.in-Ok.ensures.answers told in
    inr (
      a.is.can,
      subst (λ files. ChangesOnlyOutputs files before now) a.outputs
          (rw c.in-Ok.ensures.same at c.deliver.ensures.only),
    )

pub returns-in-Ok-clause-missing : goal.returns-in-Ok-clause-missing
returns-in-Ok-clause-missing g c = λ lacks.
    ⊎_elim (λ e. absurd (let read = e in cc)) (λ e. absurd (let read = e in cc))
    (c.in-Ok.ensures.missing lacks)

pub returns-in-Err-clause-done : goal.returns-in-Err-clause-done
returns-in-Err-clause-done g c = λ ended told.
    absurd (not-done c.say_stop.result c.say_stop.ensures.ends ended)

pub returns-in-Err-clause-no_edges : goal.returns-in-Err-clause-no_edges
returns-in-Err-clause-no_edges g c = λ limited.
    not-limited c.say_stop.result c.say_stop.ensures.ends limited

pub returns-in-Err-clause-refused : goal.returns-in-Err-clause-refused
returns-in-Err-clause-refused g c = λ refused.
    let before : Held = g.F.Files.held c.args.files.now in
    let names = expect_told c.args.names in
    let both = said-cause c.in-Err.stop (λ cause. IsSome before → ExpectStands names before cause)
    (λ cause. g.S.Say.said c.say_stop.new.say
    ≡ said_more (g.S.Say.said c.args.say.now) (line_of cause))
    c.in-Err.ensures.refused (c.say_stop.ensures.refused refused) in
    record { cause = both.0; stands = both.1; said = both.2 }

pub returns-in-Err-clause-stands : goal.returns-in-Err-clause-stands
returns-in-Err-clause-stands g c = λ cause stands.
    refused-or-cut-off c.say_stop.result c.say_stop.ensures.ends

pub returns-in-Err-clause-expected : goal.returns-in-Err-clause-expected
returns-in-Err-clause-expected g c = λ can.
    let before : Held = g.F.Files.held c.args.files.now in
    let names = expect_told c.args.names in
    let is_told = told before names.check.source _ can.begun.files.check.project.source_is.holds in
    inr (c.say_stop.ensures.never
    (refused-so c.in-Err.stop (λ cause. IsSome before → ExpectStands names before cause) (λ _. ⊥)
    (λ cause stands. excluded-expect names before cause (stands is_told) can)
    c.in-Err.ensures.refused))

pub returns-in-Err-clause-read_fault : goal.returns-in-Err-clause-read_fault
returns-in-Err-clause-read_fault g c = λ ended.
    c.in-Err.ensures.fault (ap Err (c.say_stop.ensures.read_fault ended))

pub returns-in-Err-clause-missing : goal.returns-in-Err-clause-missing
returns-in-Err-clause-missing g c = λ lacks.
    ⊎_elim (λ e. inl (c.say_stop.ensures.reads (err-same e)))
    (λ e. inr (c.say_stop.ensures.no_memory (err-same e))) (c.in-Err.ensures.missing lacks)

pub returns-in-Err-clause-write_fault : goal.returns-in-Err-clause-write_fault
returns-in-Err-clause-write_fault g c = λ ended.
    inr (c.say_stop.ensures.fault ended, c.in-Err.ensures.write_quiet)

pub returns-in-Err-clause-write_fault_reads : goal.returns-in-Err-clause-write_fault_reads
returns-in-Err-clause-write_fault_reads g c = λ ended.
    c.in-Err.ensures.quiet (λ e. let read = c.say_stop.ensures.reads (err-same e) in cc)

pub returns-in-Err-clause-read_fault_writes : goal.returns-in-Err-clause-read_fault_writes
returns-in-Err-clause-read_fault_writes g c = λ ended.
    (c.in-Err.ensures.write_quiet, c.say_stop.ensures.quiet (λ e. cc))

pub returns-in-Err-clause-quiet : goal.returns-in-Err-clause-quiet
returns-in-Err-clause-quiet g c = λ quiet. (
  c.in-Err.ensures.quiet (λ e.
      quiet_reads c.say_stop.result quiet (c.say_stop.ensures.reads (err-same e))),
  c.in-Err.ensures.write_quiet,
  c.say_stop.ensures.quiet (quiet_writes c.say_stop.result quiet),
)

pub returns-in-Err-clause-others : goal.returns-in-Err-clause-others
returns-in-Err-clause-others g c = λ told. inl c.in-Err.ensures.same
