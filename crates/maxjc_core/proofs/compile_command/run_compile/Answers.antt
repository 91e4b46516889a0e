use Rattle.std.proofs.Common.{◌≡◌, Err, inl, inr, ap, ⊎_elim}
use Rattle.std.specs.Prelude.{IsSome}
use Rattle.mx_base.specs.Files.{Held}
use Rattle.maxjc_core.specs.CompileCauses.{Stands}
use Rattle.maxjc_core.specs.NamedCommand.{names_told}
use Rattle.maxjc_core.specs.Command.{said_more}
use Rattle.maxjc_core.specs.CauseLines.{line_of}
use Rattle.maxjc_core.proofs.Refusing.{said-cause, refused-so, refused-or-cut-off, not-done, not-limited}
use Rattle.maxjc_core.proofs.Exclusion.{excluded, told, told_from_cause, built_from_compiled}
use Rattle.maxjc_core.proofs.InputReading.{err-same}
use Rattle.maxjc_core.proofs.RunClauses.{quiet_reads, quiet_writes}
use Rattle.maxjc_core.proofs.compile_command.run_compile.Goals as goal

pub returns-in-Ok-clause-done : goal.returns-in-Ok-clause-done
returns-in-Ok-clause-done g c = λ ended told.
    let made = c.in-Ok.ensures.answers told in
    let kept = c.in-Ok.ensures.same in
    record {
      files = made.files;
      text = c.in-Ok.compiled.text.items;
      report = c.in-Ok.compiled.report.items;
      line = c.in-Ok.compiled.summary.items;
      compiles = made.compiles;
      written = (c.deliver.ensures.written ended (rw kept told)).0;
      reported = (c.deliver.ensures.written ended (rw kept told)).1;
      said = c.deliver.ensures.said ended;
    }

pub returns-in-Ok-clause-stands : goal.returns-in-Ok-clause-stands
returns-in-Ok-clause-stands g c = λ cause stands.
    let before : Held = g.F.Files.held c.args.files.now in
    let names = names_told c.args.names in
    let made = c.in-Ok.ensures.answers (told_from_cause names before cause stands) in
    absurd (excluded names before cause stands (built_from_compiled _ before _ _ _ made))

pub returns-in-Ok-clause-cut_off : goal.returns-in-Ok-clause-cut_off
returns-in-Ok-clause-cut_off g c = λ cut told.
    let made = c.in-Ok.ensures.answers told in
    let kept = c.in-Ok.ensures.same in
    inr (record {
      files = made.files;
      text = c.in-Ok.compiled.text.items;
      report = c.in-Ok.compiled.report.items;
      line = c.in-Ok.compiled.summary.items;
      compiles = made.compiles;
      in_order = rw kept at (c.deliver.ensures.in_order (rw kept told));
    })

pub returns-in-Err-clause-done : goal.returns-in-Err-clause-done
returns-in-Err-clause-done g c = λ ended told.
    absurd (not-done c.say_stop.result c.say_stop.ensures.ends ended)

pub returns-in-Err-clause-no_edges : goal.returns-in-Err-clause-no_edges
returns-in-Err-clause-no_edges g c = λ limited.
    not-limited c.say_stop.result c.say_stop.ensures.ends limited

pub returns-in-Err-clause-refused : goal.returns-in-Err-clause-refused
returns-in-Err-clause-refused g c = λ refused.
    let before : Held = g.F.Files.held c.args.files.now in
    let names = names_told c.args.names in
    let both = said-cause c.in-Err.stop (λ cause. IsSome before → Stands names before cause)
    (λ cause. g.S.Say.said c.say_stop.new.say
    ≡ said_more (g.S.Say.said c.args.say.now) (line_of cause))
    c.in-Err.ensures.answers (c.say_stop.ensures.refused refused) in
    record { cause = both.0; stands = both.1; said = both.2 }

pub returns-in-Err-clause-stands : goal.returns-in-Err-clause-stands
returns-in-Err-clause-stands g c = λ cause stands.
    refused-or-cut-off c.say_stop.result c.say_stop.ensures.ends

pub returns-in-Err-clause-built : goal.returns-in-Err-clause-built
returns-in-Err-clause-built g c = λ built.
    let before : Held = g.F.Files.held c.args.files.now in
    let names = names_told c.args.names in
    let is_told = told before names.source _ built.files.source_is.holds in
    inr (c.say_stop.ensures.never
    (refused-so c.in-Err.stop (λ cause. IsSome before → Stands names before cause) (λ _. ⊥)
    (λ cause stands. excluded names before cause (stands is_told) built)
    c.in-Err.ensures.answers))

pub returns-in-Err-clause-read_fault : goal.returns-in-Err-clause-read_fault
returns-in-Err-clause-read_fault g c = λ ended.
    c.in-Err.ensures.fault (ap Err (c.say_stop.ensures.read_fault ended))

pub returns-in-Err-clause-missing : goal.returns-in-Err-clause-missing
returns-in-Err-clause-missing g c = λ lacks.
    ⊎_elim (λ e. inl (c.say_stop.ensures.reads (err-same e)))
    (λ e. inr (c.say_stop.ensures.no_memory (err-same e))) (c.in-Err.ensures.missing lacks)

pub returns-in-Err-clause-write_fault : goal.returns-in-Err-clause-write_fault
returns-in-Err-clause-write_fault g c = λ ended.
    inr (c.say_stop.ensures.fault ended, c.in-Err.ensures.write_quiet)

pub returns-in-Err-clause-write_fault_reads : goal.returns-in-Err-clause-write_fault_reads
returns-in-Err-clause-write_fault_reads g c = λ ended.
    c.in-Err.ensures.quiet (λ e. let read = c.say_stop.ensures.reads (err-same e) in cc)

pub returns-in-Err-clause-read_fault_writes : goal.returns-in-Err-clause-read_fault_writes
returns-in-Err-clause-read_fault_writes g c = λ ended.
    (c.in-Err.ensures.write_quiet, c.say_stop.ensures.quiet (λ e. cc))

pub returns-in-Err-clause-quiet : goal.returns-in-Err-clause-quiet
returns-in-Err-clause-quiet g c = λ quiet. (
  c.in-Err.ensures.quiet (λ e.
      quiet_reads c.say_stop.result quiet (c.say_stop.ensures.reads (err-same e))),
  c.in-Err.ensures.write_quiet,
  c.say_stop.ensures.quiet (quiet_writes c.say_stop.result quiet),
)

pub returns-in-Err-clause-cut_off : goal.returns-in-Err-clause-cut_off
returns-in-Err-clause-cut_off g c = λ cut told. inl c.in-Err.ensures.same
