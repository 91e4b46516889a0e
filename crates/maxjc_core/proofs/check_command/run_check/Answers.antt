use Rattle.std.proofs.Common.{◌≡◌, Err, inl, inr, ap, ⊎_elim}
use Rattle.std.specs.Prelude.{IsSome}
use Rattle.mx_base.specs.Files.{Held}
use Rattle.maxjc_core.specs.CheckCauses.{CheckStands}
use Rattle.maxjc_core.specs.NamedCommand.{check_told}
use Rattle.maxjc_core.specs.Command.{said_more}
use Rattle.maxjc_core.specs.CauseLines.{line_of}
use Rattle.maxjc_core.proofs.Refusing.{said-cause, refused-so, refused-or-cut-off, not-done, not-limited}
use Rattle.maxjc_core.proofs.Exclusion.{told}
use Rattle.maxjc_core.proofs.CheckExclusion.{excluded_check, told_from_check, good_from_checked}
use Rattle.maxjc_core.proofs.InputReading.{err-same}
use Rattle.maxjc_core.proofs.RunClauses.{quiet_reads, quiet_writes}
use Rattle.maxjc_core.proofs.check_command.run_check.Goals as goal

pub returns-in-Ok-clause-done : goal.returns-in-Ok-clause-done
returns-in-Ok-clause-done g c = λ ended told.
    record {
      line = c.in-Ok.line.items;
      checked = c.in-Ok.ensures.checked told;
      said = rw c.deref.ensures.value at (c.confirm.ensures.said ended);
    }

pub returns-in-Ok-clause-stands : goal.returns-in-Ok-clause-stands
returns-in-Ok-clause-stands g c = λ cause stands.
    let before : Held = g.F.Files.held c.args.files.now in
    let names = check_told c.args.names in
    let made = c.in-Ok.ensures.checked (told_from_check names before cause stands) in
    absurd (excluded_check names before cause stands (good_from_checked names before _ made))

pub returns-in-Err-clause-done : goal.returns-in-Err-clause-done
returns-in-Err-clause-done g c = λ ended told.
    absurd (not-done c.say_stop.result c.say_stop.ensures.ends ended)

pub returns-in-Err-clause-no_edges : goal.returns-in-Err-clause-no_edges
returns-in-Err-clause-no_edges g c = λ limited.
    not-limited c.say_stop.result c.say_stop.ensures.ends limited

pub returns-in-Err-clause-refused : goal.returns-in-Err-clause-refused
returns-in-Err-clause-refused g c = λ refused.
    let before : Held = g.F.Files.held c.args.files.now in
    let names = check_told c.args.names in
    let both = said-cause c.in-Err.stop (λ cause. IsSome before → CheckStands names before cause)
    (λ cause. g.S.Say.said c.say_stop.new.say
    ≡ said_more (g.S.Say.said c.args.say.now) (line_of cause))
    c.in-Err.ensures.refused (c.say_stop.ensures.refused refused) in
    record { cause = both.0; stands = both.1; said = both.2 }

pub returns-in-Err-clause-stands : goal.returns-in-Err-clause-stands
returns-in-Err-clause-stands g c = λ cause stands.
    refused-or-cut-off c.say_stop.result c.say_stop.ensures.ends

pub returns-in-Err-clause-checked : goal.returns-in-Err-clause-checked
returns-in-Err-clause-checked g c = λ good.
    let before : Held = g.F.Files.held c.args.files.now in
    let names = check_told c.args.names in
    let is_told = told before names.source _ good.files.project.source_is.holds in
    inr (c.say_stop.ensures.never
    (refused-so c.in-Err.stop (λ cause. IsSome before → CheckStands names before cause) (λ _. ⊥)
    (λ cause stands. excluded_check names before cause (stands is_told) good)
    c.in-Err.ensures.refused))

pub returns-in-Err-clause-read_fault : goal.returns-in-Err-clause-read_fault
returns-in-Err-clause-read_fault g c = λ ended.
    c.in-Err.ensures.fault (ap Err (c.say_stop.ensures.read_fault ended))

pub returns-in-Err-clause-missing : goal.returns-in-Err-clause-missing
returns-in-Err-clause-missing g c = λ lacks.
    ⊎_elim (λ e. inl (c.say_stop.ensures.reads (err-same e)))
    (λ e. inr (c.say_stop.ensures.no_memory (err-same e))) (c.in-Err.ensures.missing lacks)

pub returns-in-Err-clause-write_fault_reads : goal.returns-in-Err-clause-write_fault_reads
returns-in-Err-clause-write_fault_reads g c = λ ended.
    c.in-Err.ensures.quiet (λ e. let read = c.say_stop.ensures.reads (err-same e) in cc)

pub returns-in-Err-clause-read_fault_says : goal.returns-in-Err-clause-read_fault_says
returns-in-Err-clause-read_fault_says g c = λ ended.
    c.say_stop.ensures.quiet (λ e. cc)

pub returns-in-Err-clause-quiet : goal.returns-in-Err-clause-quiet
returns-in-Err-clause-quiet g c = λ quiet. (
  c.in-Err.ensures.quiet (λ e.
      quiet_reads c.say_stop.result quiet (c.say_stop.ensures.reads (err-same e))),
  c.say_stop.ensures.quiet (quiet_writes c.say_stop.result quiet),
)
