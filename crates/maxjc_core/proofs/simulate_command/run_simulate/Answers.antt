use Rattle.std.proofs.Common.{◌≡◌, ◌∙◌, Ok, Err, inl, inr, ap, sym, subst, ⊎_elim}
use Rattle.std.specs.Prelude.{IsSome}
use Rattle.mx_base.specs.Files.{Held}
use Rattle.stall_source.specs.Stalls.{Answers}
use Rattle.maxjc_core.specs.NamedCommand.{run_told}
use Rattle.maxjc_core.specs.Command.{said_more}
use Rattle.maxjc_core.specs.CauseLines.{line_of}
use Rattle.maxjc_core.specs.ErrorCauses.{stop_cause}
use Rattle.maxjc_core.specs.CommandEnds.{IsCutOff}
use Rattle.maxjc_core.specs.SimulateCauses.{IsFaulty}
use Rattle.maxjc_core.specs.SimulateRuns.{RefusesRun, ReadFails}
use Rattle.maxjc_core.proofs.Refusing.{both_of, said-cause, refused-or-cut-off, not-done, not-limited}
use Rattle.maxjc_core.proofs.InputReading.{err-same}
use Rattle.maxjc_core.proofs.RunEnding.{IsMade, IsSimulated, simulated, ends_so}
use Rattle.maxjc_core.proofs.RunClauses.{stopped_not_done, stopped_not_limited, run_done}
use Rattle.maxjc_core.proofs.RunClauses.{run_limited, answers_done, answers_limited, fails_done}
use Rattle.maxjc_core.proofs.RunClauses.{fails_limited, stands_not, lacks_not, lacks_cut_off}
use Rattle.maxjc_core.proofs.RunClauses.{others_so, leaves_ended, leaves_stopped, refused_stands}
use Rattle.maxjc_core.proofs.RunClauses.{read_fault_so, cut_off_so, fault_told, failed_so}
use Rattle.maxjc_core.proofs.RunClauses.{reads_no_other, writes_no_other, quiet_reads, quiet_writes}
use Rattle.maxjc_core.proofs.Writing.{words_so}
use Rattle.maxjc_core.proofs.Finishing.{finishes-ended, finishes-stopped}
use Rattle.maxjc_core.proofs.simulate_command.run_simulate.Goals as goal

pub returns-in-Ok-simulate-clause-done : goal.returns-in-Ok-simulate-clause-done
returns-in-Ok-simulate-clause-done g c =
    let held : Held = g.F.Files.held c.args.files.now in
    let made : IsMade (run_told c.args.names) held c.in-Ok.field-0.design c.in-Ok.field-0.plan = record { can = c.in-Ok.ensures.can_run; loaded = c.in-Ok.ensures.answers } in
    let sim : IsSimulated (λ pick edge port. g.G.Fn.post c.args.stalls.now.test (
      pick,
      (edge, (port, tt)),
    )) c.in-Ok.field-0.design c.in-Ok.field-0.plan held
    (g.F.Files.held c.simulate.new.files) (Ok c.in-Ok-simulate.outcome) =
    simulated c.in-Ok.ensures.same c.in-Ok-simulate.ensures.tells c.in-Ok-simulate.ensures.exact c.in-Ok-simulate.ensures.cells c.in-Ok-simulate.ensures.too_many in
    run_done c.in-Ok-simulate.outcome c.report.result _ _ made sim c.report.ensures.ends c.report.ensures.said

pub returns-in-Ok-simulate-clause-limited : goal.returns-in-Ok-simulate-clause-limited
returns-in-Ok-simulate-clause-limited g c =
    let held : Held = g.F.Files.held c.args.files.now in
    let made : IsMade (run_told c.args.names) held c.in-Ok.field-0.design c.in-Ok.field-0.plan = record { can = c.in-Ok.ensures.can_run; loaded = c.in-Ok.ensures.answers } in
    let sim : IsSimulated (λ pick edge port. g.G.Fn.post c.args.stalls.now.test (
      pick,
      (edge, (port, tt)),
    )) c.in-Ok.field-0.design c.in-Ok.field-0.plan held
    (g.F.Files.held c.simulate.new.files) (Ok c.in-Ok-simulate.outcome) =
    simulated c.in-Ok.ensures.same c.in-Ok-simulate.ensures.tells c.in-Ok-simulate.ensures.exact c.in-Ok-simulate.ensures.cells c.in-Ok-simulate.ensures.too_many in
    run_limited c.in-Ok-simulate.outcome c.report.result _ _ made sim c.report.ensures.ends c.report.ensures.said

pub returns-in-Ok-simulate-clause-ends_done : goal.returns-in-Ok-simulate-clause-ends_done
returns-in-Ok-simulate-clause-ends_done g c =
    let held : Held = g.F.Files.held c.args.files.now in
    let made : IsMade (run_told c.args.names) held c.in-Ok.field-0.design c.in-Ok.field-0.plan = record { can = c.in-Ok.ensures.can_run; loaded = c.in-Ok.ensures.answers } in
    let sim : IsSimulated (λ pick edge port. g.G.Fn.post c.args.stalls.now.test (
      pick,
      (edge, (port, tt)),
    )) c.in-Ok.field-0.design c.in-Ok.field-0.plan held
    (g.F.Files.held c.simulate.new.files) (Ok c.in-Ok-simulate.outcome) =
    simulated c.in-Ok.ensures.same c.in-Ok-simulate.ensures.tells c.in-Ok-simulate.ensures.exact c.in-Ok-simulate.ensures.cells c.in-Ok-simulate.ensures.too_many in
    λ l small restart vs edges ends. answers_done c.in-Ok-simulate.outcome edges c.report.result (ends_so l made sim small restart vs _ ends) c.report.ensures.ends

pub returns-in-Ok-simulate-clause-ends_limited : goal.returns-in-Ok-simulate-clause-ends_limited
returns-in-Ok-simulate-clause-ends_limited g c =
    let held : Held = g.F.Files.held c.args.files.now in
    let made : IsMade (run_told c.args.names) held c.in-Ok.field-0.design c.in-Ok.field-0.plan = record { can = c.in-Ok.ensures.can_run; loaded = c.in-Ok.ensures.answers } in
    let sim : IsSimulated (λ pick edge port. g.G.Fn.post c.args.stalls.now.test (
      pick,
      (edge, (port, tt)),
    )) c.in-Ok.field-0.design c.in-Ok.field-0.plan held
    (g.F.Files.held c.simulate.new.files) (Ok c.in-Ok-simulate.outcome) =
    simulated c.in-Ok.ensures.same c.in-Ok-simulate.ensures.tells c.in-Ok-simulate.ensures.exact c.in-Ok-simulate.ensures.cells c.in-Ok-simulate.ensures.too_many in
    λ l small restart vs edges ends. answers_limited c.in-Ok-simulate.outcome edges c.report.result (ends_so l made sim small restart vs _ ends) c.report.ensures.ends

pub returns-in-Ok-simulate-clause-stands : goal.returns-in-Ok-simulate-clause-stands
returns-in-Ok-simulate-clause-stands g c =
    let held : Held = g.F.Files.held c.args.files.now in
    let made : IsMade (run_told c.args.names) held c.in-Ok.field-0.design c.in-Ok.field-0.plan = record { can = c.in-Ok.ensures.can_run; loaded = c.in-Ok.ensures.answers } in
    let sim : IsSimulated (λ pick edge port. g.G.Fn.post c.args.stalls.now.test (
      pick,
      (edge, (port, tt)),
    )) c.in-Ok.field-0.design c.in-Ok.field-0.plan held
    (g.F.Files.held c.simulate.new.files) (Ok c.in-Ok-simulate.outcome) =
    simulated c.in-Ok.ensures.same c.in-Ok-simulate.ensures.tells c.in-Ok-simulate.ensures.exact c.in-Ok-simulate.ensures.cells c.in-Ok-simulate.ensures.too_many in
    λ cause stands. absurd (stands_not made sim c.in-Ok.ensures.faulty cause stands)

pub returns-in-Ok-clause-ends_done : goal.returns-in-Ok-clause-ends_done
returns-in-Ok-clause-ends_done g c =
    let held : Held = g.F.Files.held c.args.files.now in
    let made : IsMade (run_told c.args.names) held c.in-Ok.field-0.design c.in-Ok.field-0.plan = record { can = c.in-Ok.ensures.can_run; loaded = c.in-Ok.ensures.answers } in
    let sim : IsSimulated (λ pick edge port. g.G.Fn.post c.args.stalls.now.test (
      pick,
      (edge, (port, tt)),
    )) c.in-Ok.field-0.design c.in-Ok.field-0.plan held
    (g.F.Files.held c.simulate.new.files) (Err c.in-Err-simulate.stop) =
    simulated c.in-Ok.ensures.same c.in-Err-simulate.ensures.tells c.in-Err-simulate.ensures.exact c.in-Err-simulate.ensures.cells c.in-Err-simulate.ensures.too_many in
    λ l small restart vs edges ends. inr (fails_done edges c.in-Err-simulate.stop c.stopped.result (ends_so l made sim small restart vs _ ends) c.stopped.ensures.ends)

pub returns-in-Ok-clause-ends_limited : goal.returns-in-Ok-clause-ends_limited
returns-in-Ok-clause-ends_limited g c =
    let held : Held = g.F.Files.held c.args.files.now in
    let made : IsMade (run_told c.args.names) held c.in-Ok.field-0.design c.in-Ok.field-0.plan = record { can = c.in-Ok.ensures.can_run; loaded = c.in-Ok.ensures.answers } in
    let sim : IsSimulated (λ pick edge port. g.G.Fn.post c.args.stalls.now.test (
      pick,
      (edge, (port, tt)),
    )) c.in-Ok.field-0.design c.in-Ok.field-0.plan held
    (g.F.Files.held c.simulate.new.files) (Err c.in-Err-simulate.stop) =
    simulated c.in-Ok.ensures.same c.in-Err-simulate.ensures.tells c.in-Err-simulate.ensures.exact c.in-Err-simulate.ensures.cells c.in-Err-simulate.ensures.too_many in
    λ l small restart vs edges ends. inr (fails_limited edges c.in-Err-simulate.stop c.stopped.result (ends_so l made sim small restart vs _ ends) c.stopped.ensures.ends)

pub returns-in-Ok-clause-read_fault : goal.returns-in-Ok-clause-read_fault
returns-in-Ok-clause-read_fault g c =
    let held : Held = g.F.Files.held c.args.files.now in
    let made : IsMade (run_told c.args.names) held c.in-Ok.field-0.design c.in-Ok.field-0.plan = record { can = c.in-Ok.ensures.can_run; loaded = c.in-Ok.ensures.answers } in
    let sim : IsSimulated (λ pick edge port. g.G.Fn.post c.args.stalls.now.test (
      pick,
      (edge, (port, tt)),
    )) c.in-Ok.field-0.design c.in-Ok.field-0.plan held
    (g.F.Files.held c.simulate.new.files) (Err c.in-Err-simulate.stop) =
    simulated c.in-Ok.ensures.same c.in-Err-simulate.ensures.tells c.in-Err-simulate.ensures.exact c.in-Err-simulate.ensures.cells c.in-Err-simulate.ensures.too_many in
    let count = c.in-Ok.ensures.quiet (λ e. cc) in
    read_fault_so c.in-Err-simulate.stop c.stopped.result made sim c.stopped.ensures.ends
    (λ e. fault_told
    (rw (c.in-Ok.ensures.same, count) at c.in-Err-simulate.ensures.read_fault made.can.is.top made.can.is.shape made.can.is.is_top made.can.is.is_run.has (failed_so e))
    (rw (c.in-Ok.ensures.same, count) at c.in-Err-simulate.ensures.read_fault_told (failed_so e)))

pub returns-in-Ok-clause-write_fault_reads : goal.returns-in-Ok-clause-write_fault_reads
returns-in-Ok-clause-write_fault_reads g c = λ fault.
    let before = c.in-Ok.ensures.quiet (λ e. cc) in
    let now = c.in-Err-simulate.ensures.read_quiet (reads_no_other c.in-Err-simulate.stop c.stopped.result c.stopped.ensures.ends (λ e. cc)) in
    now ∙ before

pub returns-in-Ok-clause-quiet : goal.returns-in-Ok-clause-quiet
returns-in-Ok-clause-quiet g c = λ quiet.
    let reads = c.in-Err-simulate.ensures.read_quiet (reads_no_other c.in-Err-simulate.stop c.stopped.result c.stopped.ensures.ends (quiet_reads c.stopped.result quiet)) in
    let writes = c.in-Err-simulate.ensures.write_quiet (writes_no_other c.in-Err-simulate.stop c.stopped.result c.stopped.ensures.ends (quiet_writes c.stopped.result quiet)) in
    (reads ∙ c.in-Ok.ensures.quiet (λ e. cc), writes ∙ c.in-Ok.ensures.write_quiet, c.stopped.ensures.quiet (quiet_writes c.stopped.result quiet))

pub returns-in-Ok-simulate-clause-words_done : goal.returns-in-Ok-simulate-clause-words_done
returns-in-Ok-simulate-clause-words_done g c =
    let held : Held = g.F.Files.held c.args.files.now in
    let made : IsMade (run_told c.args.names) held c.in-Ok.field-0.design c.in-Ok.field-0.plan = record { can = c.in-Ok.ensures.can_run; loaded = c.in-Ok.ensures.answers } in
    let sim : IsSimulated (λ pick edge port. g.G.Fn.post c.args.stalls.now.test (
      pick,
      (edge, (port, tt)),
    )) c.in-Ok.field-0.design c.in-Ok.field-0.plan held
    (g.F.Files.held c.simulate.new.files) (Ok c.in-Ok-simulate.outcome) =
    simulated c.in-Ok.ensures.same c.in-Ok-simulate.ensures.tells c.in-Ok-simulate.ensures.exact c.in-Ok-simulate.ensures.cells c.in-Ok-simulate.ensures.too_many in
    λ ended is. words_so c.in-Ok-simulate.outcome made sim

pub returns-in-Ok-simulate-clause-words_limited : goal.returns-in-Ok-simulate-clause-words_limited
returns-in-Ok-simulate-clause-words_limited g c =
    let held : Held = g.F.Files.held c.args.files.now in
    let made : IsMade (run_told c.args.names) held c.in-Ok.field-0.design c.in-Ok.field-0.plan = record { can = c.in-Ok.ensures.can_run; loaded = c.in-Ok.ensures.answers } in
    let sim : IsSimulated (λ pick edge port. g.G.Fn.post c.args.stalls.now.test (
      pick,
      (edge, (port, tt)),
    )) c.in-Ok.field-0.design c.in-Ok.field-0.plan held
    (g.F.Files.held c.simulate.new.files) (Ok c.in-Ok-simulate.outcome) =
    simulated c.in-Ok.ensures.same c.in-Ok-simulate.ensures.tells c.in-Ok-simulate.ensures.exact c.in-Ok-simulate.ensures.cells c.in-Ok-simulate.ensures.too_many in
    λ ended is. words_so c.in-Ok-simulate.outcome made sim

pub returns-in-Ok-clause-words_done : goal.returns-in-Ok-clause-words_done
returns-in-Ok-clause-words_done g c = λ ended is. absurd (stopped_not_done c.in-Err-simulate.stop c.stopped.result c.stopped.ensures.ends ended)

pub returns-in-Ok-clause-words_limited : goal.returns-in-Ok-clause-words_limited
returns-in-Ok-clause-words_limited g c = λ ended is. absurd (stopped_not_limited c.in-Err-simulate.stop c.stopped.result c.stopped.ensures.ends ended)

pub returns-in-Ok-simulate-clause-missing : goal.returns-in-Ok-simulate-clause-missing
returns-in-Ok-simulate-clause-missing g c = λ file. absurd (⊎_elim (λ e. cc) (λ e. cc) (c.in-Ok.ensures.missing file))

pub returns-in-Ok-simulate-clause-missing_quiet : goal.returns-in-Ok-simulate-clause-missing_quiet
returns-in-Ok-simulate-clause-missing_quiet g c = λ text. absurd (⊎_elim (λ e. cc) (λ e. cc) (c.in-Ok.ensures.missing (inl text)))

pub returns-in-Ok-clause-missing : goal.returns-in-Ok-clause-missing
returns-in-Ok-clause-missing g c = λ file. absurd (⊎_elim (λ e. cc) (λ e. cc) (c.in-Ok.ensures.missing file))

pub returns-in-Ok-clause-missing_quiet : goal.returns-in-Ok-clause-missing_quiet
returns-in-Ok-clause-missing_quiet g c = λ text. absurd (⊎_elim (λ e. cc) (λ e. cc) (c.in-Ok.ensures.missing (inl text)))

pub returns-in-Ok-simulate-clause-missing_input : goal.returns-in-Ok-simulate-clause-missing_input
returns-in-Ok-simulate-clause-missing_input g c =
    let held : Held = g.F.Files.held c.args.files.now in
    let made : IsMade (run_told c.args.names) held c.in-Ok.field-0.design c.in-Ok.field-0.plan = record { can = c.in-Ok.ensures.can_run; loaded = c.in-Ok.ensures.answers } in
    let sim : IsSimulated (λ pick edge port. g.G.Fn.post c.args.stalls.now.test (
      pick,
      (edge, (port, tt)),
    )) c.in-Ok.field-0.design c.in-Ok.field-0.plan held
    (g.F.Files.held c.simulate.new.files) (Ok c.in-Ok-simulate.outcome) =
    simulated c.in-Ok.ensures.same c.in-Ok-simulate.ensures.tells c.in-Ok-simulate.ensures.exact c.in-Ok-simulate.ensures.cells c.in-Ok-simulate.ensures.too_many in
    λ lacks. absurd (lacks_not made sim (λ file. ⊎_elim (λ e. cc) (λ e. cc) (c.in-Ok.ensures.missing file)) lacks)

pub returns-in-Ok-clause-missing_input : goal.returns-in-Ok-clause-missing_input
returns-in-Ok-clause-missing_input g c =
    let held : Held = g.F.Files.held c.args.files.now in
    let made : IsMade (run_told c.args.names) held c.in-Ok.field-0.design c.in-Ok.field-0.plan = record { can = c.in-Ok.ensures.can_run; loaded = c.in-Ok.ensures.answers } in
    let sim : IsSimulated (λ pick edge port. g.G.Fn.post c.args.stalls.now.test (
      pick,
      (edge, (port, tt)),
    )) c.in-Ok.field-0.design c.in-Ok.field-0.plan held
    (g.F.Files.held c.simulate.new.files) (Err c.in-Err-simulate.stop) =
    simulated c.in-Ok.ensures.same c.in-Err-simulate.ensures.tells c.in-Err-simulate.ensures.exact c.in-Err-simulate.ensures.cells c.in-Err-simulate.ensures.too_many in
    lacks_cut_off c.stopped.result made sim c.stopped.ensures.ends (λ file. ⊎_elim (λ e. cc) (λ e. cc) (c.in-Ok.ensures.missing file))

pub returns-in-Ok-simulate-clause-others : goal.returns-in-Ok-simulate-clause-others
returns-in-Ok-simulate-clause-others g c =
    let held : Held = g.F.Files.held c.args.files.now in
    let made : IsMade (run_told c.args.names) held c.in-Ok.field-0.design c.in-Ok.field-0.plan = record { can = c.in-Ok.ensures.can_run; loaded = c.in-Ok.ensures.answers } in
    let sim : IsSimulated (λ pick edge port. g.G.Fn.post c.args.stalls.now.test (
      pick,
      (edge, (port, tt)),
    )) c.in-Ok.field-0.design c.in-Ok.field-0.plan held
    (g.F.Files.held c.simulate.new.files) (Ok c.in-Ok-simulate.outcome) =
    simulated c.in-Ok.ensures.same c.in-Ok-simulate.ensures.tells c.in-Ok-simulate.ensures.exact c.in-Ok-simulate.ensures.cells c.in-Ok-simulate.ensures.too_many in
    others_so made sim (rw c.in-Ok.ensures.same at c.in-Ok-simulate.ensures.others)

pub returns-in-Ok-clause-others : goal.returns-in-Ok-clause-others
returns-in-Ok-clause-others g c =
    let held : Held = g.F.Files.held c.args.files.now in
    let made : IsMade (run_told c.args.names) held c.in-Ok.field-0.design c.in-Ok.field-0.plan = record { can = c.in-Ok.ensures.can_run; loaded = c.in-Ok.ensures.answers } in
    let sim : IsSimulated (λ pick edge port. g.G.Fn.post c.args.stalls.now.test (
      pick,
      (edge, (port, tt)),
    )) c.in-Ok.field-0.design c.in-Ok.field-0.plan held
    (g.F.Files.held c.simulate.new.files) (Err c.in-Err-simulate.stop) =
    simulated c.in-Ok.ensures.same c.in-Err-simulate.ensures.tells c.in-Err-simulate.ensures.exact c.in-Err-simulate.ensures.cells c.in-Err-simulate.ensures.too_many in
    others_so made sim (rw c.in-Ok.ensures.same at c.in-Err-simulate.ensures.others)

pub returns-in-Ok-clause-cut_off : goal.returns-in-Ok-clause-cut_off
returns-in-Ok-clause-cut_off g c =
    let held : Held = g.F.Files.held c.args.files.now in
    let made : IsMade (run_told c.args.names) held c.in-Ok.field-0.design c.in-Ok.field-0.plan = record { can = c.in-Ok.ensures.can_run; loaded = c.in-Ok.ensures.answers } in
    let sim : IsSimulated (λ pick edge port. g.G.Fn.post c.args.stalls.now.test (
      pick,
      (edge, (port, tt)),
    )) c.in-Ok.field-0.design c.in-Ok.field-0.plan held
    (g.F.Files.held c.simulate.new.files) (Err c.in-Err-simulate.stop) =
    simulated c.in-Ok.ensures.same c.in-Err-simulate.ensures.tells c.in-Err-simulate.ensures.exact c.in-Err-simulate.ensures.cells c.in-Err-simulate.ensures.too_many in
    let count = c.in-Ok.ensures.quiet (λ e. cc) in
    cut_off_so c.in-Err-simulate.stop c.stopped.result made sim c.stopped.ensures.ends
    (λ e. fault_told
    (rw (c.in-Ok.ensures.same, count) at c.in-Err-simulate.ensures.read_fault made.can.is.top made.can.is.shape made.can.is.is_top made.can.is.is_run.has (failed_so e))
    (rw (c.in-Ok.ensures.same, count) at c.in-Err-simulate.ensures.read_fault_told (failed_so e)))

pub returns-in-Ok-clause-refused : goal.returns-in-Ok-clause-refused
returns-in-Ok-clause-refused g c =
    let held : Held = g.F.Files.held c.args.files.now in
    let made : IsMade (run_told c.args.names) held c.in-Ok.field-0.design c.in-Ok.field-0.plan = record { can = c.in-Ok.ensures.can_run; loaded = c.in-Ok.ensures.answers } in
    let sim : IsSimulated (λ pick edge port. g.G.Fn.post c.args.stalls.now.test (
      pick,
      (edge, (port, tt)),
    )) c.in-Ok.field-0.design c.in-Ok.field-0.plan held
    (g.F.Files.held c.simulate.new.files) (Err c.in-Err-simulate.stop) =
    simulated c.in-Ok.ensures.same c.in-Err-simulate.ensures.tells c.in-Err-simulate.ensures.exact c.in-Err-simulate.ensures.cells c.in-Err-simulate.ensures.too_many in
    λ refused.
    let stalls : Answers = λ pick edge port. g.G.Fn.post c.args.stalls.now.test (pick, (edge, (port, tt))) in
    let both = both_of (stop_cause c.in-Err-simulate.stop) (λ cause. IsSome held
    → RefusesRun stalls (run_told c.args.names) held
    (g.F.Files.held c.simulate.new.files) cause) (λ cause. g.S.Say.said c.stopped.new.say
    ≡ said_more (g.S.Say.said c.args.say.now) (line_of cause))
    (refused_stands c.in-Err-simulate.stop c.stopped.result made sim c.stopped.ensures.ends refused)
    (c.stopped.ensures.said refused) in
    record { cause = both.0; stands = both.1; said = both.2 }

pub returns-in-Ok-simulate-clause-leaves : goal.returns-in-Ok-simulate-clause-leaves
returns-in-Ok-simulate-clause-leaves g c =
    let held : Held = g.F.Files.held c.args.files.now in
    let made : IsMade (run_told c.args.names) held c.in-Ok.field-0.design c.in-Ok.field-0.plan = record { can = c.in-Ok.ensures.can_run; loaded = c.in-Ok.ensures.answers } in
    let sim : IsSimulated (λ pick edge port. g.G.Fn.post c.args.stalls.now.test (
      pick,
      (edge, (port, tt)),
    )) c.in-Ok.field-0.design c.in-Ok.field-0.plan held
    (g.F.Files.held c.simulate.new.files) (Ok c.in-Ok-simulate.outcome) =
    simulated c.in-Ok.ensures.same c.in-Ok-simulate.ensures.tells c.in-Ok-simulate.ensures.exact c.in-Ok-simulate.ensures.cells c.in-Ok-simulate.ensures.too_many in
    leaves_ended c.in-Ok-simulate.outcome made sim

pub returns-in-Ok-clause-leaves : goal.returns-in-Ok-clause-leaves
returns-in-Ok-clause-leaves g c =
    let held : Held = g.F.Files.held c.args.files.now in
    let made : IsMade (run_told c.args.names) held c.in-Ok.field-0.design c.in-Ok.field-0.plan = record { can = c.in-Ok.ensures.can_run; loaded = c.in-Ok.ensures.answers } in
    let sim : IsSimulated (λ pick edge port. g.G.Fn.post c.args.stalls.now.test (
      pick,
      (edge, (port, tt)),
    )) c.in-Ok.field-0.design c.in-Ok.field-0.plan held
    (g.F.Files.held c.simulate.new.files) (Err c.in-Err-simulate.stop) =
    simulated c.in-Ok.ensures.same c.in-Err-simulate.ensures.tells c.in-Err-simulate.ensures.exact c.in-Err-simulate.ensures.cells c.in-Err-simulate.ensures.too_many in
    leaves_stopped made sim (rw c.in-Ok.ensures.same at c.in-Err-simulate.ensures.leaves)

pub returns-in-Ok-simulate-clause-finishes : goal.returns-in-Ok-simulate-clause-finishes
returns-in-Ok-simulate-clause-finishes g c =
    let held : Held = g.F.Files.held c.args.files.now in
    let made : IsMade (run_told c.args.names) held c.in-Ok.field-0.design c.in-Ok.field-0.plan = record { can = c.in-Ok.ensures.can_run; loaded = c.in-Ok.ensures.answers } in
    let sim : IsSimulated (λ pick edge port. g.G.Fn.post c.args.stalls.now.test (
      pick,
      (edge, (port, tt)),
    )) c.in-Ok.field-0.design c.in-Ok.field-0.plan held
    (g.F.Files.held c.simulate.new.files) (Ok c.in-Ok-simulate.outcome) =
    simulated c.in-Ok.ensures.same c.in-Ok-simulate.ensures.tells c.in-Ok-simulate.ensures.exact c.in-Ok-simulate.ensures.cells c.in-Ok-simulate.ensures.too_many in
    λ told. finishes-ended c.in-Ok-simulate.outcome c.report.result _ _ c.requires.free made sim c.report.ensures.ends c.report.ensures.said

pub returns-in-Ok-clause-finishes : goal.returns-in-Ok-clause-finishes
returns-in-Ok-clause-finishes g c =
    let held : Held = g.F.Files.held c.args.files.now in
    let made : IsMade (run_told c.args.names) held c.in-Ok.field-0.design c.in-Ok.field-0.plan = record { can = c.in-Ok.ensures.can_run; loaded = c.in-Ok.ensures.answers } in
    let sim : IsSimulated (λ pick edge port. g.G.Fn.post c.args.stalls.now.test (
      pick,
      (edge, (port, tt)),
    )) c.in-Ok.field-0.design c.in-Ok.field-0.plan held
    (g.F.Files.held c.simulate.new.files) (Err c.in-Err-simulate.stop) =
    simulated c.in-Ok.ensures.same c.in-Err-simulate.ensures.tells c.in-Err-simulate.ensures.exact c.in-Err-simulate.ensures.cells c.in-Err-simulate.ensures.too_many in
    λ told. finishes-stopped c.in-Err-simulate.stop c.stopped.result _ _ c.requires.free made sim c.stopped.ensures.ends

pub returns-clause-done : goal.returns-clause-done
returns-clause-done g c = λ ended told.
    absurd (not-done c.say_stop.result c.say_stop.ensures.ends ended)

pub returns-clause-limited : goal.returns-clause-limited
returns-clause-limited g c = λ ended told.
    absurd (not-limited c.say_stop.result c.say_stop.ensures.ends ended)

pub returns-clause-words_done : goal.returns-clause-words_done
returns-clause-words_done g c = λ ended told.
    absurd (not-done c.say_stop.result c.say_stop.ensures.ends ended)

pub returns-clause-words_limited : goal.returns-clause-words_limited
returns-clause-words_limited g c = λ ended told.
    absurd (not-limited c.say_stop.result c.say_stop.ensures.ends ended)

pub returns-clause-ends_done : goal.returns-clause-ends_done
returns-clause-ends_done g c = λ l small restart vs edges ends.
    inr (c.say_stop.ensures.never (c.in-Err.ensures.loads l))

pub returns-clause-ends_limited : goal.returns-clause-ends_limited
returns-clause-ends_limited g c = λ l small restart vs edges ends.
    inr (c.say_stop.ensures.never (c.in-Err.ensures.loads l))

pub returns-clause-finishes : goal.returns-clause-finishes
returns-clause-finishes g c = λ told l source table report line compiled given values freely enough.
    inr (c.say_stop.ensures.never (c.in-Err.ensures.loads l))

pub returns-clause-refused : goal.returns-clause-refused
returns-clause-refused g c = λ refused.
    let held : Held = g.F.Files.held c.args.files.now in
    let names = run_told c.args.names in
    let both = said-cause c.in-Err.stop (λ cause. IsSome held → IsFaulty names held cause)
    (λ cause. g.S.Say.said c.say_stop.new.say
    ≡ said_more (g.S.Say.said c.args.say.now) (line_of cause))
    c.in-Err.ensures.answers (c.say_stop.ensures.refused refused) in
    record {
      cause = both.0;
      stands = λ told. RefusesRun.unbegun both.0 (both.1 told) c.in-Err.ensures.same;
      said = both.2;
    }

pub returns-clause-stands : goal.returns-clause-stands
returns-clause-stands g c = λ cause stands.
    refused-or-cut-off c.say_stop.result c.say_stop.ensures.ends

pub returns-clause-read_fault : goal.returns-clause-read_fault
returns-clause-read_fault g c = λ ended.
    ⊎_elim (λ rose. inl rose) (λ lacks. inr (inl lacks))
    (c.in-Err.ensures.fault (ap Err (c.say_stop.ensures.read_fault ended)))

pub returns-clause-cut_off : goal.returns-clause-cut_off
returns-clause-cut_off g c = λ ended told.
    ReadFails.unbegun c.in-Err.ensures.same
    (c.in-Err.ensures.fault (ap Err (c.say_stop.ensures.read_fault ended)))

pub returns-clause-missing : goal.returns-clause-missing
returns-clause-missing g c = λ lacks.
    ⊎_elim (λ e. inl (c.say_stop.ensures.reads (err-same e)))
    (λ e. inr (c.say_stop.ensures.no_memory (err-same e))) (c.in-Err.ensures.missing lacks)

pub returns-clause-missing_input : goal.returns-clause-missing_input
returns-clause-missing_input g c = λ lacks.
    ⊎_elim
    (λ file. ⊎_elim
    (λ e. let read = c.say_stop.ensures.reads (err-same e) in subst IsCutOff (sym read) tt)
    (λ e. let memory = c.say_stop.ensures.no_memory (err-same e) in subst IsCutOff (sym memory) tt)
    (c.in-Err.ensures.missing file))
    (λ run. c.say_stop.ensures.never (c.in-Err.ensures.loads run.0)) lacks

pub returns-clause-write_fault : goal.returns-clause-write_fault
returns-clause-write_fault g c = λ ended.
    inr (c.say_stop.ensures.fault ended, c.in-Err.ensures.write_quiet)

pub returns-clause-write_fault_reads : goal.returns-clause-write_fault_reads
returns-clause-write_fault_reads g c = λ ended.
    c.in-Err.ensures.quiet (λ e. let read = c.say_stop.ensures.reads (err-same e) in cc)

pub returns-clause-read_fault_writes : goal.returns-clause-read_fault_writes
returns-clause-read_fault_writes g c = λ ended.
    (c.in-Err.ensures.write_quiet, c.say_stop.ensures.quiet (λ e. cc))

pub returns-clause-quiet : goal.returns-clause-quiet
returns-clause-quiet g c = λ quiet. (
  c.in-Err.ensures.quiet (λ e.
      quiet_reads c.say_stop.result quiet (c.say_stop.ensures.reads (err-same e))),
  c.in-Err.ensures.write_quiet,
  c.say_stop.ensures.quiet (quiet_writes c.say_stop.result quiet),
)

pub returns-clause-others : goal.returns-clause-others
returns-clause-others g c = λ told. inl c.in-Err.ensures.same

pub returns-clause-leaves : goal.returns-clause-leaves
returns-clause-leaves g c = λ told. inl c.in-Err.ensures.same
