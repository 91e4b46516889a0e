use Rattle.std.proofs.Common.{inl, inr, ⊎_elim}
use Rattle.std.specs.Prelude.{IsSome}
use Rattle.mx_base.specs.Files.{Held}
use Rattle.maxjc_core.specs.CompileCauses.{file_limit}
use Rattle.maxjc_core.specs.CheckCauses.{IsInputTooLarge}
use Rattle.maxjc_core.specs.ExpectCauses.{IsFileTooLarge}
use Rattle.maxjc_core.specs.NamedCommand.{expect_told}
use Rattle.maxjc_core.proofs.Checking.{checkable}
use Rattle.maxjc_core.proofs.ExpectMissing.{missing-run-inputs, run-fault}
use Rattle.maxjc_core.proofs.Reading.{within, read_stops}
use Rattle.maxjc_core.proofs.Refusing.{refused-so}
use Rattle.maxjc_core.proofs.expect.read_run_inputs.Goals as goal

pub returns-in-Err-clause-missing : goal.returns-in-Err-clause-missing
returns-in-Err-clause-missing g c missing =
    ⊎_elim (λ e. inl cc) (λ e. inr cc)
    (missing-run-inputs (expect_told c.args.names) (g.F.Files.held c.args.files.now) c.in-Err.stop
    (λ m. ⊎_elim (λ e. inl cc) (λ e. inr cc) (c.in-Err.ensures.missing m))
    c.in-Err.ensures.refused missing)

pub returns-in-Err-clause-fault : goal.returns-in-Err-clause-fault
returns-in-Err-clause-fault g c fault =
    ⊎_elim (λ rose. inl rose) (λ lacks. inr (inl lacks)) (c.in-Err.ensures.fault (let stop = fault in cc))

pub returns-in-Err-clause-refused : goal.returns-in-Err-clause-refused
returns-in-Err-clause-refused g c =
    let names = expect_told c.args.names in
    let held : Held = g.F.Files.held c.args.files.now in
    refused-so c.in-Err.stop (λ cause. IsSome held → IsInputTooLarge names.check held cause)
    (λ cause. IsSome held → IsFileTooLarge names held cause)
    (λ cause is told. IsFileTooLarge.input cause (is told)) c.in-Err.ensures.refused

pub returns-in-Ok-read_file-clause-read : goal.returns-in-Ok-read_file-clause-read
returns-in-Ok-read_file-clause-read g c = λ told.
    let held : Held = g.F.Files.held c.args.files.now in
    let same = c.in-Ok.ensures.same in
    record {
      check = c.in-Ok.ensures.read told;
      run_is = within held c.args.names.run.now _ told (λ l. let e = c.in-Ok-read_file.ensures.lacking (rw same l) in cc)
          (λ file holds. c.in-Ok-read_file.ensures.whole file (rw same holds)) c.in-Ok-read_file.ensures.fits;
    }

pub returns-in-Err-read_file-clause-refused : goal.returns-in-Err-read_file-clause-refused
returns-in-Err-read_file-clause-refused g c =
    let names = expect_told c.args.names in
    let held : Held = g.F.Files.held c.args.files.now in
    let same = c.in-Ok.ensures.same in
    read_stops file_limit held names.run c.in-Err-read_file.stop (IsFileTooLarge names held) c.in-Err-read_file.ensures.refused
    (λ file holds. c.in-Err-read_file.ensures.too_large file (rw same holds))
    (λ l. let e = c.in-Err-read_file.ensures.lacking (rw same l) in cc)
    (λ told past. IsFileTooLarge.run (record {
      check = checkable names.check held _ _ _ (c.in-Ok.ensures.read told);
      then_run = past;
    }))

pub returns-in-Err-read_file-clause-fault : goal.returns-in-Err-read_file-clause-fault
returns-in-Err-read_file-clause-fault g c fault =
    let names = expect_told c.args.names in
    let held : Held = g.F.Files.held c.args.files.now in
    let same = c.in-Ok.ensures.same in
    run-fault names held (c.in-Ok.ensures.read)
    (⊎_elim (λ rose. inl (rw (c.in-Ok.ensures.quiet (λ e. cc)) at rose)) (λ l. inr (rw same at l))
    (c.in-Err-read_file.ensures.fault (let stop = fault in cc)))
