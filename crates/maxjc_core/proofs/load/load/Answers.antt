use Rattle.std.proofs.Common.{inl, inr, ⊎_elim}
use Rattle.mx_base.specs.Files.{Held}
use Rattle.maxjc_core.specs.CompileCauses.{file_limit}
use Rattle.maxjc_core.specs.Loading.{text_limit}
use Rattle.maxjc_core.specs.NamedCommand.{run_told}
use Rattle.maxjc_core.specs.SimulateCauses.{IsFaulty}
use Rattle.maxjc_core.proofs.Reading.{within, read_stops}
use Rattle.maxjc_core.proofs.RunLoading.{missing_stops, within_read, load_answers, faulty_loads_not, loaded_refused_not}
use Rattle.maxjc_core.proofs.load.load.Goals as goal

pub returns-in-Err-clause-missing : goal.returns-in-Err-clause-missing
returns-in-Err-clause-missing g c missing =
    ⊎_elim (λ e. inl cc) (λ e. inr cc)
    (missing_stops (run_told c.args.names) (g.F.Files.held c.args.files.now) c.in-Err.stop c.in-Err.ensures.too_large (λ l. let e = c.in-Err.ensures.lacking l in cc) missing)

pub returns-in-Err-clause-answers : goal.returns-in-Err-clause-answers
returns-in-Err-clause-answers g c =
    let names = run_told c.args.names in
    let held : Held = g.F.Files.held c.args.files.now in
    read_stops text_limit held names.text c.in-Err.stop (IsFaulty names held) c.in-Err.ensures.refused c.in-Err.ensures.too_large
    (λ l. let e = c.in-Err.ensures.lacking l in cc)
    (λ told past. IsFaulty.text_too_large past)

pub returns-in-Err-clause-loads : goal.returns-in-Err-clause-loads
returns-in-Err-clause-loads g c = λ loaded.
    within_read text_limit (g.F.Files.held c.args.files.now) c.args.names.text.now loaded.files.text c.in-Err.stop loaded.files.text_is c.in-Err.ensures.too_large

pub returns-in-Ok-read_file-clause-answers : goal.returns-in-Ok-read_file-clause-answers
returns-in-Ok-read_file-clause-answers g c =
    let names = run_told c.args.names in
    let held : Held = g.F.Files.held c.args.files.now in
    let same = c.in-Ok.ensures.same in
    load_answers names held c.in-Ok.text.items c.in-Ok-read_file.run'.items c.build.result
    (λ told. record {
      text_is = within held names.text _ told (λ l. let e = c.in-Ok.ensures.lacking l in cc) c.in-Ok.ensures.whole c.in-Ok.ensures.fits;
      run_is = within held names.run _ told (λ l. let e = c.in-Ok-read_file.ensures.lacking
          (rw same l) in cc) (λ file h. c.in-Ok-read_file.ensures.whole file
          (rw same h)) c.in-Ok-read_file.ensures.fits;
    })
    (rw (c.as_slice.ensures.value, c.as_slice-in-Ok-read_file.ensures.value) at c.build.ensures.fit)
    (rw (c.as_slice.ensures.value, c.as_slice-in-Ok-read_file.ensures.value) at c.build.ensures.refused)

pub returns-in-Ok-read_file-clause-faulty : goal.returns-in-Ok-read_file-clause-faulty
returns-in-Ok-read_file-clause-faulty g c =
    let names = run_told c.args.names in
    let held : Held = g.F.Files.held c.args.files.now in
    let same = c.in-Ok.ensures.same in
    faulty_loads_not names held c.in-Ok.text.items c.in-Ok-read_file.run'.items c.build.result
    (λ told. record {
      text_is = within held names.text _ told (λ l. let e = c.in-Ok.ensures.lacking l in cc) c.in-Ok.ensures.whole c.in-Ok.ensures.fits;
      run_is = within held names.run _ told (λ l. let e = c.in-Ok-read_file.ensures.lacking
          (rw same l) in cc) (λ file h. c.in-Ok-read_file.ensures.whole file
          (rw same h)) c.in-Ok-read_file.ensures.fits;
    })
    (rw (c.as_slice.ensures.value, c.as_slice-in-Ok-read_file.ensures.value) at c.build.ensures.faulty)

pub returns-in-Ok-read_file-clause-loads : goal.returns-in-Ok-read_file-clause-loads
returns-in-Ok-read_file-clause-loads g c =
    let names = run_told c.args.names in
    let held : Held = g.F.Files.held c.args.files.now in
    let same = c.in-Ok.ensures.same in
    loaded_refused_not names held c.in-Ok.text.items c.in-Ok-read_file.run'.items c.build.result
    (λ told. record {
      text_is = within held names.text _ told (λ l. let e = c.in-Ok.ensures.lacking l in cc) c.in-Ok.ensures.whole c.in-Ok.ensures.fits;
      run_is = within held names.run _ told (λ l. let e = c.in-Ok-read_file.ensures.lacking
          (rw same l) in cc) (λ file h. c.in-Ok-read_file.ensures.whole file
          (rw same h)) c.in-Ok-read_file.ensures.fits;
    })
    (rw (c.as_slice.ensures.value, c.as_slice-in-Ok-read_file.ensures.value) at c.build.ensures.loads)

pub returns-clause-answers : goal.returns-clause-answers
returns-clause-answers g c =
    let names = run_told c.args.names in
    let held : Held = g.F.Files.held c.args.files.now in
    let same = c.in-Ok.ensures.same in
    read_stops file_limit held names.run c.in-Err-read_file.stop (IsFaulty names held) c.in-Err-read_file.ensures.refused
    (λ file h. c.in-Err-read_file.ensures.too_large file (rw same h))
    (λ l. let e = c.in-Err-read_file.ensures.lacking (rw same l) in cc)
    (λ told past. IsFaulty.run_too_large (record {
      text = c.in-Ok.text.items;
      text_is = within held names.text _ told (λ l. let e = c.in-Ok.ensures.lacking l in cc) c.in-Ok.ensures.whole c.in-Ok.ensures.fits;
      then_run = past;
    }))

pub returns-clause-loads : goal.returns-clause-loads
returns-clause-loads g c = λ loaded.
    let same = c.in-Ok.ensures.same in
    within_read file_limit (g.F.Files.held c.args.files.now) c.args.names.run.now loaded.files.run c.in-Err-read_file.stop loaded.files.run_is
    (λ file h. c.in-Err-read_file.ensures.too_large file (rw same h))
