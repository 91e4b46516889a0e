use Rattle.std.proofs.Common.{inl, inr, ⊎_elim}
use Rattle.mx_base.specs.Files.{Held}
use Rattle.maxjc_core.specs.CompileCauses.{file_limit, IsTooLarge}
use Rattle.maxjc_core.proofs.Reading.{within, read_stops, missing_stops}
use Rattle.maxjc_core.proofs.project.read_project.Goals as goal

pub returns-in-Ok-read_file-clause-read : goal.returns-in-Ok-read_file-clause-read
returns-in-Ok-read_file-clause-read g c = λ told.
    let held : Held = g.F.Files.held c.args.files.now in
    let same = c.in-Ok.ensures.same in
    record {
      source_is = within held c.args.source_name.now _ told (λ l. let e = c.in-Ok.ensures.lacking l in cc) c.in-Ok.ensures.whole c.in-Ok.ensures.fits;
      table_is = within held c.args.table_name.now _ told (λ l. let e = c.in-Ok-read_file.ensures.lacking (rw same l) in cc)
          (λ file holds. c.in-Ok-read_file.ensures.whole file (rw same holds)) c.in-Ok-read_file.ensures.fits;
    }

pub returns-in-Err-read_file-clause-refused : goal.returns-in-Err-read_file-clause-refused
returns-in-Err-read_file-clause-refused g c =
    let source = c.args.source_name.now in
    let table = c.args.table_name.now in
    let held : Held = g.F.Files.held c.args.files.now in
    let same = c.in-Ok.ensures.same in
    read_stops file_limit held table c.in-Err-read_file.stop (IsTooLarge source table held) c.in-Err-read_file.ensures.refused
    (λ file holds. c.in-Err-read_file.ensures.too_large file (rw same holds))
    (λ l. let e = c.in-Err-read_file.ensures.lacking (rw same l) in cc)
    (λ told past. IsTooLarge.table (record {
      source = c.in-Ok.source.items;
      source_is = within held source _ told (λ l. let e = c.in-Ok.ensures.lacking l in cc) c.in-Ok.ensures.whole c.in-Ok.ensures.fits;
      then_table = past;
    }))

pub returns-in-Err-clause-missing : goal.returns-in-Err-clause-missing
returns-in-Err-clause-missing g c missing =
    ⊎_elim (λ e. inl cc) (λ e. inr cc)
    (missing_stops c.args.source_name.now c.args.table_name.now (g.F.Files.held c.args.files.now) c.in-Err.stop c.in-Err.ensures.too_large (λ l. let e = c.in-Err.ensures.lacking l in cc) missing)

pub returns-in-Err-clause-refused : goal.returns-in-Err-clause-refused
returns-in-Err-clause-refused g c =
    let source = c.args.source_name.now in
    let table = c.args.table_name.now in
    let held : Held = g.F.Files.held c.args.files.now in
    read_stops file_limit held source c.in-Err.stop (IsTooLarge source table held) c.in-Err.ensures.refused c.in-Err.ensures.too_large
    (λ l. let e = c.in-Err.ensures.lacking l in cc)
    (λ told past. IsTooLarge.source past)
