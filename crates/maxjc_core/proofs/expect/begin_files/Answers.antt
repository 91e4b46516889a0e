use Rattle.std.proofs.lemmas.Result.{IfOk-weaker, IfErr-weaker}
use Rattle.std.specs.Prelude.{IsSome}
use Rattle.mx_base.specs.Files.{Held}
use Rattle.maxjc_core.specs.ExpectCauses.{IsOfExpect, IsFileTooLarge, ExpectStands}
use Rattle.maxjc_core.specs.ExpectStops.{BeginsAs, BeginsIn, FitsPorts, IsReady}
use Rattle.maxjc_core.specs.NamedCommand.{expect_told}
use Rattle.maxjc_core.specs.CompileStops.{IfRefused}
use Rattle.maxjc_core.proofs.Expecting.{begins-of, expect-stands-of}
use Rattle.maxjc_core.proofs.Linking.{both-ok}
use Rattle.maxjc_core.proofs.Refusing.{refused-so}
use Rattle.maxjc_core.proofs.expect.begin_files.Goals as goal

pub returns-in-Err-clause-refused : goal.returns-in-Err-clause-refused
returns-in-Err-clause-refused g c =
    let names = expect_told c.args.names in
    let held : Held = g.F.Files.held c.args.files.now in
    refused-so c.in-Err.stop (λ cause. IsSome held → IsFileTooLarge names held cause)
    (λ cause. IsSome held → ExpectStands names held cause)
    (λ cause is told. ExpectStands.too_large cause (is told)) c.in-Err.ensures.refused

pub returns-in-Ok-clause-ready : goal.returns-in-Ok-clause-ready
returns-in-Ok-clause-ready g c =
    let source = c.in-Ok.read.inputs.project.source.items in
    let table = c.in-Ok.read.inputs.project.table.items in
    let report = c.in-Ok.read.inputs.report.items in
    let run = c.in-Ok.read.run.items in
    both-ok c.begin.result (BeginsAs source table report run)
    (λ begun. FitsPorts begun.linked.project begun.plan) IsReady
    (λ begun begins fits. record {
      source = source;
      table = table;
      bytes = report;
      run = run;
      begins = begins;
      fits = fits;
    })
    (rw (c.as_slice.ensures.value, c.as_slice-in-Ok.ensures.value, c.as_slice-in-Ok-2.ensures.value, c.as_slice-in-Ok-3.ensures.value) at c.begin.ensures.begins)
    c.begin.ensures.fits

pub returns-in-Ok-clause-begins : goal.returns-in-Ok-clause-begins
returns-in-Ok-clause-begins g c =
    let names = expect_told c.args.names in
    let held : Held = g.F.Files.held c.args.files.now in
    let source = c.in-Ok.read.inputs.project.source.items in
    let table = c.in-Ok.read.inputs.project.table.items in
    let report = c.in-Ok.read.inputs.report.items in
    let run = c.in-Ok.read.run.items in
    IfOk-weaker c.begin.result (BeginsAs source table report run)
    (λ begun. IsSome held → BeginsIn names held begun)
    (λ begun begins. begins-of names held source table report run begun c.in-Ok.ensures.read begins)
    (rw (c.as_slice.ensures.value, c.as_slice-in-Ok.ensures.value, c.as_slice-in-Ok-2.ensures.value, c.as_slice-in-Ok-3.ensures.value) at c.begin.ensures.begins)

pub returns-in-Ok-clause-refused : goal.returns-in-Ok-clause-refused
returns-in-Ok-clause-refused g c =
    let names = expect_told c.args.names in
    let held : Held = g.F.Files.held c.args.files.now in
    let source = c.in-Ok.read.inputs.project.source.items in
    let table = c.in-Ok.read.inputs.project.table.items in
    let report = c.in-Ok.read.inputs.report.items in
    let run = c.in-Ok.read.run.items in
    IfErr-weaker c.begin.result (λ stop. IfRefused stop (IsOfExpect source table report run))
    (λ stop. IfRefused stop (λ cause. IsSome held → ExpectStands names held cause))
    (λ stop refused. expect-stands-of names held source table report run stop c.in-Ok.ensures.read refused)
    (rw (c.as_slice.ensures.value, c.as_slice-in-Ok.ensures.value, c.as_slice-in-Ok-2.ensures.value, c.as_slice-in-Ok-3.ensures.value) at c.begin.ensures.refused)
