use Rattle.std.proofs.lemmas.Result.{IfOk-weaker, IfErr-weaker}
use Rattle.std.specs.Prelude.{IsSome}
use Rattle.mx_base.specs.Files.{Held}
use Rattle.maxjc_core.specs.CheckCauses.{IsOfCheck, IsInputTooLarge, CheckStands}
use Rattle.maxjc_core.specs.Checking.{Checks, IsChecked}
use Rattle.maxjc_core.specs.NamedCommand.{check_told}
use Rattle.maxjc_core.specs.CompileStops.{IfRefused}
use Rattle.maxjc_core.proofs.Checking.{checked-of, stands-of}
use Rattle.maxjc_core.proofs.Refusing.{refused-so}
use Rattle.maxjc_core.proofs.check.check.Goals as goal

pub returns-in-Ok-clause-checked : goal.returns-in-Ok-clause-checked
returns-in-Ok-clause-checked g c =
    let held : Held = g.F.Files.held c.args.files.now in
    let names = check_told c.args.names in
    let source = c.in-Ok.inputs.project.source.items in
    let table = c.in-Ok.inputs.project.table.items in
    let report = c.in-Ok.inputs.report.items in
    IfOk-weaker c.check_bytes.result (λ line. Checks source table report line.items)
    (λ line. IsSome held → IsChecked names held line.items)
    (λ line checks. checked-of names held source table report line.items c.in-Ok.ensures.read checks)
    (rw (c.as_slice.ensures.value, c.as_slice-in-Ok.ensures.value, c.as_slice-in-Ok-2.ensures.value) at c.check_bytes.ensures.checked)

pub returns-in-Ok-clause-refused : goal.returns-in-Ok-clause-refused
returns-in-Ok-clause-refused g c =
    let held : Held = g.F.Files.held c.args.files.now in
    let names = check_told c.args.names in
    let source = c.in-Ok.inputs.project.source.items in
    let table = c.in-Ok.inputs.project.table.items in
    let report = c.in-Ok.inputs.report.items in
    IfErr-weaker c.check_bytes.result (λ stop. IfRefused stop (IsOfCheck source table report))
    (λ stop. IfRefused stop (λ cause. IsSome held → CheckStands names held cause))
    (λ stop h. stands-of names held source table report stop c.in-Ok.ensures.read h)
    (rw (c.as_slice.ensures.value, c.as_slice-in-Ok.ensures.value, c.as_slice-in-Ok-2.ensures.value) at c.check_bytes.ensures.refused)

pub returns-in-Err-clause-refused : goal.returns-in-Err-clause-refused
returns-in-Err-clause-refused g c =
    let held : Held = g.F.Files.held c.args.files.now in
    let names = check_told c.args.names in
    refused-so c.in-Err.stop (λ cause. IsSome held → IsInputTooLarge names held cause)
    (λ cause. IsSome held → CheckStands names held cause)
    (λ cause is told. CheckStands.too_large cause (is told)) c.in-Err.ensures.refused
