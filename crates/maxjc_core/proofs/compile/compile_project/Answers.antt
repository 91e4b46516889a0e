-- The project's text and the report on its kernels, and why it has none.
use Rattle.std.proofs.Common.{subst}
use Rattle.std.specs.Prelude.{All}
use Rattle.kernel_report.specs.Judging.{ShownAreLeast}
use Rattle.maxjc_core.specs.ErrorCauses.{cause_told}
use Rattle.maxjc_core.proofs.Compiling.{printable, compiles_of}
use Rattle.maxjc_core.proofs.Judging.{of-netlists}
use Rattle.maxjc_core.proofs.compile.compile_project.Goals as goal

pub with_report-requires : goal.with_report-requires
with_report-requires c =
    printable c.args.latencies.now c.args.project.now c.in-Ok.made c.in-Ok.ensures.made

pub netlists_refusal-requires : goal.netlists_refusal-requires
netlists_refusal-requires c = c.in-Err.ensures.of

pub returns-in_ok-with_report-in-Ok-clause-made : goal.returns-in_ok-with_report-in-Ok-clause-made
returns-in_ok-with_report-in-Ok-clause-made c source table is =
    let latencies = c.args.latencies.now in
    let done = c.in_ok-with_report-in-Ok.ensures in
    compiles_of source table c.args.project.now latencies c.in-Ok.made c.in_ok-with_report-in-Ok.field-0
    is c.in-Ok.ensures.made
    (subst (All (ShownAreLeast latencies)) c.kernels.ensures c.all_shown_are_least.ensures)
    done.text done.report done.summary

pub returns-in_ok-netlists_refusal-in-Err-clause-refused : goal.returns-in_ok-netlists_refusal-in-Err-clause-refused
returns-in_ok-netlists_refusal-in-Err-clause-refused c source table is =
    of-netlists source table c.args.project.now c.args.latencies.now
    (cause_told c.in_ok-netlists_refusal-in-Err.field-0) c.in-Err.error is c.in-Err.ensures.refused
    c.in_ok-netlists_refusal-in-Err.ensures
