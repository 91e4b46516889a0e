-- The latencies of the table, and then the project that the source builds.
use Rattle.maxjc_core.proofs.Judging.{of-table, of-build}
use Rattle.maxjc_core.proofs.project.make.Goals as goal

pub returns-in-Err-clause-refused : goal.returns-in-Err-clause-refused
returns-in-Err-clause-refused c source is =
    of-table source c.args.table.now c.table_stop.result c.in-Err.error is.classes is.source
    c.in-Err.ensures c.table_stop.ensures.cause

pub returns-in-Ok-build_project-clause-made : goal.returns-in-Ok-build_project-clause-made
returns-in-Ok-build_project-clause-made c source is = record {
  classes = is.classes;
  is = is.source;
  reads = c.in-Ok.ensures;
  built = c.in-Ok-build_project.ensures.ok is.classes is.program;
}

pub returns-in-Err-build_project-clause-refused : goal.returns-in-Err-build_project-clause-refused
returns-in-Err-build_project-clause-refused c source is =
    of-build source c.args.table.now c.project_stop.result c.in-Err-build_project.error is.classes
    c.in-Ok.latencies is.source c.in-Ok.ensures
    (c.in-Err-build_project.ensures.err is.classes is.program) c.project_stop.ensures.cause
