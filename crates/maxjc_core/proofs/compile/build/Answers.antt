use Rattle.maxjc_core.proofs.Building.{names_plain}
use Rattle.maxjc_core.proofs.Judging.{of-files}
use Rattle.maxjc_core.proofs.compile.build.Goals as goal

pub compile_project-requires : goal.compile_project-requires
compile_project-requires c = record {
  names = names_plain c.args.source.now c.args.table.now c.in-Ok.made.project c.in-Ok.made.latencies
      c.in-Ok.ensures.made;
}

pub returns-in-Ok-clause-made : goal.returns-in-Ok-clause-made
returns-in-Ok-clause-made c = c.compile_project.ensures.made c.args.source.now c.args.table.now c.in-Ok.ensures.made

pub returns-in-Ok-clause-refused : goal.returns-in-Ok-clause-refused
returns-in-Ok-clause-refused c = c.compile_project.ensures.refused c.args.source.now c.args.table.now c.in-Ok.ensures.made

pub returns-in-Err-clause-refused : goal.returns-in-Err-clause-refused
returns-in-Err-clause-refused c = of-files c.args.source.now c.args.table.now c.in-Err.stop c.in-Err.ensures.refused
