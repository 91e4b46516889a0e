use Rattle.std.proofs.Common.{arith}
use Rattle.std.proofs.lemmas.Grind.{common_steps}
use Rattle.verilog_print.specs.Printed.{modules_text}
use Rattle.verilog_print.proofs.Moves.{moved_design}
use Rattle.verilog_print.proofs.Whole.{text_of, reads_as, reads_moved, moved, appends_lines, moved_accepted}
use Rattle.verilog_print.proofs.print.Goals as goal

pub returns-in-Ok-clause-ok : goal.returns-in-Ok-clause-ok
returns-in-Ok-clause-ok c =
    record { text = modules_text c.args.design.now.modules; appended = grind (arith, common_steps, c.in-Ok.ensures.ok); of = text_of c.args.design.now c.requires.formed }

pub returns-in-Ok-clause-reads_back : goal.returns-in-Ok-clause-reads_back
returns-in-Ok-clause-reads_back c = λ accepted first. record {
  text = modules_text c.args.design.now.modules;
  appended = grind (arith, common_steps, c.in-Ok.ensures.ok);
  reads = reads_as c.args.design.now accepted first;
}

pub returns-in-Ok-clause-reads_renumbered : goal.returns-in-Ok-clause-reads_renumbered
returns-in-Ok-clause-reads_renumbered c = λ accepted. record {
  text = modules_text c.args.design.now.modules;
  appended = grind (arith, common_steps, c.in-Ok.ensures.ok);
  read = moved_design c.args.design.now;
  reads = reads_moved c.args.design.now accepted;
  accepted = moved_accepted c.args.design.now accepted;
  same = moved c.args.design.now accepted;
}

pub returns-in-Ok-clause-lines : goal.returns-in-Ok-clause-lines
returns-in-Ok-clause-lines c = appends_lines _ _ c.args.design.now c.requires.formed (grind (arith, common_steps, c.in-Ok.ensures.ok))
