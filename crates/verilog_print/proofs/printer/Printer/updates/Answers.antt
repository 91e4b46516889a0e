use Rattle.std.proofs.Common.{◌≡◌, arith, length}
use Rattle.std.proofs.lemmas.Grind.{common_steps}
use Rattle.verilog_print.proofs.Steps.{updates_none}
use Rattle.verilog_print.proofs.printer.Printer.updates.Goals as goal

pub returns-then-is_empty-clause-ok : goal.returns-then-is_empty-clause-ok
returns-then-is_empty-clause-ok c =
    let z : length c.args.module.now.updates ≡ 0 = grind (arith, common_steps) in
    let e = updates_none c.args.module.now c.args.module.now.updates z in
    grind (arith, common_steps, e)
