use Rattle.std.proofs.Common.{arith}
use Rattle.std.proofs.lemmas.Grind.{common_steps}
use Rattle.verilog_print.proofs.Steps.{digits_large}
use Rattle.verilog_print.proofs.printer.Printer.+digits.Goals as goal

pub returns-clause-ok : goal.returns-clause-ok
returns-clause-ok t c = let e = digits_large c.args.base c.args.number c.requires.some c.if-number-base.false in grind (arith, common_steps, e)
