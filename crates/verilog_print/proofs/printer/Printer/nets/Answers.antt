use Rattle.std.proofs.Common.{arith}
use Rattle.std.proofs.lemmas.Grind.{common_steps}
use Rattle.verilog_print.proofs.Steps.{net_printed}
use Rattle.verilog_print.proofs.printer.Printer.nets.Goals as goal

pub loop-number-preserved : goal.loop-number-preserved
loop-number-preserved c = (
  net_printed c.args.ports.now c.args.nets.now c.in_ok-joined.joined.items c.loop-number.number
      c.index.result.now c.index-nets-number.result c.args.self.now.text c.loop-number.self.text
      c.declaration.new.self.text
      c.loop-number-test.true c.in_ok-joined.ensures.length c.in_ok-joined.ensures.marked c.index.ensures c.index-nets-number.is c.loop-number.invariant.0 c.in_ok-declaration.ensures.ok,
  grind (arith, common_steps),
)
