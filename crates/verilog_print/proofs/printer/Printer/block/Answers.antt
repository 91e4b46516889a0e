use Rattle.std.specs.Prelude.{codes}
use Rattle.verilog_print.specs.Printed.{update_text}
use Rattle.verilog_print.proofs.Steps.{lines_printed}
use Rattle.verilog_print.proofs.printer.Printer.block.Goals as goal

pub returns-clause-ok : goal.returns-clause-ok
returns-clause-ok c =
    lines_printed (update_text c.args.module.now) c.args.updates.now c.loop-update.update-index
    (codes "always @(posedge clk) begin\n")
    (codes "end\n") c.args.self.now.text c.bytes.new.self.text c.loop-update.self.text
    c.bytes-2.new.self.text
    c.loop-update-test.false c.in_ok-bytes.ensures.ok c.loop-update.invariant.0 c.in_ok-bytes-2.ensures.ok
