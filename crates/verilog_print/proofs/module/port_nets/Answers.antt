use Rattle.std.proofs.Common.{arith}
use Rattle.std.proofs.lemmas.Grind.{common_steps}
use Rattle.verilog_print.proofs.Marks.{marked, unmarked}
use Rattle.verilog_print.proofs.module.port_nets.Goals as goal
use Rattle.verilog_print.proofs.module.port_nets.Goals.{then-number-len, else-number-len}

pub loop-port-preserved : goal.loop-port-preserved
loop-port-preserved c =
    elim c.if-number-len.branch [
      | then-number-len w ↦ (
        grind (arith, common_steps),
        λ n h. rw w.joined-is
            (rw c.index-number.ensures.number (rw c.port-item.is
            (marked c.loop-port.joined.items c.args.ports.now c.loop-port.port-index n
            c.port-item.result c.loop-port-test.true (grind (
              arith,
              common_steps,
            )) (c.loop-port.invariant.1 n h)))),
      )
      | else-number-len w ↦ (
        grind (arith, common_steps),
        λ n h. rw w.joined-is
            (unmarked c.loop-port.joined.items c.args.ports.now c.loop-port.port-index n
            c.port-item.result c.loop-port-test.true (grind (
              arith,
              common_steps,
            )) (grind (arith, common_steps)) (c.loop-port.invariant.1 n h)),
      )
    ]
