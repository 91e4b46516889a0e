use Rattle.std.proofs.Common.{◌≡◌, take}
use Rattle.verilog_sim.specs.Gifts.{output_gifts, written}
use Rattle.verilog_sim.proofs.drive.drive_outputs.Given as goal

abbrev pub invariant-loop-k : goal.invariant-loop-k
invariant-loop-k l = l.values ≡ written l.fn.values (output_gifts l.stimulus.accepts.now 0 (take l.k l.outputs))
