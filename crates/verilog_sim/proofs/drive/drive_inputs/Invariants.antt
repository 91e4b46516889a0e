use Rattle.std.proofs.Common.{◌≡◌, take}
use Rattle.verilog_sim.specs.Gifts.{input_gifts, written}
use Rattle.verilog_sim.proofs.drive.drive_inputs.Given as goal

abbrev pub invariant-loop-k : goal.invariant-loop-k
invariant-loop-k l = l.values ≡ written l.fn.values (input_gifts l.stimulus.offers.now 0 (take l.k l.inputs))
