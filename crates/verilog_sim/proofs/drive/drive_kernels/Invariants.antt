use Rattle.std.proofs.Common.{◌≡◌, take}
use Rattle.verilog_sim.specs.Gifts.{kernel_gifts, written}
use Rattle.verilog_sim.proofs.drive.drive_kernels.Given as goal

abbrev pub invariant-loop-k : goal.invariant-loop-k
invariant-loop-k l = l.values ≡ written l.fn.values (kernel_gifts l.stimulus.steady.now l.stimulus.holds.now 0 (take l.k l.kernels))
