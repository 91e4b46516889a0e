use Rattle.std.proofs.Common.{◌≡◌, take}
use Rattle.verilog_sim.specs.Gifts.{scalar_gifts, written}
use Rattle.verilog_sim.proofs.drive.drive_scalars.Given as goal

abbrev pub invariant-loop-k : goal.invariant-loop-k
invariant-loop-k l = l.values ≡ written l.fn.values (scalar_gifts l.stimulus.steady.now l.kernels (take l.k l.scalars))
