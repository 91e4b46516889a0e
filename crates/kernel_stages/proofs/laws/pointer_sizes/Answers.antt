use Rattle.std.proofs.Common.{arith}
use Rattle.std.specs.Int.Count.{leading_of_zero}
use Rattle.rtl_delays.proofs.Pointers.{pointer_is}
use Rattle.kernel_stages.proofs.laws.pointer_sizes.Goals as goal

pub returns : goal.returns
returns c = record {
  one = let z = leading_of_zero 32 in omega (arith, z);
  fewest = λ words some most. pointer_is words some most;
}
