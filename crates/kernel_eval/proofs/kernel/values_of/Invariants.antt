-- The arguments so far have their values.
use Rattle.std.specs.Prelude.{◌≡◌, map, take}
use Rattle.kernel_meaning.specs.Constructors.{value_of_arg}
use Rattle.kernel_eval.proofs.kernel.values_of.Given as goal

abbrev pub invariant-loop-arg : goal.invariant-loop-arg
invariant-loop-arg l = l.values ≡ map value_of_arg (take l.arg-index l.args)
