use Rattle.std.proofs.Common.{◌≡◌, map}
use Rattle.simulation.specs.Inward.{input_of, AreBegun}
use Rattle.simulation.proofs.inputs.open.Given as goal

abbrev pub invariant-loop-name : goal.invariant-loop-name
invariant-loop-name l = record { named : map input_of l.inputs.items ≡ l.yielded; begun : AreBegun l.inputs.items }
