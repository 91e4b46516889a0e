use Rattle.std.proofs.Common.{◌≡◌, ◌≤◌, ℕ, map}
use Rattle.std.specs.Prelude.{slice_get}
use Rattle.simulation.specs.Inward.{input_of, AreTaken, AreUnrefused}
use Rattle.simulation.proofs.inputs.take_all.Given as goal

abbrev pub invariant-loop-k : goal.invariant-loop-k
invariant-loop-k l = record {
  named : map input_of l.inputs ≡ map input_of l.fn.inputs;
  unrefused : AreUnrefused l.fn.inputs → AreUnrefused l.inputs;
  taken : AreTaken l.events l.fn.inputs l.inputs l.k;
  others : (j : ℕ) → l.k ≤ j → slice_get l.inputs j ≡ slice_get l.fn.inputs j;
}
