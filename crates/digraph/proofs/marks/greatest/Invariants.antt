use Rattle.std.proofs.Common.{◌≡◌, ℕ, ◌<◌, ◌≤◌, Some}
use Rattle.std.specs.Prelude.{slice_get}
use Rattle.digraph.proofs.marks.greatest.Given as goal

abbrev pub invariant-loop-i : goal.invariant-loop-i
invariant-loop-i l = (j n : ℕ) → j < l.i → slice_get l.numbers j ≡ Some n → n ≤ l.most
