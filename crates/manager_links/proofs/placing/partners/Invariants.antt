use Rattle.std.proofs.Common.{◌≡◌, ℕ, length, take}
use Rattle.std.specs.Prelude.{All, Some, slice_get}
use Rattle.std.specs.List.{Any, Contains}
use Rattle.manager_links.specs.Placed.{Joins}
use Rattle.manager_links.specs.Terminals.{terminals, ends_of}
use Rattle.manager_links.proofs.placing.partners.Given as goal

abbrev pub invariant-loop-number : goal.invariant-loop-number
invariant-loop-number l = record {
  size : length l.partners.items ≡ l.number;
  each : (number other : ℕ) → slice_get l.partners.items number ≡ Some other
      → Any (Joins (terminals l.plan l.kernels) number other) l.plan.joins;
  linked : All (Contains (ends_of l.plan.joins)) (take l.number (terminals l.plan l.kernels));
}
