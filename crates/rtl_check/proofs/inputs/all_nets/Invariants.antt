use Rattle.std.proofs.Common.{◌≡◌, ℕ, ◌<◌, ◌^◌, Some, take}
use Rattle.std.specs.Prelude.{slice_get}
use Rattle.rtl_check.proofs.inputs.all_nets.Given as goal

abbrev pub invariant-loop-place : goal.invariant-loop-place
invariant-loop-place l = record {
  nets : l.nets ≡ take l.place l.instance.nets;
  small : (n a : ℕ) → slice_get l.nets n ≡ Some a → a < 2 ^ 32;
}
