use Rattle.std.proofs.Common.{◌≡◌, ◌<◌, ℕ, true, Some}
use Rattle.std.specs.Prelude.{slice_get}
use Rattle.rtl_ir.specs.declared.design.Instance.{Instance}
use Rattle.rtl_check.proofs.parts.mark_parts.Given as goal

abbrev pub invariant-loop-place : goal.invariant-loop-place
invariant-loop-place l = record {
  kept : (n : ℕ) → slice_get l.initial.marks n ≡ Some true → slice_get l.marks n ≡ Some true;
  marked : (k : ℕ) (i : Instance) → k < l.place → slice_get l.module.instances k ≡ Some i → slice_get l.marks i.module ≡ Some true;
}
