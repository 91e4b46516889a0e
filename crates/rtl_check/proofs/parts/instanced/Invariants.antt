use Rattle.std.proofs.Common.{◌≡◌, ◌<◌, ℕ, true, Some, vec_len, length}
use Rattle.std.specs.Prelude.{slice_get}
use Rattle.rtl_ir.specs.declared.design.Instance.{Instance}
use Rattle.rtl_ir.specs.declared.design.Module.{Module}
use Rattle.rtl_check.proofs.parts.instanced.Given as goal

abbrev pub invariant-loop-number : goal.invariant-loop-number
invariant-loop-number l = record {
  size : vec_len l.marks ≡ length l.design.modules;
  marked : (n k : ℕ) (m : Module) (i : Instance) → n < l.number → slice_get l.design.modules n ≡ Some m → slice_get m.instances k ≡ Some i → slice_get l.marks.items i.module ≡ Some true;
}
