use Rattle.std.proofs.Common.{◌≡◌, ℕ, length, if◌then◌else◌, take, Some, vec_len}
use Rattle.std.specs.Prelude.{slice_get}
use Rattle.rtl_check.specs.declared.drivers.Fed.{Fed}
use Rattle.rtl_check.specs.declared.drivers.Fed.TheVariants.{Never, Input}
use Rattle.rtl_ir.specs.Typed.{is_input}
use Rattle.rtl_check.proofs.drivers.inputs.Given as goal

abbrev pub invariant-loop-place : goal.invariant-loop-place
invariant-loop-place l = record {
  size : vec_len l.marks ≡ length l.module.nets;
  marks : (n : ℕ) (mark : Fed) → slice_get l.marks.items n ≡ Some mark → mark ≡ (if is_input (take l.place l.module.ports) n then Input else Never);
}
