-- An element is set.
use Rattle.std.proofs.Common.{◌∙◌, ap}
use Rattle.std.proofs.Common.{arith}
use Rattle.kernel_meaning.specs.Arrays.{with_element}
use Rattle.kernel_machine.proofs.Setting
use Rattle.kernel_machine.proofs.spots.with_item.Goals as goal
use Rattle.kernel_machine.proofs.spots.with_item.Goals.{then-array-len, else-array-len}

pub returns : goal.returns
returns c = c.from_vec.ensures ∙ elim c.if-array-len.branch [
  | then-array-len w ↦ (
      ap (λ v. v.items) w.all-is
      ∙ Setting.element-put c.into_vec-all.result.items c.args.array c.args.place c.args.value
      w.replace-values.new.dest w.replace-values.result w.with_value.result (omega (
        arith,
        w.if-array-len.true,
        c.len.ensures,
      ))
      (rw w.replace-values.ensures.value w.index_mut.ensures.value) w.with_value.ensures
      ∙ ap (λ l. with_element l c.args.array c.args.place c.args.value) c.into_vec-all.ensures)
  | else-array-len w ↦ (
      ap (λ v. v.items) w.all-is
      ∙ Setting.element-past c.into_vec-all.result.items c.args.array c.args.place c.args.value
      (omega (arith, w.if-array-len.false, c.len.ensures))
      ∙ ap (λ l. with_element l c.args.array c.args.place c.args.value) c.into_vec-all.ensures)
]
