-- The operands so far, and those that are left, are all.
use Rattle.std.proofs.Common.{sym, subst}
use Rattle.kernel_meaning.specs.StreamRows as Rows
use Rattle.std.proofs.Common.{drop, ◌+◌}
use Rattle.kernel_rows.specs.Operation.{IsFault}
use Rattle.kernel_rows.proofs.NextOperand.{operand_at, fault_before, handed_on}
use Rattle.kernel_rows.proofs.operands.operands_of.Goals as goal

pub returns-in_err-add : goal.returns-in_err-add
returns-in_err-add c =
    let a = c.args in
    let i = c.loop-value.invariant in
    let at_place = operand_at a.mode a.of c.loop-value.operands.made a.values.now
    c.loop-value.value-index c.value-item.result c.loop-value-test.true (sym c.value-item.is) in
    let f = c.in_err-add.ensures.next
    (λ made. Rows.operands_of a.mode a.of made (drop (c.loop-value.value-index + 1) a.values.now)) in
    let e = c.from_residual.ensures in
    let whole = Rows.operands_of a.mode a.of a.made a.values.now in
    handed_on a.at whole c.from_residual.result c.in_err-add.field-0.0 e.0 e.1
    (fault_before a.at c.loop-value.operands _ whole c.in_err-add.field-0.0 i.0
    (subst (λ r. IsFault a.at r c.in_err-add.field-0.0) (sym at_place) f))
