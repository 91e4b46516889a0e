-- Both values are operands, and one is a stream.
use Rattle.std.proofs.Common.{rules, ◌≡◌, ◌∷◌, [], true, sym, subst, Some}
use Rattle.kernel_meaning.specs.StreamRows as Rows
use Rattle.std.specs.Prelude.{pos}
use Rattle.kernel_meaning.specs.SignRows.{op_of}
use Rattle.kernel_rows.specs.Given.{IsDone}
use Rattle.kernel_rows.specs.Operation.{operation_pair}
use Rattle.kernel_rows.proofs.SignPairs.{operation_between, two_items}
use Rattle.kernel_rows.proofs.operators.operation_of_sign.Goals as goal

pub returns-clause-done : goal.returns-clause-done
returns-clause-done c =
    let a = c.args in
    let x = c.first-item.result in
    let y = c.second-item.result in
    let values = two_items a.values.now x y c.in-len2.len_at_least c.in-len2.len_below
    c.first-item.is c.second-item.is in
    let p : Rows.is_operand x ≡ true = search rules in
    let q : Rows.is_operand y ≡ true = search rules in
    let op : op_of a.sign ≡ Some c.in-Some-Some.op = search rules in
    let t : Rows.first_stream (x ∷ y ∷ []) ≡ Some c.in-Some-Some.of =
    subst (λ l. Rows.first_stream l ≡ Some c.in-Some-Some.of) values (search rules) in
    subst (λ l. IsDone c.operation.new.state (operation_pair a.sign a.at l a.state.now)
    c.operation.result) (sym values)
    (subst (λ o. IsDone c.operation.new.state o c.operation.result)
    (sym (operation_between a.sign a.at x y c.in-Some-Some.op c.in-Some-Some.of a.state.now p q op
    t)) (subst (λ l. IsDone c.operation.new.state
    (Rows.operation a.at c.in-Some-Some.op (pos 0) c.in-Some-Some.of [] l a.state.now)
    c.operation.result) values c.operation.ensures.done))
