-- The types are those of the operands and what is given, and an amount has 8 bits.
use Rattle.std.proofs.Common.{rules, ◌≡◌, ◌++◌, subst, sym, ◌∙◌, ap, arith, Ok}
use Rattle.std.specs.Prelude.{unsigned_abs}
use Rattle.std.proofs.lemmas.Int.{to_z-of_z}
use mir.Val.{SFits}
use mir.Syntax.{w32}
use Rattle.kernel_meaning.specs.Typing.{typing}
use Rattle.kernel_rows.proofs.NextOperand.{types_of_operation, amount_small}
use Rattle.kernel_rows.proofs.operations.operation.Goals as goal

pub typing-requires-clause-widths : goal.typing-requires-clause-widths
typing-requires-clause-widths c =
    let a = c.args in
    let r = c.requires in
    let o = c.in_ok-operands.operands in
    let types : c.deref.result.now ≡ o.types ++ a.given.now = search rules in
    (types_of_operation c.mode-mode.result a.asked.of a.values.now a.state.now.made o a.given.now
    c.deref.result.now a.asked.op r.width r.fit c.in_ok-operands.ensures types r.given r.count).0

pub typing-requires-clause-count : goal.typing-requires-clause-count
typing-requires-clause-count c =
    let a = c.args in
    let r = c.requires in
    let o = c.in_ok-operands.operands in
    let types : c.deref.result.now ≡ o.types ++ a.given.now = search rules in
    (types_of_operation c.mode-mode.result a.asked.of a.values.now a.state.now.made o a.given.now
    c.deref.result.now a.asked.op r.width r.fit c.in_ok-operands.ensures types r.given r.count).1

pub overflow_cast-amount : goal.overflow_cast-amount
overflow_cast-amount c =
    let a = c.args in
    let f : SFits w32 a.asked.amount = search rules in
    let s = amount_small a.asked.op c.deref.result.now a.asked.amount c.in-Ok.of c.requires.amount
    (subst (λ z. typing a.asked.op c.deref.result.now z ≡ Ok c.in-Ok.of)
    (to_z-of_z w32 a.asked.amount f) (sym c.in-Ok.ensures)) in
    let size : c.unsigned_abs-amount.result ≡ unsigned_abs a.asked.amount =
    c.unsigned_abs-amount.ensures.value ∙ ap unsigned_abs (to_z-of_z w32 a.asked.amount f) in
    omega (arith, s, size)

pub overflow_add-state : goal.overflow_add-state
overflow_add-state c =
    let a = c.args in
    let r = c.requires in
    let o = c.in_ok-operands.operands in
    let types : c.deref.result.now ≡ o.types ++ a.given.now = search rules in
    let b = (types_of_operation c.mode-mode.result a.asked.of a.values.now a.state.now.made o
    a.given.now c.deref.result.now a.asked.op r.width r.fit c.in_ok-operands.ensures types r.given
    r.count).2 in
    omega (arith, b, r.made)
