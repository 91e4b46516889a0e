-- What the types give is what is computed.
use Rattle.std.proofs.Common.{rules, sym, subst}
use mir.Val.{SFits}
use mir.Syntax.{w32}
use Rattle.std.proofs.lemmas.Int.{to_z-of_z}
use Rattle.fix_arith.specs.Typing.{HasType, IsFirstFault}
use Rattle.kernel_meaning.proofs.TypingFaults.{typing_of, fault_of}
use Rattle.kernel_rows.proofs.operations.typing.Goals as goal

pub returns-in-Ok : goal.returns-in-Ok
returns-in-Ok c =
    let a = c.args in
    let f : SFits w32 a.amount = search rules in
    sym (typing_of a.op a.types.now a.amount c.in-Ok.of (subst (λ z. HasType a.op a.types.now z c.in-Ok.of)
    (to_z-of_z w32 a.amount f) c.in-Ok.ensures.ok))

pub returns-in-Err : goal.returns-in-Err
returns-in-Err c =
    let a = c.args in
    let f : SFits w32 a.amount = search rules in
    sym (fault_of a.op a.types.now a.amount c.in-Err.error
    (subst (λ z. IsFirstFault a.op a.types.now z c.in-Err.error)
    (to_z-of_z w32 a.amount f) c.in-Err.ensures.err))
