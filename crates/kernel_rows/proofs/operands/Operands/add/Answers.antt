-- A number's constant is the next operand.
use Rattle.std.proofs.Common.{rules, ◌≡◌, sym, subst}
use Rattle.kernel_meaning.specs.Typing.{literal_bits}
use Rattle.kernel_meaning.specs.StreamRows as Rows
use Rattle.std.specs.Prelude.{unsigned_abs}
use Rattle.std.specs.Int.{is_negative}
use Rattle.kernel_rows.specs.Operation.{IsNext, operand_before}
use Rattle.kernel_rows.proofs.operands.Operands.add.Goals as goal

pub returns-in-Int-clause-next : goal.returns-in-Int-clause-next
returns-in-Int-clause-next c =
    let a = c.args in
    let bits : c.literal_bits-bits.result
    ≡ literal_bits a.mode (is_negative c.in-Int.n) (unsigned_abs c.in-Int.n) 0 a.of =
    search rules in
    subst (λ v. IsNext a.at (operand_before a.mode a.of a.self.now.made v) a.self.now
    c.add_literal.new.self c.add_literal.result) (sym c.in-Int.is)
    (subst (λ b. IsNext a.at (Rows.literal_before b a.self.now.made a.of) a.self.now
    c.add_literal.new.self c.add_literal.result) bits c.add_literal.ensures.next)

pub returns-in-Literal-clause-next : goal.returns-in-Literal-clause-next
returns-in-Literal-clause-next c =
    let a = c.args in
    subst (λ v. IsNext a.at (operand_before a.mode a.of a.self.now.made v) a.self.now
    c.add_literal-in-Literal.new.self c.add_literal-in-Literal.result) (sym c.in-Literal.is)
    (subst (λ b. IsNext a.at (Rows.literal_before b a.self.now.made a.of) a.self.now
    c.add_literal-in-Literal.new.self c.add_literal-in-Literal.result)
    c.literal_bits-bits-in-Literal.ensures c.add_literal-in-Literal.ensures.next)
