-- The operations that compare two words.
use Rattle.std.proofs.Common.{◌≡◌, ℕ, ◌⊎◌, inl, inr, Bool, false, List, length, Some, refl, ap, ◌∙◌, sym, subst}
use Rattle.std.specs.declared.cmp.Ordering.{Ordering}
use Rattle.std.specs.Ordering.{int_cmp}
use Rattle.mx_bits.specs.declared.op.Op.{Op}
use Rattle.mx_bits.specs.declared.op.Op.TheVariants.{Eq, Ne, Lt, Le, Gt, Ge}
use Rattle.fix_arith.specs.declared.types.StreamType.{StreamType}
use Rattle.fix_arith.specs.declared.types.StreamType.TheVariants.{Bool as OneBit}
use Rattle.fix_arith.specs.declared.types.RoundMode.{RoundMode}
use Rattle.fix_arith.specs.Typing.{AllSame, first}
use Rattle.fix_arith.specs.Values.{value_of}
use Rattle.fix_arith.specs.Table.{GivesType, applied, bit_of, operand, test_of}

abbrev pub IsComparison : Op → Type 0
IsComparison op = (op ≡ Eq) ⊎ ((op ≡ Ne) ⊎ ((op ≡ Lt) ⊎ ((op ≡ Le) ⊎ ((op ≡ Gt) ⊎ (op ≡ Ge)))))

of_each : (P : Op → Type 0) (op : Op) → IsComparison op → P Eq → P Ne → P Lt → P Le → P Gt → P Ge → P op
of_each P op (inl e) a b c d f g = subst P (sym e) a
of_each P op (inr (inl e)) a b c d f g = subst P (sym e) b
of_each P op (inr (inr (inl e))) a b c d f g = subst P (sym e) c
of_each P op (inr (inr (inr (inl e)))) a b c d f g = subst P (sym e) d
of_each P op (inr (inr (inr (inr (inl e))))) a b c d f g = subst P (sym e) f
of_each P op (inr (inr (inr (inr (inr e))))) a b c d f g = subst P (sym e) g

-- they take two operands of one type, and give one bit
pub compares_two : (op : Op) (types : List StreamType) (k : ℕ) (out : StreamType) → IsComparison op → GivesType op types k out → (length types ≡ 2) × (AllSame types × (out ≡ OneBit))
compares_two op types k out is =
    of_each (λ o. GivesType o types k out → (length types ≡ 2) × (AllSame types × (out ≡ OneBit))) op is
    (λ g. (g.0, (g.1.one_type, g.1.result))) (λ g. (g.0, (g.1.one_type, g.1.result))) (λ g. (g.0, (g.1.one_type, g.1.result)))
    (λ g. (g.0, (g.1.one_type, g.1.result))) (λ g. (g.0, (g.1.one_type, g.1.result))) (λ g. (g.0, (g.1.one_type, g.1.result)))

-- their rows of the table
compared_row : (op : Op) (mode : RoundMode) (types : List StreamType) (words : List ℕ) (k : ℕ) (out : StreamType) → IsComparison op
    → applied op mode types words k out ≡ Some (bit_of (test_of op (int_cmp (value_of (first types) (operand words 0)) (value_of (first types) (operand words 1)))))
compared_row op mode types words k out is =
    of_each (λ o. applied o mode types words k out ≡ Some (bit_of (test_of o (int_cmp (value_of (first types) (operand words 0)) (value_of (first types) (operand words 1)))))) op is
    refl refl refl refl refl refl

-- what the calls on words give, as such a row
pub compared : (op : Op) (mode : RoundMode) (types : List StreamType) (words : List ℕ) (k : ℕ) (out : StreamType) → IsComparison op
    → (t : StreamType) (a b bits : ℕ) (order : Ordering) (test : Bool) → t ≡ first types
    → operand words 0 ≡ a → operand words 1 ≡ b
    → order ≡ int_cmp (value_of t a) (value_of t b) → test ≡ test_of op order → bits ≡ bit_of test
    → Some bits ≡ applied op mode types words k out
compared op mode types words k out is t a b bits order test e f g h i j =
    let same : order ≡ int_cmp (value_of (first types) (operand words 0)) (value_of (first types) (operand words 1)) = h ∙ rw (e, f, g) refl in
    ap (λ n. Some n) j ∙ ap (λ x. Some (bit_of x)) i ∙ ap (λ o. Some (bit_of (test_of op o))) same
    ∙ sym (compared_row op mode types words k out is)

-- no other operation does
pub no_test : (op : Op) (order : Ordering) → (op ≡ Eq → ⊥) → (op ≡ Ne → ⊥) → (op ≡ Lt → ⊥) → (op ≡ Le → ⊥) → (op ≡ Gt → ⊥) → (op ≡ Ge → ⊥) → false ≡ test_of op order
no_test Eq order a b c d e f = absurd (a refl)
no_test Ne order a b c d e f = absurd (b refl)
no_test Lt order a b c d e f = absurd (c refl)
no_test Le order a b c d e f = absurd (d refl)
no_test Gt order a b c d e f = absurd (e refl)
no_test Ge order a b c d e f = absurd (f refl)
no_test _ order a b c d e f = refl
