-- The words of literals are those that are computed.
use Rattle.std.proofs.Common.{◌≡◌, ℕ, ℤ, ◌<◌, ◌^◌, Bool, arith, refl, ap, sym, ◌∙◌, true, false, subst, Ok, Err}
use Rattle.std.specs.Prelude.{◌<ℤ◌, ◌==◌, ◌&&◌, not, if◌then◌else◌, IsTrue, Result}
use Rattle.std.proofs.lemmas.Bool.Decides.{nat_tests}
use Rattle.std.specs.Ordering.{int_cmp, is_eq, MatchOrdering}
use Rattle.std.specs.declared.cmp.Ordering.{Ordering}
use Rattle.std.specs.declared.cmp.Ordering.TheVariants as O
use Rattle.std.specs.Cmp.{int_ranks}
use Rattle.mx_bits.specs.declared.op.Op.TheVariants.{Cast}
use Rattle.mx_bits.specs.declared.word.Word.{Word}
use Rattle.fix_arith.specs.declared.number.Number.{Number}
use Rattle.fix_arith.specs.declared.types.RoundMode.{RoundMode}
use Rattle.fix_arith.specs.declared.types.StreamType.{StreamType}
use Rattle.fix_arith.specs.declared.types.TypeError.{TypeError}
use Rattle.fix_arith.specs.declared.types.TypeError.TheVariants.{
  TypesDiffer,
  NotForType,
  MulTooWide,
  LiteralRange,
  ShiftRange,
  MuxCount,
}
use Rattle.fix_arith.specs.Types.{width_of}
use Rattle.fix_arith.specs.Typing.{is_fix}
use Rattle.fix_arith.specs.Values.{reduced, value_of, IsValue}
use Rattle.fix_arith.specs.Literals.{IsLiteral, literal_of}
use Rattle.fix_arith.proofs.Residues.{reduced-value, reduced-lt}
use Rattle.kernel_meaning.specs.Typing.{is_number_of, literal_bits}
use Rattle.kernel_meaning.specs.Arithmetic.{WordsAgree, RefusalsAgree}

ranked : (o : Ordering) (a b : ℤ) → MatchOrdering o (a <ℤ b) (a ≡ b) (b <ℤ a) → a ≡ b → is_eq o
    ≡ true
ranked O.Less a b h e = let l : a <ℤ b = h in absurd (grind (arith, l, e))
ranked O.Equal a b h e = refl
ranked O.Greater a b h e = let l : b <ℤ a = h in absurd (grind (arith, l, e))

told : (o : Ordering) (a b : ℤ) → MatchOrdering o (a <ℤ b) (a ≡ b) (b <ℤ a) → is_eq o ≡ true → a ≡ b
told O.Less a b h e = absurd (cc)
told O.Equal a b h e = h
told O.Greater a b h e = absurd (cc)

-- the test holds of this number
number_true : (bits : ℕ) (t : StreamType) (z : ℤ) → value_of t bits ≡ z → is_number_of bits t z
    ≡ true
number_true bits t z e = ranked (int_cmp (value_of t bits) z) _ _ (int_ranks (value_of t bits) z) e

false_where_not : (b : Bool) (R : Type 0) → (b ≡ true → R) → (R → ⊥) → b ≡ false
false_where_not true R f n = absurd (n (f refl))
false_where_not false R f n = refl

number_false : (t : StreamType) (z : ℤ) → (IsValue t z → ⊥)
    → is_number_of (reduced (width_of t) z) t z ≡ false
number_false t z n =
    let bits : ℕ = reduced (width_of t) z in
    false_where_not (is_number_of bits t z) (value_of t bits ≡ z)
    (told (int_cmp (value_of t bits) z) _ _ (int_ranks (value_of t bits) z))
    (λ e. n (bits, reduced-lt (width_of t) z, e))

written : (fix : Bool) (tens : ℕ) → ((IsTrue fix → ⊥) → tens ≡ 0) → (not fix && not (tens == 0))
    ≡ false
written true tens w = refl
written false tens w = let e : tens ≡ 0 = w (λ h. absurd (cc)) in rw e refl

unwritten_by : (fix zero_tens : Bool) (tens : ℕ) → (tens == 0) ≡ zero_tens
    → (((IsTrue fix → ⊥) → tens ≡ 0) → ⊥) → (not fix && not zero_tens) ≡ true
unwritten_by true zero_tens tens e n = absurd (n (λ f. absurd (f refl)))
unwritten_by false true tens e n = absurd (n (λ f. grind (arith, nat_tests)))
unwritten_by false false tens e n = refl

first_way : (b : Bool) (x y : Result ℕ TypeError) → b ≡ true → (if b then x else y) ≡ x
first_way true x y e = refl
first_way false x y e = absurd (cc)

second_way : (b : Bool) (x y : Result ℕ TypeError) → b ≡ false → (if b then x else y) ≡ y
second_way false x y e = refl
second_way true x y e = absurd (cc)

-- a word that stands for the number is the one that is computed
pub literal_ok : (n : Number) (mode : RoundMode) (t : StreamType) (word : Word)
    → IsLiteral n mode t (Ok word)
    → literal_bits mode n.negative n.digits n.tens t ≡ Ok word.bits
unfolding literal_bits
literal_ok n mode t word h =
    let f : word.bits < 2 ^ width_of t = subst (λ w. word.bits < 2 ^ w) h.1 word.fits in
    let z : ℤ = literal_of n mode t in
    let back : reduced (width_of t) z ≡ word.bits =
    ap (reduced (width_of t)) (sym h.2) ∙ reduced-value t word.bits f in
    second_way (not (is_fix t) && not (n.tens == 0)) _ _ (written (is_fix t) n.tens h.0)
    ∙ (first_way (is_number_of (reduced (width_of t) z) t z) _ _
    (number_true (reduced (width_of t) z) t z (ap (value_of t) back ∙ h.2))
    ∙ ap Ok back)

-- why there is none is what is computed
pub literal_err : (n : Number) (mode : RoundMode) (t : StreamType) (e : TypeError)
    → IsLiteral n mode t (Err e)
    → literal_bits mode n.negative n.digits n.tens t ≡ Err e
unfolding literal_bits
literal_err n mode t (NotForType op) h =
    first_way (not (is_fix t) && not (n.tens == 0)) _ _
    (unwritten_by (is_fix t) (n.tens == 0) n.tens refl h.1)
    ∙ ap (λ o. Err (NotForType o)) (sym h.0)
literal_err n mode t LiteralRange h =
    let z : ℤ = literal_of n mode t in
    second_way (not (is_fix t) && not (n.tens == 0)) _ _ (written (is_fix t) n.tens h.0)
    ∙ second_way (is_number_of (reduced (width_of t) z) t z) _ _ (number_false t z h.1)
literal_err n mode t TypesDiffer h = absurd h
literal_err n mode t MulTooWide h = absurd h
literal_err n mode t (ShiftRange k) h = absurd h
literal_err n mode t (MuxCount k) h = absurd h

-- and the other way round: what is computed is the literal
writable : (fix : Bool) (tens : ℕ) → (not fix && not (tens == 0)) ≡ false → (IsTrue fix → ⊥)
    → tens ≡ 0
writable true tens e n = absurd (n refl)
writable false tens e n = grind (arith, nat_tests)

not_both : (b : Bool) → b ≡ false → b ≡ true → ⊥
not_both b p q = absurd (cc)

module _ (n : Number) (mode : RoundMode) (t : StreamType) where
  abbrev wanted : ℤ
  wanted = literal_of n mode t

  abbrev found : ℕ
  found = reduced (width_of t) wanted

  abbrev told_by : Bool → Bool → Result ℕ TypeError
  told_by unwritten has = if unwritten then Err (NotForType Cast) else
      (if has then Ok found else Err LiteralRange)

  word_by : (unwritten has : Bool) (word : Word)
      → (not (is_fix t) && not (n.tens == 0)) ≡ unwritten → is_number_of found t wanted ≡ has
      → word.width ≡ width_of t → told_by unwritten has ≡ Ok word.bits → IsLiteral n mode t (Ok word)
  word_by true has word p q w e = absurd (cc)
  word_by false false word p q w e = absurd (cc)
  word_by false true word p q w e =
      let bits : found ≡ word.bits = cc in (
        writable (is_fix t) n.tens p,
        w,
        ap (value_of t) (sym bits)
            ∙ told (int_cmp (value_of t found) wanted) _ _ (int_ranks (value_of t found) wanted) q,
      )

  fault_is : (made e : TypeError) → ◌≡◌ {A = Result ℕ TypeError} (Err made) (Err e)
      → IsLiteral n mode t (Err made) → IsLiteral n mode t (Err e)
  fault_is made e h l =
      let same : made ≡ e = cc in subst (λ f. IsLiteral n mode t (Err f)) same l

  fault_by : (unwritten has : Bool) (e : TypeError)
      → (not (is_fix t) && not (n.tens == 0)) ≡ unwritten → is_number_of found t wanted ≡ has
      → told_by unwritten has ≡ Err e → IsLiteral n mode t (Err e)
  fault_by true has e p q h =
      fault_is (NotForType Cast) e h (refl, λ w. not_both _ (written (is_fix t) n.tens w) p)
  fault_by false false e p q h =
      fault_is LiteralRange e h (
        writable (is_fix t) n.tens p,
        λ v.
            let back : found ≡ v.0 =
            ap (reduced (width_of t)) (sym v.2) ∙ reduced-value t v.0 v.1 in
            not_both _ q (number_true found t wanted (ap (value_of t) back ∙ v.2)),
      )
  fault_by false true e p q h = absurd (cc)

  word_of_bits : (word : Word) → word.width ≡ width_of t
      → literal_bits mode n.negative n.digits n.tens t ≡ Ok word.bits → IsLiteral n mode t (Ok word)
  unfolding literal_bits
  word_of_bits word w h =
      word_by (not (is_fix t) && not (n.tens == 0)) (is_number_of found t wanted) word refl refl w h

  fault_of_bits : (e : TypeError) → literal_bits mode n.negative n.digits n.tens t ≡ Err e
      → IsLiteral n mode t (Err e)
  unfolding literal_bits
  fault_of_bits e h =
      fault_by (not (is_fix t) && not (n.tens == 0)) (is_number_of found t wanted) e refl refl h

pub words_agree : WordsAgree
words_agree n mode t word w = (word_of_bits n mode t word w, literal_ok n mode t word)

pub refusals_agree : RefusalsAgree
refusals_agree n mode t e = (fault_of_bits n mode t e, literal_err n mode t e)
