-- The fault that is told is the operation's first one.
use Rattle.std.proofs.Common.{
  ◌≡◌,
  ◌∙◌,
  ◌<◌,
  ◌≤◌,
  ◌-◌,
  ℕ,
  ℤ,
  zero,
  suc,
  List,
  length,
  Bool,
  true,
  false,
  Ok,
  Err,
  refl,
  sym,
  subst,
  arith,
}
use Rattle.std.specs.Prelude.{Result, if◌then◌else◌, not}
use Rattle.mx_bits.specs.declared.op.Op.{Op}
use Rattle.fix_arith.specs.declared.types.StreamType.{StreamType}
use Rattle.fix_arith.specs.declared.types.TypeError.{TypeError}
use Rattle.fix_arith.specs.declared.types.TypeError.TheVariants.{
  TypesDiffer,
  NotForType,
  MulTooWide,
  LiteralRange,
  ShiftRange,
  MuxCount,
}
use Rattle.fix_arith.specs.Typing.{
  alike,
  is_shift,
  type_of,
  AllSame,
  IsFor,
  IsNarrow,
  InShiftRange,
  CanChoose,
  Breaks,
  IsFirstFault,
  number_of,
}
use Rattle.kernel_meaning.specs.Typing.{all_same, is_for, is_narrow, in_range, can_choose, typing}
use Rattle.kernel_meaning.specs.Arithmetic.{TypesAgree, FaultsAgree}
use Rattle.kernel_meaning.proofs.TypingLaws.{
  first_same,
  for_good,
  narrow_good,
  range_by,
  choose_good,
  typing_sound,
}
use Rattle.kernel_meaning.proofs.TypingFaults.{
  same_true,
  for_true,
  narrow_true,
  range_at,
  choose_true,
  typing_of,
  fault_of,
}

not_both : (b : Bool) → b ≡ false → b ≡ true → ⊥
not_both b p q = absurd (cc)

unless_less : (k n : ℕ) → (n < k → ⊥) → k ≤ n
unless_less zero n h = omega arith
unless_less (suc k) zero h = absurd (h (omega arith))
unless_less (suc k) (suc n) h =
    let r = unless_less k n (λ l. h (omega (arith, l))) in omega (arith, r)

module _ (op : Op) (types : List StreamType) (amount : ℤ) where
  -- rules whose faults have lesser numbers are kept
  record AreKept (k : ℕ) : Type 0 where
    pub one_type : 1 < k → AllSame (alike op types)
    pub defined : 2 < k → IsFor op types
    pub narrow : 3 < k → IsNarrow op types
    pub in_range : 5 < k → InShiftRange op amount
    pub top : k ≤ 6

  stands_not : (k : ℕ) → AreKept k → (other : TypeError) → Breaks op types amount other
      → number_of other < k → ⊥
  stands_not k h TypesDiffer b l = b (h.one_type l)
  stands_not k h (NotForType named) b l = b.1 (h.defined l)
  stands_not k h MulTooWide b l = b (h.narrow l)
  stands_not k h LiteralRange b l = b
  stands_not k h (ShiftRange n) b l = b.1 (h.in_range l)
  stands_not k h (MuxCount n) b l = let top = h.top in absurd (omega (arith, l, top))

  first_of : (made e : TypeError) → ◌≡◌ {A = Result StreamType TypeError} (Err made) (Err e)
      → Breaks op types amount made → AreKept (number_of made) → IsFirstFault op types amount e
  first_of made e h b kept =
      let same : made ≡ e = cc in
      subst (IsFirstFault op types amount) same (record {
        stands = b;
        least = λ other c. unless_less (number_of made) (number_of other) (stands_not
            (number_of made) kept other c);
      })

  -- what the tests in their order answer
  abbrev told_by : Bool → Bool → Bool → Bool → Bool → Result StreamType TypeError
  told_by a b c d f =
      if not a then Err TypesDiffer else
      (if not b then Err (NotForType op) else
      (if not c then Err MulTooWide else
      (if not d then Err (ShiftRange amount) else
      (if not f then Err (MuxCount (length types - 1)) else Ok (type_of op types)))))

  by_tests : (a b c d f : Bool) (e : TypeError) → all_same (alike op types) ≡ a
      → is_for op types ≡ b → is_narrow op types ≡ c → in_range op amount ≡ d
      → can_choose op types (length types - 1) ≡ f → told_by a b c d f ≡ Err e
      → IsFirstFault op types amount e
  by_tests false b c d f e p q r s u h =
      first_of TypesDiffer e h (λ k. not_both _ p (same_true (alike op types) k)) (record {
        one_type = λ l. absurd (omega (arith, l));
        defined = λ l. absurd (omega (arith, l));
        narrow = λ l. absurd (omega (arith, l));
        in_range = λ l. absurd (omega (arith, l));
        top = omega arith;
      })
  by_tests true false c d f e p q r s u h =
      first_of (NotForType op) e h (refl, λ k. not_both _ q (for_true op types k)) (record {
        one_type = λ l. first_same op types p;
        defined = λ l. absurd (omega (arith, l));
        narrow = λ l. absurd (omega (arith, l));
        in_range = λ l. absurd (omega (arith, l));
        top = omega arith;
      })
  by_tests true true false d f e p q r s u h =
      first_of MulTooWide e h (λ k. not_both _ r (narrow_true op types k)) (record {
        one_type = λ l. first_same op types p;
        defined = λ l. for_good op types q;
        narrow = λ l. absurd (omega (arith, l));
        in_range = λ l. absurd (omega (arith, l));
        top = omega arith;
      })
  by_tests true true true false f e p q r s u h =
      first_of (ShiftRange amount) e h
      (refl, λ k. not_both _ s (range_at (is_shift op) amount k)) (record {
        one_type = λ l. first_same op types p;
        defined = λ l. for_good op types q;
        narrow = λ l. narrow_good op types r;
        in_range = λ l. absurd (omega (arith, l));
        top = omega arith;
      })
  by_tests true true true true false e p q r s u h =
      first_of (MuxCount (length types - 1)) e h
      (refl, λ k. not_both _ u (choose_true op types (length types - 1) k)) (record {
        one_type = λ l. first_same op types p;
        defined = λ l. for_good op types q;
        narrow = λ l. narrow_good op types r;
        in_range = λ l. range_by (is_shift op) amount s;
        top = omega arith;
      })
  by_tests true true true true true e p q r s u h = absurd (cc)

  first_fault : (e : TypeError) → typing op types amount ≡ Err e → IsFirstFault op types amount e
  unfolding typing
  first_fault e h =
      by_tests (all_same (alike op types)) (is_for op types) (is_narrow op types)
      (in_range op amount) (can_choose op types (length types - 1)) e refl refl refl refl refl h

pub types_agree : TypesAgree
types_agree op types amount t =
    (typing_sound op types amount t, typing_of op types amount t)

pub faults_agree : FaultsAgree
faults_agree op types amount e =
    (first_fault op types amount e, fault_of op types amount e)
