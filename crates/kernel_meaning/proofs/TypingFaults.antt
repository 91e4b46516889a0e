-- What `result_type` answers is what is computed.
use Rattle.std.proofs.Common.{
  ◌≡◌,
  ℕ,
  ℤ,
  pos,
  negsuc,
  ◌-◌,
  ◌<◌,
  ◌≤◌,
  ◌^◌,
  List,
  [],
  ◌∷◌,
  refl,
  ap,
  sym,
  ◌∙◌,
  arith,
  true,
  false,
  Ok,
  Err,
  subst,
  length,
}
use Rattle.std.specs.Prelude.{
  Bool,
  Result,
  if◌then◌else◌,
  IsTrue,
  ◌&&◌,
  not,
  All,
  int_le,
  nat_le,
  ◌≤ℤ◌,
}
use Rattle.std.specs.List.{list_all}
use Rattle.std.proofs.lemmas.Bool.Decides.{nat_tests}
use Rattle.std.proofs.lemmas.List.Elements.{All-head, All-tail}
use Rattle.mx_bits.specs.declared.op.Op.{Op}
use Rattle.mx_bits.specs.declared.op.Op.TheVariants as O
use Rattle.fix_arith.specs.declared.types.StreamType.{StreamType}
use Rattle.fix_arith.specs.declared.types.StreamType.TheVariants.{UInt, Int, Fix, Bool as OneBit}
use Rattle.fix_arith.specs.declared.types.TypeError.{TypeError}
use Rattle.fix_arith.specs.declared.types.TypeError.TheVariants.{
  TypesDiffer,
  NotForType,
  MulTooWide,
  LiteralRange,
  ShiftRange,
  MuxCount,
}
use Rattle.fix_arith.specs.Types.{width_of}
use Rattle.fix_arith.specs.Typing.{
  first,
  takes,
  is_fix,
  is_shift,
  alike,
  type_of,
  AllSame,
  IsFor,
  IsNarrow,
  InShiftRange,
  CanChoose,
  IsFirstFault,
  HasType,
  number_of,
}
use Rattle.kernel_meaning.specs.Typing.{
  same_type,
  all_same,
  is_for,
  is_narrow,
  in_range,
  can_choose,
  typing,
}
use Rattle.kernel_meaning.proofs.TypingLaws.{
  first_same,
  for_good,
  narrow_good,
  range_by,
  choose_good,
}

same_self : (t : StreamType) → same_type t t ≡ true
same_self (UInt n) = grind (arith, nat_tests)
same_self (Int n) = grind (arith, nat_tests)
same_self (Fix w f true) = grind (arith, nat_tests)
same_self (Fix w f false) = grind (arith, nat_tests)
same_self OneBit = refl

both : (a b : Bool) → a ≡ true → b ≡ true → (a && b) ≡ true
both true b p q = q
both false b p q = absurd (cc)

all_true : {A : Type 0} (p : A → Bool) (P : A → Type 0) → ((x : A) → P x → p x ≡ true)
    → (xs : List A) → All P xs → list_all p xs ≡ true
all_true p P f [] h = refl
all_true p P f (x ∷ xs) h = both (p x) (list_all p xs) (f x (All-head P x xs h))
    (all_true p P f xs (All-tail P x xs h))

pub same_true : (types : List StreamType) → AllSame types → all_same types ≡ true
same_true types h = all_true (λ t. same_type t (first types)) (λ t. t ≡ first types)
    (λ t e. subst (λ u. same_type t u ≡ true) e (same_self t)) types h

pub for_true : (op : Op) (types : List StreamType) → IsFor op types → is_for op types ≡ true
for_true O.Mux types h = h
for_true O.Cast types h = h
for_true O.Round types h = h
for_true op types h = all_true (λ t. takes op t) (λ t. IsTrue (takes op t)) (λ x e. e) types h

narrow_at : (b : Bool) (n : ℕ) → (IsTrue b → n ≤ 64) → (if b then nat_le n 64 else true) ≡ true
narrow_at true n h = let l = h refl in grind (arith, nat_tests)
narrow_at false n h = refl

pub narrow_true : (op : Op) (types : List StreamType) → IsNarrow op types → is_narrow op types ≡ true
narrow_true O.Mul types h = narrow_at (is_fix (first types)) (width_of (first types)) (h refl)
narrow_true _ types h = refl

between_true : (z : ℤ) → pos 0 ≤ℤ z → z ≤ℤ pos 127 → (int_le (pos 0) z && int_le z (pos 127)) ≡ true
between_true (pos n) a b = grind (arith, nat_tests)
between_true (negsuc n) a b = absurd (omega arith)

pub range_at : (b : Bool) (z : ℤ) → (IsTrue b → (pos 0 ≤ℤ z) × (z ≤ℤ pos 127))
    → (if b then int_le (pos 0) z && int_le z (pos 127) else true) ≡ true
range_at true z h = between_true z (h refl).0 (h refl).1
range_at false z h = refl

choose_at : (n w : ℕ) → 2 ≤ n → n ≤ 64 → n ≤ 2 ^ w
    → (nat_le 2 n && (nat_le n 64 && nat_le n (2 ^ w))) ≡ true
choose_at n w a b c = both (nat_le 2 n) _ (grind (arith, nat_tests))
    (both (nat_le n 64) (nat_le n (2 ^ w)) (grind (arith, nat_tests)) (grind (arith, nat_tests)))

pub choose_true : (op : Op) (types : List StreamType) (n : ℕ) → CanChoose op types n
    → can_choose op types n ≡ true
choose_true O.Mux types n h = let k = h refl in choose_at n (width_of (first types)) k.0 k.1 k.2
choose_true _ types n h = refl

-- where each test holds
passes : (a b c d e : Bool) (e1 e2 e3 e4 e5 : TypeError) (t : StreamType) → a ≡ true → b ≡ true → c
    ≡ true → d ≡ true → e ≡ true →
    ◌≡◌ {A = Result StreamType TypeError}
    (if not a then Err e1 else (if not b then Err e2
    else (if not c then Err e3 else (if not d then Err e4
    else (if not e then Err e5 else Ok t))))) (Ok t)
passes true true true true true e1 e2 e3 e4 e5 t a b c d e = refl
passes false b c d e e1 e2 e3 e4 e5 t p q r s u = absurd (cc)
passes true false c d e e1 e2 e3 e4 e5 t p q r s u = absurd (cc)
passes true true false d e e1 e2 e3 e4 e5 t p q r s u = absurd (cc)
passes true true true false e e1 e2 e3 e4 e5 t p q r s u = absurd (cc)
passes true true true true false e1 e2 e3 e4 e5 t p q r s u = absurd (cc)

-- a type that the operation has is the one that is computed
pub typing_of : (op : Op) (types : List StreamType) (amount : ℤ) (t : StreamType)
    → HasType op types amount t → typing op types amount ≡ Ok t
unfolding typing
typing_of op types amount t h =
    passes (all_same (alike op types)) (is_for op types) (is_narrow op types) (in_range op amount)
    (can_choose op types (length types - 1)) _ _ _ _ _ (type_of op types)
    (same_true (alike op types) h.one_type) (for_true op types h.defined)
    (narrow_true op types h.narrow) (range_at (is_shift op) amount h.in_range)
    (choose_true op types (length types - 1) h.options)
    ∙ ap Ok (sym h.result)

-- a test fails, or holds
stop : (b : Bool) (e : TypeError) (r : Result StreamType TypeError) → b ≡ false
    → ◌≡◌ {A = Result StreamType TypeError} (if not b then Err e else r) (Err e)
stop false e r h = refl
stop true e r h = absurd (cc)

pass : (b : Bool) (e : TypeError) (r : Result StreamType TypeError) → b ≡ true
    → ◌≡◌ {A = Result StreamType TypeError} (if not b then Err e else r) r
pass true e r h = refl
pass false e r h = absurd (cc)

fails : (b : Bool) (R : Type 0) → (b ≡ true → R) → (R → ⊥) → b ≡ false
fails true R f n = absurd (n (f refl))
fails false R f n = refl

holds : (b : Bool) (R : Type 0) → (R → b ≡ true) → ((R → ⊥) → ⊥) → b ≡ true
holds true R f n = refl
holds false R f n = absurd (n (λ r. let e = f r in cc))

module _ (op : Op) (types : List StreamType) (amount : ℤ) (e : TypeError)
    (h : IsFirstFault op types amount e) where
  kept_same : 1 < number_of e → all_same (alike op types) ≡ true
  kept_same lt = holds (all_same (alike op types)) (AllSame (alike op types))
      (same_true (alike op types)) (λ n. let l = h.least TypesDiffer n in omega arith)

  kept_for : 2 < number_of e → is_for op types ≡ true
  kept_for lt = holds (is_for op types) (IsFor op types) (for_true op types) (λ n. let l =
      h.least (NotForType op) (refl, n) in omega arith)

  kept_narrow : 3 < number_of e → is_narrow op types ≡ true
  kept_narrow lt = holds (is_narrow op types) (IsNarrow op types) (narrow_true op types)
      (λ n. let l = h.least MulTooWide n in omega arith)

  kept_range : 5 < number_of e → in_range op amount ≡ true
  kept_range lt = holds (in_range op amount) (InShiftRange op amount)
      (λ r. range_at (is_shift op) amount r) (λ n. let l =
      h.least (ShiftRange amount) (refl, n) in omega arith)

-- the first fault of an operation is the one that is computed
pub fault_of : (op : Op) (types : List StreamType) (amount : ℤ) (e : TypeError)
    → IsFirstFault op types amount e → typing op types amount ≡ Err e
unfolding typing
fault_of op types amount TypesDiffer h =
    stop (all_same (alike op types)) _ _
    (fails (all_same (alike op types)) (AllSame (alike op types)) (first_same op types)
    h.stands)
fault_of op types amount (NotForType named) h =
    pass (all_same (alike op types)) _ _
    (kept_same op types amount (NotForType named) h (omega arith))
    ∙ (stop (is_for op types) _ _ (fails (is_for op types) (IsFor op types) (for_good op types)
    h.stands.1)
    ∙ ap (λ o. Err (NotForType o)) (sym h.stands.0))
fault_of op types amount MulTooWide h =
    pass (all_same (alike op types)) _ _ (kept_same op types amount MulTooWide h (omega arith))
    ∙ (pass (is_for op types) _ _ (kept_for op types amount MulTooWide h (omega arith))
    ∙ stop (is_narrow op types) _ _ (fails (is_narrow op types) (IsNarrow op types)
    (narrow_good op types) h.stands))
fault_of op types amount LiteralRange h = absurd (h.stands)
fault_of op types amount (ShiftRange k) h =
    pass (all_same (alike op types)) _ _ (kept_same op types amount (ShiftRange k) h (omega arith))
    ∙ (pass (is_for op types) _ _ (kept_for op types amount (ShiftRange k) h (omega arith))
    ∙ (pass (is_narrow op types) _ _ (kept_narrow op types amount (ShiftRange k) h (omega arith))
    ∙ (stop (in_range op amount) _ _
    (fails (in_range op amount) (InShiftRange op amount) (λ t. range_by (is_shift op) amount t)
    h.stands.1)
    ∙ ap (λ z. Err (ShiftRange z)) (sym h.stands.0))))
fault_of op types amount (MuxCount n) h =
    let count = h.stands.0 in
    pass (all_same (alike op types)) _ _ (kept_same op types amount (MuxCount n) h (omega arith))
    ∙ (pass (is_for op types) _ _ (kept_for op types amount (MuxCount n) h (omega arith))
    ∙ (pass (is_narrow op types) _ _ (kept_narrow op types amount (MuxCount n) h (omega arith))
    ∙ (pass (in_range op amount) _ _ (kept_range op types amount (MuxCount n) h (omega arith))
    ∙ (stop (can_choose op types (length types - 1)) _ _
    (fails (can_choose op types (length types - 1)) (CanChoose op types (length types - 1))
    (choose_good op types (length types - 1))
    (subst (λ k. CanChoose op types k → ⊥) count h.stands.1))
    ∙ ap (λ k. Err (MuxCount k)) (sym count)))))
