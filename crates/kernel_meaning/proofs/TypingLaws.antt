-- The computed type of an operation is its type, and a literal's bits are those of a word.
use Rattle.std.proofs.Common.{
  ◌≡◌,
  ℕ,
  ℤ,
  pos,
  negsuc,
  suc,
  ◌-◌,
  ◌<◌,
  ◌≤◌,
  ◌^◌,
  List,
  [],
  ◌∷◌,
  ◌++◌,
  refl,
  ap,
  sym,
  ◌∙◌,
  arith,
  true,
  false,
  Ok,
  Err,
  subst,
  length,
}
use Rattle.std.specs.Prelude.{Bool, Result, if◌then◌else◌, unsigned_abs, IsTrue, ◌&&◌, not, ◌==◌}
use Rattle.std.specs.Prelude.{All, int_le, nat_le, ◌≤ℤ◌}
use Rattle.std.specs.List.{list_all}
use Rattle.std.proofs.lemmas.Bool.Decides.{nat_tests}
use Rattle.std.proofs.lemmas.List.{append-nil}
use Rattle.std.proofs.lemmas.List.Elements.{All-nil, All-cons}
use Rattle.mx_bits.specs.declared.op.Op.{Op}
use Rattle.mx_bits.specs.declared.op.Op.TheVariants as O
use Rattle.fix_arith.specs.declared.types.RoundMode.{RoundMode}
use Rattle.fix_arith.specs.declared.types.StreamType.{StreamType}
use Rattle.fix_arith.specs.declared.types.StreamType.TheVariants.{UInt, Int, Fix, Bool as OneBit}
use Rattle.fix_arith.specs.declared.types.TypeError.{TypeError}
use Rattle.fix_arith.specs.Types.{width_of, HasWidth}
use Rattle.fix_arith.specs.Typing.{
  first,
  second,
  takes,
  is_fix,
  is_shift,
  can_cast,
  alike,
  type_of,
  AllSame,
  IsFor,
  IsNarrow,
  CanChoose,
  HasType,
}
use Rattle.fix_arith.specs.Table.{GivesType}
use Rattle.fix_arith.specs.Values.{reduced}
use Rattle.fix_arith.proofs.Residues.{reduced-lt}
use Rattle.kernel_meaning.specs.Typing.{
  literal_bits,
  literal_value,
  is_number_of,
  same_bit,
  same_type,
  all_same,
  is_for,
  is_narrow,
  in_range,
  can_choose,
  typing,
}

-- the bits of a literal are those of a word of its type
abbrev pub LiteralFits : StreamType → Result ℕ TypeError → Type 0
LiteralFits t (Err e) = Unit {0}
LiteralFits t (Ok bits) = bits < 2 ^ width_of t

record Fits (t : StreamType) (r : Result ℕ TypeError) : Type 0 where
  pub fits : LiteralFits t r

chosen_fits : (b : Bool) (t : StreamType) (x y : Result ℕ TypeError) → Fits t x → Fits t y
    → Fits t (if b then x else y)
chosen_fits true t x y p q = p
chosen_fits false t x y p q = q

pub literal_fits : (mode : RoundMode) (negative : Bool) (digits tens : ℕ) (t : StreamType)
    → LiteralFits t (literal_bits mode negative digits tens t)
unfolding literal_bits
literal_fits mode negative digits tens t =
    (chosen_fits (not (is_fix t) && not (tens == 0)) t _ _ (record { fits = tt {0} })
    (chosen_fits (is_number_of (reduced (width_of t) (literal_value mode negative digits tens t)) t
    (literal_value mode negative digits tens t)) t _ _
    (record { fits = reduced-lt (width_of t) (literal_value mode negative digits tens t) })
    (record { fits = tt {0} }))).fits

pub both_left : (a b : Bool) → (a && b) ≡ true → a ≡ true
both_left true b e = refl
both_left false b e = e

pub both_right : (a b : Bool) → (a && b) ≡ true → b ≡ true
both_right true b e = e
both_right false b e = absurd (cc)

same_number : (n m : ℕ) → (n == m) ≡ true → n ≡ m
same_number n m e = grind (arith, nat_tests)

same_sign : (a b : Bool) → same_bit a b ≡ true → a ≡ b
same_sign true true e = refl
same_sign true false e = absurd (cc)
same_sign false true e = absurd (cc)
same_sign false false e = refl

pub same_is : (t u : StreamType) → same_type t u ≡ true → t ≡ u
same_is (UInt n) (UInt m) e = ap UInt (same_number n m e)
same_is (Int n) (Int m) e = ap Int (same_number n m e)
same_is (Fix w f s) (Fix w' f' s') e =
    let a = same_number w w' (both_left _ _ e) in
    let r = both_right (w == w') _ e in
    let b = same_number f f' (both_left _ _ r) in
    let c = same_sign s s' (both_right (f == f') _ r) in
    cc
same_is OneBit OneBit e = refl
same_is (UInt n) (Int m) e = absurd (cc)
same_is (UInt n) (Fix w f s) e = absurd (cc)
same_is (UInt n) OneBit e = absurd (cc)
same_is (Int n) (UInt m) e = absurd (cc)
same_is (Int n) (Fix w f s) e = absurd (cc)
same_is (Int n) OneBit e = absurd (cc)
same_is (Fix w f s) (UInt n) e = absurd (cc)
same_is (Fix w f s) (Int n) e = absurd (cc)
same_is (Fix w f s) OneBit e = absurd (cc)
same_is OneBit (UInt n) e = absurd (cc)
same_is OneBit (Int n) e = absurd (cc)
same_is OneBit (Fix w f s) e = absurd (cc)

all_by : {A : Type 0} (p : A → Bool) (P : A → Type 0) → ((x : A) → p x ≡ true → P x) → (xs : List A)
    → list_all p xs ≡ true → All P xs
all_by p P f [] e = All-nil P
all_by p P f (x ∷ xs) e = All-cons P x xs (f x (both_left (p x) _ e))
    (all_by p P f xs (both_right (p x) _ e))

step : (b : Bool) (e : TypeError) (r : Result StreamType TypeError) (t : StreamType)
    → (if not b then Err e else r) ≡ Ok t → (b ≡ true) × (r ≡ Ok t)
step true e r t h = (refl, h)
step false e r t h = absurd (cc)

pub for_good : (op : Op) (types : List StreamType) → is_for op types ≡ true → IsFor op types
for_good O.Mux types e = e
for_good O.Cast types e = e
for_good O.Round types e = e
for_good op types e = all_by (λ t. takes op t) (λ t. IsTrue (takes op t)) (λ x h. h) types e

narrow_by : (b : Bool) (n : ℕ) → (if b then nat_le n 64 else true) ≡ true → IsTrue b → n ≤ 64
narrow_by true n e h = grind (arith, nat_tests)
narrow_by false n e h = absurd (cc)

pub narrow_good : (op : Op) (types : List StreamType) → is_narrow op types ≡ true
    → IsNarrow op types
narrow_good O.Mul types e = λ _ f. narrow_by (is_fix (first types)) (width_of (first types)) e f
narrow_good _ types e = λ m f. absurd (cc)

pub range_by : (b : Bool) (z : ℤ) → (if b then int_le (pos 0) z && int_le z (pos 127) else true)
    ≡ true → IsTrue b → (pos 0 ≤ℤ z) × (z ≤ℤ pos 127)
range_by true (pos n) e h = grind (arith, nat_tests)
range_by true (negsuc n) e h = absurd (cc)
range_by false z e h = absurd (cc)

choose_by : (n w : ℕ) → (nat_le 2 n && (nat_le n 64 && nat_le n (2 ^ w))) ≡ true → (2 ≤ n)
    × (n ≤ 64) × (n ≤ 2 ^ w)
choose_by n w e =
    let a = both_left (nat_le 2 n) _ e in
    let r = both_right (nat_le 2 n) _ e in
    let b = both_left (nat_le n 64) _ r in
    let c = both_right (nat_le n 64) _ r in
    (grind (arith, nat_tests), grind (arith, nat_tests), grind (arith, nat_tests))

pub choose_good : (op : Op) (types : List StreamType) (n : ℕ) → can_choose op types n ≡ true
    → CanChoose op types n
choose_good O.Mux types n e = λ _. choose_by n (width_of (first types)) e
choose_good _ types n e = λ m. absurd (cc)

pub first_same : (op : Op) (types : List StreamType) → all_same (alike op types) ≡ true
    → AllSame (alike op types)
first_same op types e = all_by (λ t. same_type t (first (alike op types)))
    (λ t. t ≡ first (alike op types)) (λ t h. same_is t (first (alike op types)) h) (alike op types)
    e

pub typing_sound : (op : Op) (types : List StreamType) (amount : ℤ) (t : StreamType)
    → typing op types amount ≡ Ok t → HasType op types amount t
unfolding typing
typing_sound op types amount t h =
    let a = step (all_same (alike op types)) _ _ t h in
    let b = step (is_for op types) _ _ t a.1 in
    let c = step (is_narrow op types) _ _ t b.1 in
    let d = step (in_range op amount) _ _ t c.1 in
    let e = step (can_choose op types (length types - 1)) _ _ t d.1 in
    record {
      one_type = first_same op types a.0;
      defined = for_good op types b.0;
      narrow = narrow_good op types c.0;
      in_range = range_by (is_shift op) amount d.0;
      options = choose_good op types (length types - 1) e.0;
      result = let r = e.1 in cc;
    }

-- Which types operations may have.

abbrev pub AllWidths : List StreamType → Type 0
AllWidths [] = Unit {0}
AllWidths (t ∷ ts) = HasWidth t × AllWidths ts

-- whatever type an operation has, it may have
abbrev pub MayHave : Op → ℤ → List StreamType → ℕ → Type 0
MayHave op amount given count =
    (types : List StreamType) (t : StreamType) → length types ≡ count → AllWidths types
    → typing op (types ++ given) amount ≡ Ok t → GivesType op types (unsigned_abs amount) t
    × HasWidth t

typed : (op : Op) (types : List StreamType) (amount : ℤ) (t : StreamType)
    → typing op (types ++ []) amount ≡ Ok t → HasType op types amount t
typed op types amount t h =
    typing_sound op types amount t (subst (λ ts. typing op ts amount ≡ Ok t) (append-nil types) h)

one_bit : HasWidth OneBit
one_bit = (omega arith, omega arith)

first_width : (types : List StreamType) → AllWidths types → HasWidth (first types)
first_width [] w = one_bit
first_width (t ∷ ts) w = w.0

second_width : (types : List StreamType) → AllWidths types → HasWidth (second types)
second_width [] w = one_bit
second_width (t ∷ []) w = one_bit
second_width (t ∷ u ∷ ts) w = w.1.0

-- of its operands, of the second one, or of one bit
type_width : (op : Op) (types : List StreamType) → AllWidths types → HasWidth (type_of op types)
type_width O.Eq types w = one_bit
type_width O.Ne types w = one_bit
type_width O.Lt types w = one_bit
type_width O.Le types w = one_bit
type_width O.Gt types w = one_bit
type_width O.Ge types w = one_bit
type_width O.Mux types w = second_width types w
type_width O.Cast types w = second_width types w
type_width O.Round types w = second_width types w
type_width _ types w = first_width types w

has_width : (op : Op) (types : List StreamType) (amount : ℤ) (t : StreamType) → AllWidths types
    → HasType op types amount t → HasWidth t
has_width op types amount t w h = subst HasWidth (sym h.result) (type_width op types w)

abbrev pub is_two : Op → Bool
is_two O.Neg = false
is_two O.Not = false
is_two O.Shl = false
is_two O.Shr = false
is_two O.Mux = false
is_two O.Cast = false
is_two O.Round = false
is_two _ = true

pub may_two : (op : Op) → is_two op ≡ true → MayHave op (pos 0) [] 2
may_two O.Neg e = absurd (cc)
may_two O.Not e = absurd (cc)
may_two O.Shl e = absurd (cc)
may_two O.Shr e = absurd (cc)
may_two O.Mux e = absurd (cc)
may_two O.Cast e = absurd (cc)
may_two O.Round e = absurd (cc)
may_two op e = λ types t many w h. let ty =
    typed op types (pos 0) t h in ((many, ty), has_width op types (pos 0) t w ty)

pub may_neg : MayHave O.Neg (pos 0) [] 1
may_neg types t many w h = let ty = typed O.Neg types (pos 0) t h
    in ((many, ty), has_width O.Neg types (pos 0) t w ty)

pub may_not : MayHave O.Not (pos 0) [] 1
may_not types t many w h = let ty = typed O.Not types (pos 0) t h
    in ((many, ty), has_width O.Not types (pos 0) t w ty)

sized : (z : ℤ) → pos 0 ≤ℤ z → pos (unsigned_abs z) ≡ z
sized (pos n) h = refl
sized (negsuc n) h = absurd (omega arith)

pub may_shl : (k : ℤ) → MayHave O.Shl k [] 1
may_shl k types t many w h =
    let ty = typed O.Shl types k t h in (
      (many, subst (λ z. HasType O.Shl types z t) (sym (sized k (ty.in_range refl).0)) ty),
      has_width
          O.Shl types k t w ty,
    )

pub may_shr : (k : ℤ) → MayHave O.Shr k [] 1
may_shr k types t many w h =
    let ty = typed O.Shr types k t h in (
      (many, subst (λ z. HasType O.Shr types z t) (sym (sized k (ty.in_range refl).0)) ty),
      has_width
          O.Shr types k t w ty,
    )

pub may_mux : (count : ℕ) → MayHave O.Mux (pos 0) [] (suc count)
may_mux count types t many w h = let ty =
    typed O.Mux types (pos 0) t h in ((omega arith, ty), has_width O.Mux types (pos 0) t w ty)

-- a cast gives the type that is given
given_type : (types : List StreamType) (u : StreamType) → length types ≡ 1
    → second (types ++ u ∷ []) ≡ u
given_type [] u e = absurd (omega arith)
given_type (t ∷ []) u e = refl
given_type (t ∷ v ∷ ts) u e = absurd (omega arith)

same_first : (types : List StreamType) (u : StreamType) → length types ≡ 1 → first (types ++ u ∷ [])
    ≡ first types
same_first [] u e = absurd (omega arith)
same_first (t ∷ ts) u e = refl

pub may_cast : (u : StreamType) → HasWidth u → MayHave O.Cast (pos 0) (u ∷ []) 1
may_cast u w types t many ws h =
    let ty = typing_sound O.Cast (types ++ u ∷ []) (pos 0) t h in
    let e = ty.result ∙ given_type types u many in
    let d = subst (λ x. IsTrue (can_cast x (second (types ++ u ∷ [])))) (same_first types u many)
    ty.defined in (
      (many, subst (λ x. IsTrue (can_cast (first types) x)) (sym ty.result) d),
      subst HasWidth
          (sym e) w,
    )

pub may_round : (u : StreamType) → HasWidth u → MayHave O.Round (pos 0) (u ∷ []) 1
may_round u w types t many ws h =
    let ty = typing_sound O.Round (types ++ u ∷ []) (pos 0) t h in
    let e = ty.result ∙ given_type types u many in
    let d = subst (λ x. IsTrue (can_cast x (second (types ++ u ∷ [])))) (same_first types u many)
    ty.defined in (
      (many, subst (λ x. IsTrue (can_cast (first types) x)) (sym ty.result) d),
      subst HasWidth
          (sym e) w,
    )
