-- The names that a growing module gives are names, and tell the numbers that they have.
use Rattle.std.proofs.Common.{◌≡◌, ℕ, ◌+◌, ◌%◌, ◌<◌, ◌^◌, ◌∷◌, [], List, refl, sym, ap, ◌∙◌, arith}
use Rattle.std.specs.Prelude.{codes, Bool, true, false, ◌&&◌, ◌||◌, nat_eq, bytes_eq}
use Rattle.std.specs.List.{list_all}
use Rattle.std.specs.Fmt.{decimal}
use Rattle.std.specs.Str.Parse.{digits_value}
use Rattle.std.proofs.lemmas.Fmt.{decimal_by_steps, decimal_is_IsNumeral}
use Rattle.std.proofs.lemmas.List.Folds.{list_all-append}
use Rattle.std.proofs.lemmas.Bool.Decides.{nat_tests}
use Rattle.rtl_ir.specs.Names.{is_digit, begins_name, continues_name, is_name}
use Rattle.rtl_build.specs.Wires.{wire_name}
use Rattle.rtl_delays.specs.Names.{register_name, memory_name}
use Rattle.rtl_delays.specs.Partial.{IsOwnName, is_own_name}
use Rattle.rtl_delays.specs.Partial.IsOwnName.{OfWire, OfRegister, OfPosition}
use Rattle.rtl_delays.proofs.Added.{first_byte}

both : (a b : Bool) → (a && b) ≡ true → (a ≡ true) × (b ≡ true)
both true b h = (refl, h)
both false b h = absurd (cc)

digit_is : (n : ℕ) → n < 10 → is_digit (48 + n) ≡ true
digit_is n h = grind (arith, nat_tests)

pub digits_are : (n : ℕ) → n < 2 ^ 64 → list_all is_digit (decimal n) ≡ true
digits_are n h =
    decimal_by_steps (λ n ds. list_all is_digit ds ≡ true)
    (λ n lt. rw (digit_is n lt) refl)
    (λ n ds ge all. list_all-append is_digit ds ((48 + n % 10) ∷ []) ∙ ap (λ b. b && list_all is_digit ((48 + n % 10) ∷ [])) all ∙ rw (digit_is (n % 10) (omega arith)) refl)
    n h

digit_continues : (d : ℕ) → is_digit d ≡ true → continues_name d ≡ true
digit_continues d h = rw h (any_or (begins_name d) (nat_eq d 36))
  where
    any_or : (a c : Bool) → (a || true || c) ≡ true
    any_or true c = refl
    any_or false c = refl

pub digits_continue : (ds : List ℕ) → list_all is_digit ds ≡ true → list_all continues_name ds ≡ true
digits_continue [] h = refl
digits_continue (d ∷ ds) h =
    let parts = both (is_digit d) (list_all is_digit ds) h in
    rw (digit_continues d parts.0, digits_continue ds parts.1) refl

-- digits are no letters
no_letter : (ds cs : List ℕ) (c : ℕ) → 57 < c → list_all is_digit ds ≡ true → bytes_eq ds (c ∷ cs) ≡ false
no_letter [] cs c lt h = refl
no_letter (d ∷ ds) cs c lt h =
    let digit = (both (is_digit d) (list_all is_digit ds) h).0 in
    let other : nat_eq d c ≡ false = grind (arith, nat_tests) in
    rw other refl

pub wire_named : (n : ℕ) → n < 2 ^ 64 → is_name (wire_name n) ≡ true
wire_named n h =
    let digits = digits_are n h in
    rw (digits_continue (decimal n) digits, no_letter (decimal n) (codes "re") 105 (omega arith) digits) refl

pub register_named : (n : ℕ) → n < 2 ^ 64 → is_name (register_name n) ≡ true
register_named n h =
    let digits = digits_are n h in
    rw (digits_continue (decimal n) digits, no_letter (decimal n) (codes "g") 101 (omega arith) digits) refl

pub memory_named : (n : ℕ) → n < 2 ^ 64 → is_name (memory_name n) ≡ true
memory_named n h =
    let digits = digits_are n h in
    rw (digits_continue (decimal n) digits, no_letter (decimal n) (codes "dule") 111 (omega arith) digits) refl

pub own_named : (k : ℕ) (name : List ℕ) → k < 2 ^ 64 → IsOwnName k name → is_name name ≡ true
own_named k name h (OfWire e) = ap is_name e ∙ wire_named k h
own_named k name h (OfRegister e) = ap is_name e ∙ register_named k h
own_named k name h (OfPosition e) = ap is_name e

-- ---- a port's name is none of these

either : (b : Bool) → b ≡ true → (c : Bool) → b || c ≡ true
either b h c = ap (λ x. x || c) h

pub memory_own : (k : ℕ) (name : List ℕ) → k < 2 ^ 64 → name ≡ memory_name k → is_own_name name ≡ true
memory_own k name h e = ap is_own_name e ∙ either (list_all is_digit (decimal k)) (digits_are k h) _

pub own_is : (k : ℕ) (name : List ℕ) → k < 2 ^ 64 → IsOwnName k name → is_own_name name ≡ true
own_is k name h (OfWire e) = ap is_own_name e ∙ either (list_all is_digit (decimal k)) (digits_are k h) _
own_is k name h (OfRegister e) = ap is_own_name e ∙ either (list_all is_digit (decimal k)) (digits_are k h) _
own_is k name h (OfPosition e) = ap is_own_name e

-- ---- the number that a name has

abbrev rest : List ℕ → List ℕ
rest [] = []
rest (b ∷ bs) = bs

told : (k : ℕ) → k < 2 ^ 64 → digits_value 10 (decimal k) ≡ k
told k h = (decimal_is_IsNumeral k h).1

same_number : (j k : ℕ) (ds : List ℕ) → j < 2 ^ 64 → k < 2 ^ 64 → ds ≡ decimal j → ds ≡ decimal k → j ≡ k
same_number j k ds h i e f = sym (told j h) ∙ ap (digits_value 10) (sym e ∙ f) ∙ told k i

pub memory_number : (j k : ℕ) (name : List ℕ) → j < 2 ^ 64 → k < 2 ^ 64 → name ≡ memory_name j → name ≡ memory_name k → j ≡ k
memory_number j k name h i e f = same_number j k (rest name) h i (ap rest e) (ap rest f)

pub memory_other : (j k : ℕ) (name : List ℕ) → IsOwnName j name → name ≡ memory_name k → ⊥
memory_other j k name (OfWire e) f = let g : 119 ≡ 109 = ap first_byte (sym e ∙ f) in absurd (omega (arith, g))
memory_other j k name (OfRegister e) f = let g : 114 ≡ 109 = ap first_byte (sym e ∙ f) in absurd (omega (arith, g))
memory_other j k name (OfPosition e) f = let g : 112 ≡ 109 = ap first_byte (sym e ∙ f) in absurd (omega (arith, g))

pub own_number : (j k : ℕ) (name : List ℕ) → j < 2 ^ 64 → k < 2 ^ 64 → IsOwnName j name → IsOwnName k name → (name ≡ codes "position" → j ≡ k) → j ≡ k
own_number j k name h i (OfWire e) (OfWire f) p = same_number j k (rest name) h i (ap rest e) (ap rest f)
own_number j k name h i (OfWire e) (OfRegister f) p = same_number j k (rest name) h i (ap rest e) (ap rest f)
own_number j k name h i (OfWire e) (OfPosition f) p = p f
own_number j k name h i (OfRegister e) (OfWire f) p = same_number j k (rest name) h i (ap rest e) (ap rest f)
own_number j k name h i (OfRegister e) (OfRegister f) p = same_number j k (rest name) h i (ap rest e) (ap rest f)
own_number j k name h i (OfRegister e) (OfPosition f) p = p f
own_number j k name h i (OfPosition e) f p = p e
