-- Numbers that are put into a set one by one, and the items of a row of marked places.
use Rattle.std.proofs.Common.{◌≡◌, ◌≢◌, ℕ, ◌+◌, ◌*◌, ◌/◌, ◌%◌, ◌^◌, ◌<◌, ◌≤◌, Bool, true, false, List, length, get_or, set, Some, sym, ap, ◌∙◌, arith, ◌⊎◌, inl, inr, bit_or, w64, nat_eq, ◌↔◌}
use Rattle.std.specs.Prelude.{slice_get, if◌then◌else◌, Option, unwrap_or}
use Rattle.std.specs.Int.{bit_at}
use Rattle.std.proofs.lemmas.Bool.{cases_eq, cases_lt, eq-eqb, false≢true}
use Rattle.std.proofs.lemmas.Nat.{mod_below}
use Rattle.std.proofs.lemmas.Nat.Bits.{bit_at_set_same, bit_at_set_other}
use Rattle.std.proofs.lemmas.List.{get_or-set_same, get_or-set_other}
use Rattle.std.proofs.lemmas.List.FromFn.{get_or-map-range_with_len, length-map-range_with_len}
use Rattle.std.proofs.lemmas.Option.{slice_get-get_or, get_or_from_slice_get, unwrap_or-slice_get}
use Rattle.digraph.specs.Rows.{is_marked, picked}

-- the word that gets the bit of a number
abbrev pub with_bit : ℕ → ℕ → ℕ
with_bit word n = bit_or word (1 * 2 ^ (n % 64) % 2 ^ 64)

pub marked_now : (words : List ℕ) (n word : ℕ) → n / 64 < length words → is_marked (set words (n / 64) (with_bit word n)) n ≡ true
marked_now words n word lt =
    let here = get_or-set_same words (n / 64) (with_bit word n) 0 lt in
    eq-eqb _ 1 (ap (λ (x : ℕ). bit_at x (n % 64)) here ∙ bit_at_set_same w64 word (n % 64) (mod_below n 64 (omega arith)))

pub marked_beside : (words : List ℕ) (n word m : ℕ) → n / 64 < length words → word ≡ get_or words (n / 64) 0 → m ≢ n → is_marked (set words (n / 64) (with_bit word n)) m ≡ is_marked words m
marked_beside words n word m lt is ne = ap (λ (x : ℕ). nat_eq x 1) (by_word (cases_eq (m / 64) (n / 64)))
  where
    by_word : (m / 64 ≡ n / 64) ⊎ (m / 64 ≡ n / 64 → ⊥) → bit_at (get_or (set words (n / 64) (with_bit word n)) (m / 64) 0) (m % 64) ≡ bit_at (get_or words (m / 64) 0) (m % 64)
    by_word (inl q) =
        let here : get_or (set words (n / 64) (with_bit word n)) (m / 64) 0
        ≡ with_bit word n = ap (λ (k : ℕ). get_or (set words (n / 64)
        (with_bit word n)) k 0) q ∙ get_or-set_same words (n / 64) (with_bit word n) 0 lt in
        let apart : m % 64 ≢ n % 64 = λ e. ne (omega (arith, q, e)) in
        let other = bit_at_set_other w64 word (n % 64) (mod_below n 64 (omega arith)) (m % 64) apart in
        ap (λ (x : ℕ). bit_at x (m % 64)) here ∙ other ∙ ap (λ (x : ℕ). bit_at x (m % 64)) (is ∙ ap (λ (k : ℕ). get_or words k 0) (sym q))
    by_word (inr q) = ap (λ (x : ℕ). bit_at x (m % 64)) (get_or-set_other words (n / 64) (m / 64) (with_bit word n) 0 q)

-- the set has the first numbers of a list alone
abbrev pub AreFirst : List ℕ → ℕ → List ℕ → Type 0
AreFirst numbers count words = (n : ℕ) → (is_marked words n ≡ true) ↔ ((i : ℕ) × (i < count) × (slice_get numbers i ≡ Some n))

pub none_first : (numbers words : List ℕ) → ((n : ℕ) → is_marked words n ≡ false) → AreFirst numbers 0 words
none_first numbers words none n = (λ m. absurd (false≢true (sym (none n) ∙ m)), λ w. absurd (omega (arith, w.1)))

pub first_more : (numbers words new : List ℕ) (count x : ℕ) → slice_get numbers count ≡ Some x
    → is_marked new x ≡ true → ((n : ℕ) → n ≢ x → is_marked new n ≡ is_marked words n)
    → AreFirst numbers count words → AreFirst numbers (count + 1) new
first_more numbers words new count x at marked others h n = (into (cases_eq n x), λ w. out w (cases_lt w.0 count))
  where
    into : (n ≡ x) ⊎ (n ≡ x → ⊥) → is_marked new n ≡ true → (i : ℕ) × (i < count + 1) × (slice_get numbers i ≡ Some n)
    into (inl q) m = (count, omega arith, at ∙ ap (λ (y : ℕ). Some y) (sym q))
    into (inr ne) m = let w = (h n).0 (sym (others n ne) ∙ m) in (w.0, omega (arith, w.1), w.2)

    here : n ≡ x → is_marked new n ≡ true
    here q = ap (is_marked new) q ∙ marked

    beside : ((i : ℕ) × (i < count) × (slice_get numbers i ≡ Some n)) → (n ≡ x) ⊎ (n ≡ x → ⊥) → is_marked new n ≡ true
    beside w (inl q) = here q
    beside w (inr ne) = others n ne ∙ (h n).1 w

    out : (w : (i : ℕ) × (i < count + 1) × (slice_get numbers i ≡ Some n)) → (w.0 < count) ⊎ (count ≤ w.0) → is_marked new n ≡ true
    out w (inl lt) = beside (w.0, lt, w.2) (cases_eq n x)
    out w (inr ge) =
        let q : w.0 ≡ count = omega (arith, w.1) in
        here (sym (get_or_from_slice_get numbers w.0 n 0 w.2) ∙ ap (λ (k : ℕ). get_or numbers k 0) q ∙ get_or_from_slice_get numbers count x 0 at)

-- the item of a row at a place
pub picked_at : {A : Type 0} (words : List ℕ) (items : List A) (other : A) (len place : ℕ)
    → place < len → slice_get (picked words items other len) place ≡ Some
    (if is_marked words place then get_or items place other else other)
picked_at {A} words items other len place lt =
    let f : ℕ → A = λ n. if is_marked words n then get_or items n other else other in
    let size = length-map-range_with_len f 0 len in
    slice_get-get_or (picked words items other len) place other (omega (arith, size)) ∙ ap (λ (x : A). Some x) (get_or-map-range_with_len f 0 len place place other lt (omega arith))

pub picked_other : {A : Type 0} (words : List ℕ) (items : List A) (other : A) (len place : ℕ)
    → place < len → is_marked words place ≡ false
    → slice_get (picked words items other len) place ≡ Some other
picked_other words items other len place lt clear = picked_at words items other len place lt ∙ ap (λ (b : Bool). Some (if b then get_or items place other else other)) clear

pub picked_one : {A : Type 0} (words : List ℕ) (items : List A) (other : A) (len place : ℕ)
    → place < len → is_marked words place ≡ true → (there : Option A)
    → there ≡ slice_get items place
    → slice_get (picked words items other len) place ≡ Some (unwrap_or there other)
picked_one words items other len place lt marked there is =
    picked_at words items other len place lt
    ∙ ap (λ (b : Bool). Some (if b then get_or items place other else other)) marked
    ∙ ap (λ x. Some x) (sym (unwrap_or-slice_get items place other) ∙ ap (λ o. unwrap_or o other) (sym is))

pub picked_length : {A : Type 0} (words : List ℕ) (items : List A) (other : A) (len : ℕ) → length (picked words items other len) ≡ len
picked_length {A} words items other len =
    let f : ℕ → A = λ n. if is_marked words n then get_or items n other else other in
    length-map-range_with_len f 0 len
