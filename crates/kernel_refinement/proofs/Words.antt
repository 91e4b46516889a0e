-- Counts of enabled ticks, and words by number.
use Rattle.std.proofs.Common.{
  ◌≡◌,
  ℕ,
  zero,
  suc,
  ◌+◌,
  ◌-◌,
  ◌<◌,
  ◌≤◌,
  Bool,
  true,
  false,
  cond,
  ◌&&◌,
  leb,
  ltb,
  List,
  [],
  ◌∷◌,
  ◌++◌,
  length,
  Option,
  Some,
  refl,
  sym,
  ap,
  ◌∙◌,
  subst,
  arith,
  length-append,
}
use Rattle.std.specs.Prelude.{slice_get}
use Rattle.std.proofs.lemmas.Bool.{false≢true, leb-true, ltb-true, le-leb, lt-ltb}
use Rattle.stream_equations.specs.Equations.{count_before, held}
use Rattle.stream_equations.specs.Words.{words_before}
use Rattle.kernel_control.specs.Refines.{is_active}
use Rattle.kernel_refinement.specs.States.{kept}

pub both : (a b : Bool) → a && b ≡ true → (a ≡ true) × (b ≡ true)
both true b h = (refl, h)
both false b h = absurd (false≢true h)

pub active_from : (time ticks p : ℕ) → is_active time ticks p ≡ true → (time ≤ p) × (p < time + ticks)
active_from time ticks p h = let q = both (leb time p) (ltb p (time + ticks)) h in (leb-true time p q.0, ltb-true p (time + ticks) q.1)

pub active_to : (time ticks p : ℕ) → time ≤ p → p < time + ticks → is_active time ticks p ≡ true
active_to time ticks p h k = ap (λ b. b && ltb p (time + ticks)) (le-leb time p h) ∙ lt-ltb p (time + ticks) k

module _ (test : ℕ → Bool) (word : ℕ → Option ℕ) where
  length_words : (n : ℕ) → length (words_before test word n) ≡ count_before test n
  length_words zero = refl
  length_words (suc n) = by_test (test n) (length_words n)
    where
      by_test : (b : Bool) → length (words_before test word n) ≡ count_before test n
          → length (cond b (words_before test word n ++ word n ∷ []) (words_before test word n)) ≡ cond b (suc (count_before test n)) (count_before test n)
      by_test true q = length-append (words_before test word n) (word n ∷ []) ∙ omega arith
      by_test false q = q

get_left : {A : Type 0} (xs ys : List A) (n : ℕ) (x : A) → slice_get xs n ≡ Some x → slice_get (xs ++ ys) n ≡ Some x
get_left [] ys n x h = cc
get_left (y ∷ xs) ys zero x h = h
get_left (y ∷ xs) ys (suc n) x h = get_left xs ys n x h

get_last : {A : Type 0} (xs : List A) (x : A) → slice_get (xs ++ x ∷ []) (length xs) ≡ Some x
get_last [] x = refl
get_last (y ∷ xs) x = get_last xs x

-- the word of an enabled tick stands at the count of those before it
pub word_at : (test : ℕ → Bool) (word : ℕ → Option ℕ) (n t : ℕ) → t < n → test t ≡ true
    → slice_get (words_before test word n) (count_before test t) ≡ Some (word t)
word_at test word zero t h e = absurd (omega arith)
word_at test word (suc n) t h e = by_place (leb n t) refl (λ lt. word_at test word n t lt e)
  where
    later : (b : Bool) → slice_get (words_before test word n) (count_before test t) ≡ Some (word t)
        → slice_get (cond b (words_before test word n ++ word n ∷ []) (words_before test word n)) (count_before test t) ≡ Some (word t)
    later true q = get_left (words_before test word n) (word n ∷ []) (count_before test t) (word t) q
    later false q = q

    last : slice_get (cond (test t) (words_before test word t ++ word t ∷ []) (words_before test word t)) (count_before test t) ≡ Some (word t)
    last = ap (λ b. slice_get (cond b (words_before test word t ++ word t ∷ []) (words_before test word t)) (count_before test t)) e
        ∙ ap (slice_get (words_before test word t ++ word t ∷ [])) (sym (length_words test word t))
        ∙ get_last (words_before test word t) (word t)

    by_place : (b : Bool) → leb n t ≡ b → (t < n → slice_get (words_before test word n) (count_before test t) ≡ Some (word t))
        → slice_get (words_before test word (suc n)) (count_before test t) ≡ Some (word t)
    by_place true g ih =
        let le = leb-true n t g in
        let q : t ≡ n = omega arith in
        subst (λ k. slice_get (words_before test word (suc k)) (count_before test t) ≡ Some (word t)) q last
    by_place false g ih = later (test n) (ih (grind (arith, g)))

-- a port is due as often before a position as it is enabled before the tick there
pub count_due : (due test : ℕ → Bool) (s ticks t : ℕ)
    → ((p : ℕ) → due p ≡ (leb s p && ltb p (s + ticks)) && test (p - s)) → t ≤ ticks → count_before due (s + t) ≡ count_before test t
count_due due test s ticks zero h le = none s (omega arith)
  where
    none : (p : ℕ) → p ≤ s → count_before due (p + 0) ≡ 0
    none zero k = refl
    none (suc p) k =
        let e : due (p + 0) ≡ false = h (p + 0) ∙ grind (arith, k) in
        ap (λ n. count_before due n) (let q : suc p + 0 ≡ suc (p + 0) = omega arith in q)
        ∙ ap (λ b. cond b (suc (count_before due (p + 0))) (count_before due (p + 0))) e ∙ none p (omega arith)
count_due due test s ticks (suc t) h le =
    let e : due (s + t) ≡ test t = h (s + t)
    ∙ ap (λ b. (b && ltb (s + t) (s + ticks)) && test (s + t - s)) (le-leb s (s + t) (omega arith))
    ∙ ap (λ b. b && test (s + t - s)) (lt-ltb (s + t) (s + ticks) (omega arith))
    ∙ ap test (let q : s + t - s ≡ t = omega arith in q) in
    let q : s + suc t ≡ suc (s + t) = omega arith in
    ap (λ n. count_before due n) q
    ∙ ap (λ b. cond b (suc (count_before due (s + t))) (count_before due (s + t))) e
    ∙ ap (λ n. cond (test t) (suc n) n) (count_due due test s ticks t h (omega arith))

-- ---- words that are kept

pub held_now : (test : ℕ → Bool) (word : ℕ → Option ℕ) (t : ℕ) → test t ≡ true → held test word t ≡ word t
held_now test word zero e = ap (λ b. cond b (word 0) (Some 0)) e
held_now test word (suc t) e = ap (λ b. cond b (word (suc t)) (held test word t)) e

-- what is kept before a position is what is held up to the tick before the one there
module _ (due test : ℕ → Bool) (at word : ℕ → Option ℕ) (s ticks : ℕ) (h : (p : ℕ) → due p ≡ (leb s p && ltb p (s + ticks)) && test (p - s))
    (w : (p : ℕ) → at p ≡ word (p - s))
  where
    kept_none : (p : ℕ) → p ≤ s → kept due at p ≡ Some 0
    kept_none zero k = refl
    kept_none (suc p) k =
        let e : due p ≡ false = h p ∙ grind (arith, k) in
        ap (λ b. cond b (at p) (kept due at p)) e ∙ kept_none p (omega arith)

    due_on : (t : ℕ) → t < ticks → due (s + t) ≡ test t
    due_on t lt = h (s + t)
        ∙ ap (λ b. (b && ltb (s + t) (s + ticks)) && test (s + t - s)) (le-leb s (s + t) (omega arith))
        ∙ ap (λ b. b && test (s + t - s)) (lt-ltb (s + t) (s + ticks) (omega arith))
        ∙ ap test (let q : s + t - s ≡ t = omega arith in q)

    kept_more : (t : ℕ) → t < ticks → kept due at (s + suc t) ≡ cond (test t) (word t) (kept due at (s + t))
    kept_more t lt =
        let q : s + suc t ≡ suc (s + t) = omega arith in
        ap (kept due at) q ∙ ap (λ b. cond b (at (s + t)) (kept due at (s + t))) (due_on t lt)
        ∙ ap (λ x. cond (test t) x (kept due at (s + t))) (w (s + t) ∙ ap word (let z : s + t - s ≡ t = omega arith in z))

    kept_start : kept due at (s + zero) ≡ Some 0
    kept_start = kept_none (s + zero) (omega arith)

    kept_after : (t : ℕ) → t < ticks → kept due at (s + suc t) ≡ held test word t
    kept_after zero lt = kept_more zero lt ∙ ap (λ x. cond (test zero) (word zero) x) kept_start
    kept_after (suc t) lt = kept_more (suc t) lt ∙ ap (λ x. cond (test (suc t)) (word (suc t)) x) (kept_after t (omega arith))

pub kept_held : (due test : ℕ → Bool) (at word : ℕ → Option ℕ) (s ticks t : ℕ) → ((p : ℕ) → due p ≡ (leb s p && ltb p (s + ticks)) && test (p - s))
    → ((p : ℕ) → at p ≡ word (p - s)) → t < ticks → test t ≡ false → kept due at (s + t) ≡ held test word t
kept_held due test at word s ticks zero h w lt e =
    kept_start due test at word s ticks h w ∙ sym (ap (λ b. cond b (word zero) (Some 0)) e)
kept_held due test at word s ticks (suc t) h w lt e =
    kept_after due test at word s ticks h w t (omega arith) ∙ sym (ap (λ b. cond b (word (suc t)) (held test word t)) e)
