-- The counters that calls give to chains.
use Rattle.std.proofs.Common.{◌≡◌, ◌+◌, ◌≤◌, ◌&&◌, ◌∷◌, ◌++◌, ◌∙◌}
use Rattle.std.proofs.Common.{ℕ, zero, suc, Bool, true, false, cond, eqb, ltb, List, [], length, refl, ap, subst, arith, inl, inr, length-append}
use Rattle.std.specs.Prelude.{All, Some, slice_get}
use Rattle.std.proofs.lemmas.List.Elements.{All-nil, All-cons, All-append}
use Rattle.counter_chains.specs.declared.digits.CounterDigit.{CounterDigit}
use Rattle.counter_chains.specs.Digits.{IsDigit}
use Rattle.counter_chains.specs.Chains.{bits_of}
use Rattle.kernel_calls.specs.declared.call.Call.{Call}
use Rattle.kernel_calls.specs.declared.call.Call.TheVariants as C
use Rattle.kernel_calls.specs.Calls.{count_of, bits_in, Makes}
use Rattle.stream_graph.specs.Nodes.{digits_to, place_of}
use Rattle.stream_graph.specs.Steps.{WereLawful}
use Rattle.stream_graph.proofs.Facts.{makes_older, makes_cases, made_below}

-- ---- the digits of a chain

pub digits_lawful : (so_far : List Call) (n : ℕ) → WereLawful so_far → All IsDigit (digits_to so_far n)
digits_lawful [] n w = All-nil IsDigit
digits_lawful (C.ChainDigit chain d ∷ older) n w =
    All-append IsDigit (digits_to older n) _ (digits_lawful older n w.1) (by_test (eqb chain n) w.0.1)
  where
    by_test : (b : Bool) → IsDigit d → All IsDigit (cond b (d ∷ []) [])
    by_test true h = All-cons IsDigit d [] h (All-nil IsDigit)
    by_test false h = All-nil IsDigit
digits_lawful (call ∷ older) n w = digits_lawful older n w.1

bits_both : (xs ys : List CounterDigit) → bits_of (xs ++ ys) ≡ bits_of xs + bits_of ys
bits_both [] ys = omega arith
bits_both (x ∷ xs) ys = let e = bits_both xs ys in omega (arith, e)

pub chain_bits : (so_far : List Call) (n : ℕ) → bits_in so_far n ≡ bits_of (digits_to so_far n)
chain_bits [] n = refl
chain_bits (C.ChainDigit chain d ∷ older) n = by_test (eqb chain n) (chain_bits older n)
  where
    by_test : (b : Bool) → bits_in older n ≡ bits_of (digits_to older n)
        → bits_in older n + (elim b [ true ↦ d.bits | false ↦ 0 ]) ≡ bits_of (digits_to older n ++ cond b (d ∷ []) [])
    by_test true e = let s = bits_both (digits_to older n) (d ∷ []) in omega (arith, e, s)
    by_test false e = let s = bits_both (digits_to older n) [] in omega (arith, e, s)
chain_bits (call ∷ older) n = let e = chain_bits older n in omega (arith, e)

-- ---- the place of a digit

places_all : (so_far : List Call) (chain n : ℕ) → count_of so_far ≤ n → place_of so_far chain n ≡ length (digits_to so_far chain)
places_all [] chain n h = refl
places_all (C.ChainDigit other d ∷ older) chain n h =
    by_test (eqb other chain) (ltb (count_of older) n) (grind (arith, h)) (places_all older chain n (omega (arith, h)))
  where
    by_test : (b t : Bool) → t ≡ true → place_of older chain n ≡ length (digits_to older chain)
        → place_of older chain n + cond (b && t) 1 0 ≡ length (digits_to older chain ++ cond b (d ∷ []) [])
    by_test true true e p = omega (arith, p, length-append (digits_to older chain) (d ∷ []))
    by_test true false e p = absurd (cc)
    by_test false t e p = omega (arith, p, length-append {A = CounterDigit} (digits_to older chain) [])
places_all (call ∷ older) chain n h = places_all older chain n (omega (arith, h))

get_left : {A : Type 0} (xs ys : List A) (i : ℕ) (a : A) → slice_get xs i ≡ Some a → slice_get (xs ++ ys) i ≡ Some a
get_left [] ys i a e = absurd (cc)
get_left (x ∷ xs) ys zero a e = e
get_left (x ∷ xs) ys (suc i) a e = get_left xs ys i a e

get_last : {A : Type 0} (xs : List A) (i : ℕ) (a : A) → i ≡ length xs → slice_get (xs ++ a ∷ []) i ≡ Some a
get_last [] zero a e = refl
get_last [] (suc i) a e = absurd (omega arith)
get_last (x ∷ xs) zero a e = absurd (omega arith)
get_last (x ∷ xs) (suc i) a e = get_last xs i a (omega arith)

pub digit_at_place : (so_far : List Call) (chain n : ℕ) (d : CounterDigit) → Makes so_far n (C.ChainDigit chain d)
    → slice_get (digits_to so_far chain) (place_of so_far chain n) ≡ Some d
digit_at_place [] chain n d h = absurd h
digit_at_place (C.ChainDigit other e ∷ older) chain n d (inl p) =
    let same : other ≡ chain = cc in
    let given : e ≡ d = cc in
    let at = p.0 in
    by_test (eqb other chain) (ltb (count_of older) n) (grind (arith, same)) (grind (arith, at)) given (places_all older chain n (omega (arith, at)))
  where
    by_test : (b t : Bool) → b ≡ true → t ≡ false → e ≡ d → place_of older chain n ≡ length (digits_to older chain)
        → slice_get (digits_to older chain ++ cond b (e ∷ []) []) (place_of older chain n + cond (b && t) 1 0) ≡ Some d
    by_test true false is later given place =
        let at : place_of older chain n + 0 ≡ length (digits_to older chain) = omega (arith, place) in
        get_last (digits_to older chain) (place_of older chain n + 0) e at ∙ ap Some given
    by_test true true is later given place = absurd (cc)
    by_test false t is later given place = absurd (cc)
digit_at_place (C.ChainDigit other e ∷ older) chain n d (inr h) =
    let lt = made_below older n (C.ChainDigit chain d) h in
    by_test (eqb other chain) (ltb (count_of older) n) (grind (arith, lt)) (digit_at_place older chain n d h)
  where
    by_test : (b t : Bool) → t ≡ false → slice_get (digits_to older chain) (place_of older chain n) ≡ Some d
        → slice_get (digits_to older chain ++ cond b (e ∷ []) []) (place_of older chain n + cond (b && t) 1 0) ≡ Some d
    by_test true false later known =
        let same : place_of older chain n ≡ place_of older chain n + 0 = omega arith in
        subst (λ k. slice_get (digits_to older chain ++ e ∷ []) k ≡ Some d) same (get_left (digits_to older chain) (e ∷ []) (place_of older chain n) d known)
    by_test true true later known = absurd (cc)
    by_test false t later known =
        let same : place_of older chain n ≡ place_of older chain n + 0 = omega arith in
        subst (λ k. slice_get (digits_to older chain ++ []) k ≡ Some d) same (get_left (digits_to older chain) [] (place_of older chain n) d known)
digit_at_place (call ∷ older) chain n d h = elim (makes_cases call older n (C.ChainDigit chain d) h)
    [ inl p ↦ (let q = p.2 in absurd (cc)) | inr g ↦ digit_at_place older chain n d g ]

pub chain_made : (so_far : List Call) (n chain : ℕ) (d : CounterDigit) → WereLawful so_far → Makes so_far n (C.ChainDigit chain d)
    → Makes so_far chain C.Chain
chain_made [] n chain d w h = absurd h
chain_made (C.ChainDigit other e ∷ older) n chain d w (inl p) =
    let same : other ≡ chain = cc in
    inr (subst (λ k. Makes older k C.Chain) same w.0.0)
chain_made (C.ChainDigit other e ∷ older) n chain d w (inr h) = inr (chain_made older n chain d w.1 h)
chain_made (call ∷ older) n chain d w h = elim (makes_cases call older n (C.ChainDigit chain d) h)
    [ inl p ↦ (let q = p.2 in absurd (cc)) | inr g ↦ makes_older call older chain C.Chain (chain_made older n chain d w.1 g) ]
