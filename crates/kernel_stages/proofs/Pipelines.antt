-- The numbers from 1 up to a latency, as the stages of a chain: it has a register for each.
use Rattle.std.proofs.Common.{◌≡◌, ℕ, zero, suc, ◌+◌, ◌-◌, ◌<◌, ◌≤◌, ◌^◌, List, [], ◌∷◌, ◌++◌, length, get_or, refl, sym, ap, ◌∙◌, subst, arith}
use Rattle.std.specs.Prelude.{All, Bool, nat_lt, if◌then◌else◌, false, sum_by}
use Rattle.std.specs.List.Sorted.{IsStrictlyIncreasing}
use Rattle.std.specs.Int.Count.{leading_of_zero}
use Rattle.std.proofs.lemmas.List.Sums.{sum_by-cons}
use Rattle.std.proofs.lemmas.Bool.Decides.{nat_tests}
use Rattle.kernel_stages.specs.Numbers.{up_to, differences, last_from, rings_from, place_bits, pointer_bits, AreRising}

-- so many numbers after `prior`
abbrev after : ℕ → ℕ → List ℕ
after prior zero = []
after prior (suc n) = suc prior ∷ after (suc prior) n

after_more : (prior n : ℕ) → after prior (suc n) ≡ after prior n ++ suc (prior + n) ∷ []
after_more prior zero = let e : suc prior ≡ suc (prior + 0) = omega arith in ap (λ k. k ∷ []) e
after_more prior (suc n) =
    let e : suc (suc prior + n) ≡ suc (prior + suc n) = omega arith in
    ap (λ l. suc prior ∷ l) (after_more (suc prior) n) ∙ ap (λ k. suc prior ∷ (after (suc prior) n ++ k ∷ [])) e

up_to_after : (n : ℕ) → up_to n ≡ after 0 n
up_to_after zero = refl
up_to_after (suc n) =
    let e : suc n ≡ suc (0 + n) = omega arith in
    ap (λ l. l ++ suc n ∷ []) (up_to_after n) ∙ ap (λ k. after 0 n ++ k ∷ []) e ∙ sym (after_more 0 n)

after_length : (prior n : ℕ) → length (after prior n) ≡ n
after_length prior zero = refl
after_length prior (suc n) = ap suc (after_length (suc prior) n)

after_at : (prior n k d : ℕ) → k < n → get_or (after prior n) k d ≡ suc (prior + k)
after_at prior zero k d lt = absurd (omega (arith, lt))
after_at prior (suc n) zero d lt = omega arith
after_at prior (suc n) (suc k) d lt = let e = after_at (suc prior) n k d (omega (arith, lt)) in omega (arith, e)

after_differ : (prior n : ℕ) → All (λ advances. advances ≤ 2 ^ 28) (differences prior (after prior n))
after_differ prior zero k d lt = absurd (omega (arith, lt))
after_differ prior (suc n) zero d lt = omega arith
after_differ prior (suc n) (suc k) d lt = after_differ (suc prior) n k d (omega (arith, lt))

after_last : (prior n : ℕ) → last_from prior (after prior n) ≡ prior + n
after_last prior zero = omega arith
after_last prior (suc n) = let e = after_last (suc prior) n in omega (arith, e)

no_ring : (prior : ℕ) → nat_lt (prior + 1) (suc prior) ≡ false
no_ring prior = grind (arith, nat_tests)

after_rings : (prior n : ℕ) → rings_from prior (after prior n) ≡ 0
after_rings prior zero = refl
after_rings prior (suc n) =
    let rest = after_rings (suc prior) n in
    let f : Bool → ℕ = λ b. if b then 1 else 0 in
    let here = ap f (no_ring prior) in
    omega (arith, rest, here)

one_place : (prior : ℕ) → place_bits (suc prior - prior) ≡ 0
one_place prior =
    let one : suc prior - prior ≡ 1 = omega arith in
    let z = leading_of_zero 32 in
    ap place_bits one ∙ omega (arith, z)

after_pointers : (prior n : ℕ) → sum_by place_bits (differences prior (after prior n)) ≡ 0
after_pointers prior zero = refl
after_pointers prior (suc n) =
    let all = sum_by-cons place_bits (suc prior - prior) (differences (suc prior) (after (suc prior) n)) in
    let here = one_place prior in
    let rest = after_pointers (suc prior) n in
    omega (arith, all, here, rest)

-- ---- of a latency

pub registers_length : (n : ℕ) → length (up_to n) ≡ n
registers_length n = ap length (up_to_after n) ∙ after_length 0 n

pub registers_rise : (n : ℕ) → AreRising (up_to n)
registers_rise n = subst AreRising (sym (up_to_after n)) (record { rising = rises; positive = above; near = after_differ 0 n })
  where
    rises : IsStrictlyIncreasing (after 0 n)
    rises k lt =
        let size = after_length 0 n in
        let a = after_at 0 n k 0 (omega (arith, lt, size)) in
        let b = after_at 0 n (k + 1) 0 (omega (arith, lt, size)) in
        omega (arith, a, b)

    above : All (λ stage. 0 < stage) (after 0 n)
    above k d lt = let size = after_length 0 n in let a = after_at 0 n k d (omega (arith, lt, size)) in omega (arith, a)

pub registers_last : (n : ℕ) → last_from 0 (up_to n) ≡ n
registers_last n = let e = after_last 0 n in ap (last_from 0) (up_to_after n) ∙ omega (arith, e)

pub registers_rings : (n : ℕ) → rings_from 0 (up_to n) ≡ 0
registers_rings n = ap (rings_from 0) (up_to_after n) ∙ after_rings 0 n

pub registers_pointers : (n : ℕ) → pointer_bits (up_to n) ≡ 0
registers_pointers n = ap pointer_bits (up_to_after n) ∙ after_pointers 0 n
