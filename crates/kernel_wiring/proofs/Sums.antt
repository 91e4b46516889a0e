-- Sums over the first numbers.
use Rattle.std.proofs.Common.{◌≡◌, ⊎_elim, ℕ, zero, suc, ◌+◌, ◌*◌, ◌<◌, ◌≤◌, ◌∙◌, Bool, true, false, ◌||◌, List, [], ◌∷◌, length, get_or, refl, ap, arith}
use Rattle.std.specs.Prelude.{◌==◌, if◌then◌else◌, sum_by}
use Rattle.std.proofs.Math.Nat.{mul-add}
use Rattle.std.proofs.lemmas.Bool.{eq-eqb, ne_eqb, cases_eq}
use Rattle.std.proofs.lemmas.List.Sums.{sum_by-cons}

-- the sum of the first so many numbers
abbrev pub sum_below : (ℕ → ℕ) → ℕ → ℕ
sum_below f zero = 0
sum_below f (suc n) = sum_below f n + f n

-- the first one and those behind it
pub sum_front : (f : ℕ → ℕ) (n : ℕ) → sum_below f (suc n) ≡ f 0 + sum_below (λ k. f (suc k)) n
sum_front f zero = omega arith
sum_front f (suc n) = omega (arith, sum_front f n)

-- numbers that are each at most another one are together at most the others
pub sum_at_most : (f g : ℕ → ℕ) (n : ℕ) → ((k : ℕ) → k < n → f k ≤ g k) → sum_below f n ≤ sum_below g n
sum_at_most f g zero h = omega arith
sum_at_most f g (suc n) h =
    let before = sum_at_most f g n (λ k lt. h k (omega (arith, lt))) in
    let last = h n (omega arith) in
    omega (arith, before, last)

-- a sum of sums of two is the sum of the two sums
pub sum_of_two : (f g : ℕ → ℕ) (n : ℕ) → sum_below (λ k. f k + g k) n ≡ sum_below f n + sum_below g n
sum_of_two f g zero = refl
sum_of_two f g (suc n) = omega (arith, sum_of_two f g n)

-- the sum of one number so many times is their product
pub sum_of_same : (m n : ℕ) → sum_below (λ k. m) n ≡ m * n
sum_of_same m zero = omega arith
sum_of_same m (suc n) =
    let before = sum_of_same m n in
    let product = mul-add m n 1 in
    omega (arith, before, product)

-- a sum over a list is that of its places
pub sum_of_list : {X : Type 0} (f : X → ℕ) (d : X) (xs : List X)
    → sum_below (λ k. f (get_or xs k d)) (length xs) ≡ sum_by f xs
sum_of_list f d [] = refl
sum_of_list f d (x ∷ xs) =
    let front = sum_front (λ k. f (get_or (x ∷ xs) k d)) (length xs) in
    let behind = sum_of_list f d xs in
    let whole = sum_by-cons f x xs in
    omega (arith, front, behind, whole)

-- ---- one number among them

-- 1 at this number and 0 at any other one
abbrev pub one_at : ℕ → ℕ → ℕ
one_at v k = if v == k then 1 else 0

one_at_most : (b : Bool) → (if b then 1 else 0) ≤ 1
one_at_most true = omega arith
one_at_most false = omega arith

none_at : (v k : ℕ) → (v ≡ k → ⊥) → one_at v k ≡ 0
none_at v k apart = ap (λ b. if b then 1 else 0) (ne_eqb v k apart)

-- the sum is 0 before this number
none_before : (v n : ℕ) → n ≤ v → sum_below (one_at v) n ≡ 0
none_before v zero h = refl
none_before v (suc n) h =
    let before = none_before v n (omega (arith, h)) in
    let here = none_at v n (λ e. absurd (omega (arith, h, e))) in
    omega (arith, before, here)

-- and at most 1 everywhere
pub one_among : (v n : ℕ) → sum_below (one_at v) n ≤ 1
one_among v zero = omega arith
one_among v (suc n) = ⊎_elim
    (λ (e : v ≡ n).
    let before = none_before v n (omega (arith, e)) in
    let here = one_at_most (v == n) in
    omega (arith, before, here))
    (λ (apart : v ≡ n → ⊥).
    let before = one_among v n in
    let here = none_at v n apart in
    omega (arith, before, here))
    (cases_eq v n)

-- ---- numbers that differ

-- numbers that are the same have the same sum
sum_same : (f g : ℕ → ℕ) (n : ℕ) → ((k : ℕ) → k < n → f k ≡ g k) → sum_below f n ≡ sum_below g n
sum_same f g zero h = refl
sum_same f g (suc n) h =
    let before = sum_same f g n (λ k lt. h k (omega (arith, lt))) in
    let last = h n (omega arith) in
    omega (arith, before, last)

-- two sums whose numbers differ at one place alone differ as the numbers there
sum_point : (f g : ℕ → ℕ) (x n : ℕ) → x < n → ((u : ℕ) → (x ≡ u → ⊥) → f u ≡ g u)
    → sum_below f n + g x ≡ sum_below g n + f x
sum_point f g x zero lt h = absurd (omega (arith, lt))
sum_point f g x (suc n) lt h = ⊎_elim
    (λ (e : x ≡ n).
    let before = sum_same f g n (λ k l. h k (λ q. absurd (omega (arith, l, e, q)))) in
    let here = ap f e in
    let there = ap g e in
    omega (arith, before, here, there))
    (λ (apart : x ≡ n → ⊥).
    let before = sum_point f g x n (omega (arith, lt, apart)) h in
    let last = h n apart in
    omega (arith, before, last))
    (cases_eq x n)

-- whether a number is one of the first so many
abbrev is_among : (ℕ → ℕ) → ℕ → ℕ → Bool
is_among g zero u = false
is_among g (suc k) u = (g k == u) || is_among g k u

none_among : (g : ℕ → ℕ) (k u : ℕ) → ((j : ℕ) → j < k → g j ≡ u → ⊥) → is_among g k u ≡ false
none_among g zero u h = refl
none_among g (suc k) u h =
    ap (λ b. b || is_among g k u) (ne_eqb (g k) u (h k (omega arith)))
    ∙ none_among g k u (λ j lt. h j (omega (arith, lt)))

-- the number at u if u is one of the first so many, and else 0
abbrev taken : (ℕ → ℕ) → (ℕ → ℕ) → ℕ → ℕ → ℕ
taken f g k u = if is_among g k u then f u else 0

-- a sum over numbers that differ is that of the numbers at their places
sum_taken : (f g : ℕ → ℕ) (n k : ℕ) → ((j : ℕ) → j < k → g j < n)
    → ((i j : ℕ) → i < j → j < k → g i ≡ g j → ⊥)
    → sum_below (λ j. f (g j)) k ≡ sum_below (taken f g k) n
sum_taken f g n zero below apart = let none : sum_below (taken f g zero) n ≡ 0 * n = sum_of_same 0 n in omega (arith, none)
sum_taken f g n (suc k) below apart =
    let before = sum_taken f g n k (λ j lt. below j (omega (arith, lt))) (λ i j lt l. apart i j lt (omega (arith, l))) in
    let point = sum_point (taken f g (suc k)) (taken f g k) (g k) n (below k (omega arith))
    (λ u other. ap (λ b. if b || is_among g k u then f u else 0) (ne_eqb (g k) u other)) in
    let here : taken f g (suc k) (g k) ≡ f (g k) =
    ap (λ b. if b || is_among g k (g k) then f (g k) else 0) (eq-eqb (g k) (g k) refl) in
    let new : taken f g k (g k) ≡ 0 =
    ap (λ b. if b then f (g k) else 0) (none_among g k (g k) (λ j lt e. apart j k lt (omega arith) e)) in
    omega (arith, before, point, here, new)

taken_at_most : (b : Bool) (x : ℕ) → (if b then x else 0) ≤ x
taken_at_most true x = omega arith
taken_at_most false x = omega arith

-- so it is at most the sum over all numbers below the bound
pub sum_apart : (f g : ℕ → ℕ) (n k : ℕ) → ((j : ℕ) → j < k → g j < n)
    → ((i j : ℕ) → i < j → j < k → g i ≡ g j → ⊥)
    → sum_below (λ j. f (g j)) k ≤ sum_below f n
sum_apart f g n k below apart =
    let same = sum_taken f g n k below apart in
    let most = sum_at_most (taken f g k) f n (λ u lt. taken_at_most (is_among g k u) (f u)) in
    omega (arith, same, most)
