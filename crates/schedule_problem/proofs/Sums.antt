-- Sums over numbers below a bound.
use Rattle.std.proofs.Common.{◌≡◌, ◌≢◌, ℕ, zero, suc, ◌+◌, ◌*◌, ◌<◌, eqb, cond, ℤ, pos, ◌+ℤ◌, ◌-ℤ◌, ◌*ℤ◌, ◌≤ℤ◌, ⊎_elim, refl, sym, ap, ◌∙◌, arith, add-one}
use borrow.Author.Differences.{up, down, sum_is_lem}
use Rattle.std.proofs.lemmas.Int.{ints}
use Rattle.std.proofs.lemmas.Bool.{cases_eq, eq-eqb}
use Rattle.cycle_find.specs.Constraints.{Numbers}
use Rattle.schedule_problem.specs.Flow.{total, amount_at}

pub mul-add : (a b c : ℤ) → a *ℤ (b +ℤ c) ≡ (a *ℤ b +ℤ a *ℤ c)
mul-add a b c = omega (arith, ints, ap (λ k. up a * k) (sum_is_lem b c), ap (λ k. down a * k) (sum_is_lem b c))

pub mul-sub : (a b c : ℤ) → a *ℤ (b -ℤ c) ≡ (a *ℤ b -ℤ a *ℤ c)
mul-sub a b c = omega (arith, ints, mul-add a (b -ℤ c) c, ap (λ z. a *ℤ z) (let e : ((b -ℤ c) +ℤ c) ≡ b = omega (arith, ints) in e))

pub total-more : (n : ℕ) (g : ℕ → ℤ) → total (n + 1) g ≡ (total n g +ℤ g n)
total-more n g = rw add-one

pub total-same : (n : ℕ) (g h : ℕ → ℤ) → ((k : ℕ) → k < n → g k ≡ h k) → total n g ≡ total n h
total-same zero g h e = refl
total-same (suc n) g h e = omega (arith, ints, total-same n g h (λ k l. e k (omega arith)), e n (omega arith))

pub total-add : (n : ℕ) (g h : ℕ → ℤ) → total n (λ k. g k +ℤ h k) ≡ (total n g +ℤ total n h)
total-add zero g h = refl
total-add (suc n) g h = omega (arith, ints, total-add n g h)

pub total-sub : (n : ℕ) (g h : ℕ → ℤ) → total n (λ k. g k -ℤ h k) ≡ (total n g -ℤ total n h)
total-sub zero g h = refl
total-sub (suc n) g h = omega (arith, ints, total-sub n g h)

pub total-le : (n : ℕ) (g h : ℕ → ℤ) → ((k : ℕ) → k < n → g k ≤ℤ h k) → total n g ≤ℤ total n h
total-le zero g h e = omega (arith, ints)
total-le (suc n) g h e = omega (arith, ints, total-le n g h (λ k l. e k (omega arith)), e n (omega arith))

pub total-none : (n : ℕ) (g : ℕ → ℤ) → ((k : ℕ) → k < n → g k ≡ pos 0) → total n g ≡ pos 0
total-none zero g e = refl
total-none (suc n) g e = omega (arith, ints, total-none n g (λ k l. e k (omega arith)), e n (omega arith))

-- the sum of what differs at one number
pub total-change : (n i : ℕ) (g h : ℕ → ℤ) → i < n → ((k : ℕ) → k ≢ i → h k ≡ g k) → total n h ≡ ((total n g +ℤ h i) -ℤ g i)
total-change zero i g h l e = absurd (omega arith)
total-change (suc n) i g h l e = ⊎_elim
    (λ (q : n ≡ i).
    let same = total-same n h g (λ k m. e k (λ r. absurd (omega (arith, r, q, m)))) in
    let a : h n ≡ h i = ap h q in
    let b : g n ≡ g i = ap g q in
    omega (arith, ints, same, a, b))
    (λ (d : n ≢ i).
    let l' : i < n = omega (arith, d, l) in
    omega (arith, ints, total-change n i g h l' e, e n d))
    (cases_eq n i)

pub total-one : (n i : ℕ) (g : ℕ → ℤ) → i < n → ((k : ℕ) → k ≢ i → g k ≡ pos 0) → total n g ≡ g i
total-one n i g l e =
    let none : total n (λ k. pos 0) ≡ pos 0 = total-none n (λ k. pos 0) (λ k m. refl) in
    omega (arith, ints, none, total-change n i (λ k. pos 0) g l e)

pub picked : (a b : ℕ) (y z : ℤ) → a ≡ b → cond (eqb a b) y z ≡ y
picked a b y z e = ap (λ t. cond t y z) (eq-eqb a b e)

pub passed : {X : Type 0} (a b : ℕ) (y z : X) → a ≢ b → cond (eqb a b) y z ≡ z
passed a b y z d = grind (arith, d)

-- amounts at nodes, times the nodes' numbers, are the amounts times the numbers at their places
pub spread : (nodes n : ℕ) (place amount : ℕ → ℕ) (x : Numbers)
    → ((k : ℕ) → k < n → place k < nodes)
    → total nodes (λ v. x v *ℤ amount_at n place amount v) ≡ total n
    (λ k. pos (amount k) *ℤ x (place k))
spread nodes zero place amount x h = total-none nodes (λ v. x v *ℤ pos 0) (λ v l. omega (arith, ints))
spread nodes (suc n) place amount x h =
    let one : ℕ → ℤ = λ v. cond (eqb (place n) v) (pos (amount n)) (pos 0) in
    let before : ℕ → ℤ = λ v. x v *ℤ amount_at n place amount v in
    let now : ℕ → ℤ = λ v. x v *ℤ one v in
    let a = total-same nodes (λ v. x v *ℤ (amount_at n place amount v +ℤ one v)) (λ v. before v +ℤ now v) (λ v l. mul-add (x v) (amount_at n place amount v) (one v)) in
    let b = total-add nodes before now in
    let c : total nodes now ≡ now (place n) = total-one nodes (place n) now (h n (omega arith)) (λ v d.
    let z : one v ≡ pos 0 = passed (place n) v (pos (amount n)) (pos 0) (λ q. d (sym q)) in
    ap (λ y. x v *ℤ y) z ∙ omega (arith, ints)) in
    let y : one (place n) ≡ pos (amount n) = picked (place n) (place n) (pos (amount n)) (pos 0) refl in
    let d : now (place n) ≡ (pos (amount n) *ℤ x (place n)) = ap (λ z. x (place n) *ℤ z) y ∙ omega (arith, ints) in
    let r = spread nodes n place amount x (λ k l. h k (omega arith)) in
    omega (arith, ints, a, b, c, d, r)
