-- The waits of a node rise by few advances each.
use Rattle.std.proofs.Common.{◌≡◌, ℕ, zero, suc, ◌+◌, ◌<◌, ◌≤◌, ◌^◌, List, [], ◌∷◌, get_or, refl, subst, arith}
use Rattle.std.specs.Prelude.{All, Contains}
use Rattle.std.specs.List.Sorted.{IsStrictlyIncreasing}
use Rattle.std.proofs.lemmas.List.Elements.{Contains-get_or}
use Rattle.std.proofs.lemmas.List.Kept.{AllPairs-from_increasing}
use Rattle.cycle_find.specs.Constraints.{Numbers}
use Rattle.stream_graph.specs.declared.node.Node.{Node}
use Rattle.kernel_layout.specs.Waits.{AreWaits, IsReadBehind}
use Rattle.kernel_stages.specs.Numbers.{differences, AreRising}

pub rest_rises : (s : ℕ) (ss : List ℕ) → IsStrictlyIncreasing (s ∷ ss) → IsStrictlyIncreasing ss
rest_rises s ss r k lt =
    let P : ℕ → Type 0 = λ n. get_or ss k 0 < get_or (s ∷ ss) n 0 in
    let e : suc k + 1 ≡ suc (k + 1) = omega arith in
    subst P e (r (suc k) (omega (arith, lt)))

-- the first number is below all later ones
pub first_least : (s : ℕ) (ss : List ℕ) → IsStrictlyIncreasing (s ∷ ss) → (x : ℕ) → Contains ss x → s < x
first_least s ss up x h =
    let k = h.0 in
    let lt = h.1 in
    let p = AllPairs-from_increasing (s ∷ ss) up 0 (suc k) x (omega arith) (omega (arith, lt)) in
    subst (λ y. s < y) h.2 p

pub first_at_most : (s : ℕ) (ss : List ℕ) → IsStrictlyIncreasing (s ∷ ss) → (x : ℕ) → Contains (s ∷ ss) x → s ≤ x
first_at_most s ss up x (zero, lt, e) = omega (arith, e)
first_at_most s ss up x (suc k, lt, e) = let f = first_least s ss up x (k, omega (arith, lt), e) in omega (arith, f)

-- numbers that are at most 2^28 don't differ by more
near : (prior : ℕ) (numbers : List ℕ) → ((x : ℕ) → Contains numbers x → x ≤ 2 ^ 28) → All (λ d. d ≤ 2 ^ 28) (differences prior numbers)
near prior [] most k d lt = absurd (omega (arith, lt))
near prior (s ∷ ss) most zero d lt = let m = most s (0, omega arith, refl) in omega (arith, m)
near prior (s ∷ ss) most (suc k) d lt =
    near s ss (λ x c. most x (suc c.0, (let l = c.1 in omega (arith, l)), c.2)) k d (omega (arith, lt))

-- the waits of a node none of whose words is read late
pub rising : (nodes : List Node) (ticks : ℕ → ℕ) (s : Numbers) (u : ℕ) (waits : List ℕ)
    → AreWaits nodes ticks s u waits
    → ((b : ℕ) → IsReadBehind nodes s u b → b ≤ ticks u + 2 ^ 28) → AreRising waits
rising nodes ticks s u waits a late = record {
  rising = a.rising;
  positive = λ k d lt. ((a.each (get_or waits k d)).0 (Contains-get_or waits k d lt)).0;
  near = near 0 waits (λ x c. let q = late (ticks u + x) ((a.each x).0 c).1 in omega (arith, q));
}
