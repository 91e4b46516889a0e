-- A net that has a part of a counter's word counts too.
use Rattle.std.proofs.Common.{
  ◌≡◌,
  ℕ,
  zero,
  suc,
  ◌+◌,
  ◌-◌,
  ◌^◌,
  ◌≤◌,
  Bool,
  true,
  false,
  cond,
  ◌&&◌,
  eqb,
  leb,
  List,
  [],
  ◌∷◌,
  Option,
  Some,
  None,
  refl,
  ap,
  ◌∙◌,
  subst,
  arith,
}
use Rattle.rtl_ir.specs.declared.design.Module.{Module}
use Rattle.rtl_ir.specs.Value.{Family, Contents}
use Rattle.rtl_ir.specs.Grow.{Holds}
use Rattle.rtl_delays.specs.Steps.{Steps}
use Rattle.rtl_delays.specs.Delays.{IsWord, Delays, IsTap, Shows, of_net}
use Rattle.kernel_refinement.specs.States.{Counts, IsCounter}

both_true : (a b : Bool) → a ≡ true → b ≡ true → a && b ≡ true
both_true true true e f = refl
both_true true false e f = f
both_true false b e f = e

is_at_most : (a b : ℕ) → a ≤ b → leb a b ≡ true
is_at_most a b h = grind (arith, h)

module _ (m : Module) (run reset from tap to time : ℕ) (word other part : ℕ → ℕ)
    (shows : (c : Contents) (f : Family) → Holds m c f → f to ≡ part (f tap)) (same : (t : ℕ) → part (word t) ≡ other t) where
  -- the words of the counter by the number of advances, where anything is said of them
  abbrev spoken : ℕ → Option ℕ
  spoken p = cond (leb time p && leb p (2 ^ 47)) (Some (word (p - time))) None

  spoken_is : (p : ℕ) → time ≤ p → p ≤ 2 ^ 47 → spoken p ≡ Some (word (p - time))
  spoken_is p h k =
      ap (λ b. cond b (Some (word (p - time))) None)
      (both_true (leb time p) (leb p (2 ^ 47)) (is_at_most time p h) (is_at_most p (2 ^ 47) k))

  -- a word that is the counter's where anything is said of it
  is_spoken : (p x : ℕ) → (time ≤ p → p ≤ 2 ^ 47 → x ≡ word (p - time)) → IsWord (spoken p) x
  is_spoken p x h = by_tests (leb time p) refl (leb p (2 ^ 47)) refl
    where
      by_tests : (a : Bool) → leb time p ≡ a → (b : Bool) → leb p (2 ^ 47) ≡ b
          → IsWord (cond (a && b) (Some (word (p - time))) None) x
      by_tests true e true f = h (grind (arith, e)) (grind (arith, f))
      by_tests true e false f = tt
      by_tests false e b f = tt

  late_runs : (d p : ℕ) (c : Contents) (vs : List Family) → Steps m c vs → Counts run from time word p vs → Delays run (of_net from) tap spoken d p vs
      → Counts run to (time + d) other p vs
  late_runs d p c [] s counts delays = tt
  late_runs d p c (v ∷ vs) s counts delays = (
    λ later most.
        let early : d ≤ p = omega (arith, later) in
        let begun : time ≤ p - d = omega (arith, later) in
        let few : p - d ≤ 2 ^ 47 = omega (arith, most) in
        let is : v tap ≡ word ((p - d) - time) = subst (λ o. IsWord o (v tap)) (spoken_is (p - d) begun few) (delays.0 early) in
        let tick : (p - d) - time ≡ p - (time + d) = omega arith in
        shows c v s.1.0.holds ∙ ap part is ∙ same ((p - d) - time) ∙ ap other tick,
    late_runs d (cond (eqb (v run) 1) (suc p) p) s.0 vs s.1.1 counts.1 (delays.1 (λ on. is_spoken p (v from) counts.0)),
  )

  now_runs : Shows m (of_net from) tap → (p : ℕ) (c : Contents) (vs : List Family) → Steps m c vs → Counts run from time word p vs → Counts run to (time + 0) other p vs
  now_runs e p c [] s counts = tt
  now_runs e p c (v ∷ vs) s counts = (
    λ later most.
        let begun : time ≤ p = omega (arith, later) in
        let tick : p - time ≡ p - (time + 0) = omega arith in
        shows c v s.1.0.holds ∙ ap part (e c v s.1.0.holds) ∙ ap part (counts.0 begun most) ∙ same (p - time) ∙ ap other tick,
    now_runs e (cond (eqb (v run) 1) (suc p) p) s.0 vs s.1.1 counts.1,
  )

pub parts_count : (m : Module) (run reset from tap to time late : ℕ) (word other part : ℕ → ℕ) → IsCounter m run reset from time word
    → IsTap m run reset (of_net from) tap late → ((c : Contents) (f : Family) → Holds m c f → f to ≡ part (f tap)) → ((t : ℕ) → part (word t) ≡ other t)
    → IsCounter m run reset to (time + late) other
parts_count m run reset from tap to time zero word other part counter behind shows same c v vs s e none =
    now_runs m run reset from tap to time word other part shows same behind 0 s.0 vs s.1.1 (counter c v vs s e none)
parts_count m run reset from tap to time (suc d) word other part counter behind shows same c v vs s e none =
    late_runs m run reset from tap to time word other part shows same (suc d) 0 s.0 vs s.1.1 (counter c v vs s e none)
    (behind (spoken m run reset from tap to time word other part shows same) c v vs s e none)
