-- The network of a problem at its start.
use Rattle.std.proofs.Common.{◌≡◌, ⊎_elim, ℕ, zero, suc, ◌<◌, ◌≤◌, eqb, cond, Bool, true, false, ℤ, pos, negsuc, ◌*ℤ◌, ◌≤ℤ◌, List, length, refl, sym, ap, ◌∙◌, arith, ◌^◌}
use Rattle.std.proofs.lemmas.Int.{ints}
use Rattle.std.proofs.Common.{get_or, replicate}
use Rattle.std.proofs.lemmas.Bool.{cases_lt}
use Rattle.std.proofs.lemmas.List.{get_or-replicate, get_or_past, length-replicate}
use Rattle.cycle_find.specs.Constraints.{EndsInRange, numbers_of, start_of, end_of}
use Rattle.schedule_problem.specs.declared.problem.Problem.{Problem}
use Rattle.schedule_problem.specs.Flow.{amount_at, Flow, flow_of, surplus, excess, sent, taken, from_of, to_of, weight_of, TermsInRange}
use Rattle.schedule_flow.specs.Network.{weights, unsent, above_zero, IsKept}
use Rattle.schedule_problem.proofs.Sums.{total-same, total-le, total-none, spread}

cond_zero : (b : Bool) → cond b (pos 0) (pos 0) ≡ pos 0
cond_zero true = refl
cond_zero false = refl

cond_up : (b : Bool) (w : ℕ) → pos 0 ≤ℤ cond b (pos w) (pos 0)
cond_up true w = omega (arith, ints)
cond_up false w = omega (arith, ints)

amount_up : (n : ℕ) (place amount : ℕ → ℕ) (v : ℕ) → pos 0 ≤ℤ amount_at n place amount v
amount_up zero place amount v = omega (arith, ints)
amount_up (suc n) place amount v = omega (arith, ints, amount_up n place amount v, cond_up (eqb (place n) v) (amount n))

above_le : (z b : ℤ) → z ≤ℤ b → pos 0 ≤ℤ b → above_zero z ≤ℤ b
above_le (pos n) b h k = h
above_le (negsuc n) b h k = k

pub still : (p : Problem) (f : Flow) → ((j : ℕ) → f j ≡ 0) → (v : ℕ) → excess p f v ≡ surplus p v
still p f none v =
    let m = length p.arcs.list in
    let s : sent p f v ≡ pos 0 = total-none m (λ k. cond (eqb (start_of p.arcs.list k) v)
    (pos (f k)) (pos 0)) (λ k l. ap (λ n. cond (eqb (start_of p.arcs.list k) v) (pos n)
    (pos 0)) (none k) ∙ cond_zero (eqb (start_of p.arcs.list k) v)) in
    let t : taken p f v ≡ pos 0 = total-none m (λ k. cond (eqb (end_of p.arcs.list k) v)
    (pos (f k)) (pos 0)) (λ k l. ap (λ n. cond (eqb (end_of p.arcs.list k) v) (pos n)
    (pos 0)) (none k) ∙ cond_zero (eqb (end_of p.arcs.list k) v)) in
    omega (arith, ints, s, t)

pub unsent_at_first : (p : Problem) (f : Flow) → TermsInRange p.arcs.nodes p.terms → ((j : ℕ) → f j ≡ 0) → unsent p f ≤ℤ weights p
unsent_at_first p f terms none =
    let n = p.arcs.nodes in
    let k = length p.terms in
    let B : ℕ → ℤ = amount_at k (from_of p.terms) (weight_of p.terms) in
    let E : ℕ → ℤ = amount_at k (to_of p.terms) (weight_of p.terms) in
    let le = total-le n (λ v. above_zero (excess p f v)) (λ v. pos 1 *ℤ B v) (λ v l.
    let e = still p f none v in
    let b = amount_up k (from_of p.terms) (weight_of p.terms) v in
    let u = amount_up k (to_of p.terms) (weight_of p.terms) v in
    let h = above_le (excess p f v) (B v) (omega (arith, ints, e, u)) b in
    omega (arith, ints, h)) in
    let all = spread n k (from_of p.terms) (weight_of p.terms) (λ v. pos 1) (λ t l. (terms t l).0) in
    let same = total-same k (λ t. pos (weight_of p.terms t) *ℤ pos 1) (λ t. pos (weight_of p.terms t)) (λ t l. omega (arith, ints)) in
    omega (arith, ints, le, all, same)

pub kept_at_first : (p : Problem) (flow : List ℕ) (rest : List ℤ)
    → EndsInRange p.arcs.nodes p.arcs.list → TermsInRange p.arcs.nodes p.terms
    → length flow ≡ length p.arcs.list → length rest ≡ p.arcs.nodes
    → ((j : ℕ) → flow_of flow j ≡ 0) → ((v : ℕ) → numbers_of rest v ≡ surplus p v)
    → weights p ≤ℤ pos (2 ^ 52) → IsKept p flow rest 0 0
kept_at_first p flow rest ends terms arcs nodes none is light = record {
  arcs = arcs;
  nodes = nodes;
  ends = ends;
  light = light;
  excesses = λ v. is v ∙ sym (still p (flow_of flow) none v);
  carried = λ j. omega (arith, none j);
  counted = omega arith;
  budget = omega (arith, ints, unsent_at_first p (flow_of flow) terms none);
}

pub all_zero : (n j : ℕ) → let zero' : ℕ = 0 in get_or (replicate n zero') j zero' ≡ zero'
all_zero n j = ⊎_elim
    (λ (l : j < n). get_or-replicate n j 0 0 l)
    (λ (g : n ≤ j). get_or_past (replicate n 0) j 0 (omega (arith, g, length-replicate {A = ℕ} n 0)))
    (cases_lt j n)
