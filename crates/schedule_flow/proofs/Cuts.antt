-- Why a node with a surplus reaches one in want, why raising the reached nodes keeps times legal, and what a finished flow shows.
use Rattle.std.proofs.Common.{◌≡◌, ◌≢◌, ℕ, zero, suc, ◌<◌, ◌≤◌, min, ℤ, pos, ◌-ℤ◌, ◌*ℤ◌, ◌≤ℤ◌, ◌<ℤ◌, ⊎_elim, List, length, get_or, refl, sym, ap, ◌∙◌, arith}
use Rattle.std.proofs.lemmas.Int.{ints}
use Rattle.std.proofs.lemmas.Bool.{cases_eq}
use Rattle.cycle_find.specs.Constraints.{Numbers, Solves, EndsInRange, start_of, end_of, need_of}
use Rattle.schedule_problem.specs.declared.problem.Problem.{Problem}
use Rattle.schedule_problem.specs.declared.problem.Term.{Term}
use Rattle.schedule_problem.specs.Flow.{total, Flow, excess, IsFlow, cost_of, value_of, term_cost, from_of, to_of, weight_of, term_at, TermsInRange}
use Rattle.schedule_problem.specs.Optimum.{HasArc, HasRoute}
use Rattle.schedule_flow.specs.Network.{IsTight}
use Rattle.schedule_problem.proofs.Sums.{total-same, total-le, total-none}
use Rattle.schedule_problem.proofs.Duality.{pull_of, gap, pull_is_cost, pos-mul-le}

-- 1 at the marked nodes, 0 at the others
abbrev pub mark : List ℕ → Numbers
mark place = λ v. pos (min 1 (get_or place v 0))

-- no arc leads out of the marked nodes, and no flow comes in
pub record IsClosed (p : Problem) (f : Flow) (place : List ℕ) : Type 0 where
  pub forwards : (j : ℕ) → j < length p.arcs.list → 0 < get_or place (start_of p.arcs.list j) 0 → 0 < get_or place (end_of p.arcs.list j) 0
  pub backwards : (j : ℕ) → j < length p.arcs.list → 0 < f j → 0 < get_or place (end_of p.arcs.list j) 0 → 0 < get_or place (start_of p.arcs.list j) 0

same_mark : (s e : ℕ) → (0 < s → 0 < e) → (0 < e → 0 < s) → min 1 e ≡ min 1 s
same_mark zero zero f g = refl
same_mark zero (suc e) f g = let h : 0 < 0 = g (omega arith) in absurd (omega (arith, h))
same_mark (suc s) zero f g = let h : 0 < 0 = f (omega arith) in absurd (omega (arith, h))
same_mark (suc s) (suc e) f g = omega arith

more_mark : (s e : ℕ) → (0 < s → 0 < e) → min 1 s ≤ min 1 e
more_mark zero e f = omega arith
more_mark (suc s) e f = omega (arith, f (omega arith))

along : (p : Problem) (f : Flow) (place : List ℕ) → IsClosed p f place → (a b : ℕ) → HasArc p.arcs.list a b → 0 < get_or place a 0 → 0 < get_or place b 0
along p f place c a b h up =
    let e : get_or place (start_of p.arcs.list h.0) 0 ≡ get_or place a 0 = ap (λ v. get_or place v 0) h.2 in
    let g : get_or place (end_of p.arcs.list h.0) 0 ≡ get_or place b 0 = ap (λ v. get_or place v 0) h.3 in
    omega (arith, g, c.forwards h.0 h.1 (omega (arith, e, up)))

routed : (p : Problem) (f : Flow) (place : List ℕ) → IsClosed p f place → (t : Term) → HasRoute p.arcs.list t → 0 < get_or place t.from 0 → 0 < get_or place t.to 0
routed p f place c t r up = ⊎_elim
    (λ (q : t.mid ≡ t.to). along p f place c t.from t.to (r.0 q) up)
    (λ (d : t.mid ≡ t.to → ⊥). let two = r.1 d in along p f place c t.mid t.to two.1 (along p f place c t.from t.mid two.0 up))
    (cases_eq t.mid t.to)

pub total-over : (n i : ℕ) (g : ℕ → ℤ) → i < n → ((k : ℕ) → k < n → pos 0 ≤ℤ g k) → g i ≤ℤ total n g
total-over zero i g l h = absurd (omega arith)
total-over (suc n) i g l h =
    let rest : pos 0 ≤ℤ total n g = omega (arith, ints, total-none n (λ k. pos 0) (λ k m. refl), total-le n (λ k. pos 0) g (λ k m. h k (omega arith))) in
    ⊎_elim
    (λ (q : i ≡ n). let e : g i ≡ g n = ap g q in omega (arith, ints, rest, e))
    (λ (d : i ≢ n). let l' : i < n = omega (arith, d, l) in omega (arith, ints, total-over n i g l' (λ k m. h k (omega arith)), h n (omega arith)))
    (cases_eq i n)

-- among closed nodes of which none is in want, none has a surplus
pub no_surplus : (p : Problem) (f : Flow) (place : List ℕ)
    → EndsInRange p.arcs.nodes p.arcs.list → TermsInRange p.arcs.nodes p.terms
    → ((t : ℕ) → t < length p.terms → HasRoute p.arcs.list (term_at p.terms t))
    → IsClosed p f place → ((v : ℕ) → v < p.arcs.nodes → 0 < get_or place v 0
    → pos 0 ≤ℤ excess p f v) → (s : ℕ) → s < p.arcs.nodes → 0 < get_or place s 0
    → pos 0 <ℤ excess p f s → ⊥
no_surplus p f place arcs terms routes c calm s in_range up more =
    let x = mark place in
    let still : total (length p.arcs.list) (pull_of p f x) ≡ pos 0 = total-none (length p.arcs.list) (pull_of p f x) (λ j l.
    ⊎_elim
    (λ (q : f j ≡ 0). ap (λ k. pos k *ℤ (x (end_of p.arcs.list j) -ℤ x (start_of p.arcs.list j))) q ∙ omega (arith, ints))
    (λ (d : f j ≢ 0).
    let carries : 0 < f j = omega (arith, d) in
    let e : (x (end_of p.arcs.list j) -ℤ x (start_of p.arcs.list j)) ≡ pos 0 = omega (
      arith,
      ints,
      same_mark (get_or place (start_of p.arcs.list j) 0)
          (get_or place (end_of p.arcs.list j) 0) (c.forwards j l) (c.backwards j l carries),
    ) in
    ap (λ z. pos (f j) *ℤ z) e ∙ omega (arith, ints))
    (cases_eq (f j) 0)) in
    let paid : total (length p.terms) (λ t. pos 0) ≤ℤ total (length p.terms) (term_cost p.terms x) = total-le (length p.terms) (λ t. pos 0) (term_cost p.terms x) (λ t l.
    let w = weight_of p.terms t in
    let r = routed p f place c (term_at p.terms t) (routes t l) in
    let up' : pos 0 ≤ℤ (x (to_of p.terms t) -ℤ x (from_of p.terms t)) = omega (arith, ints, more_mark (get_or place (from_of p.terms t) 0) (get_or place (to_of p.terms t) 0) r) in
    omega (arith, ints, pos-mul-le w (pos 0) (x (to_of p.terms t) -ℤ x (from_of p.terms t)) up')) in
    let zero_terms = total-none (length p.terms) (λ t. pos 0) (λ t l. refl) in
    let part : (x s *ℤ excess p f s) ≤ℤ total p.arcs.nodes (λ v. x v *ℤ excess p f v) = total-over p.arcs.nodes s (λ v. x v *ℤ excess p f v) in_range (λ v l.
    ⊎_elim
    (λ (q : get_or place v 0 ≡ 0). let e : x v ≡ pos 0 = ap (λ k. pos (min 1 k)) q in let g : (x v *ℤ excess p f v) ≡ (pos 0 *ℤ excess p f v) = ap (λ z. z *ℤ excess p f v) e in omega (arith, ints, g))
    (λ (d : get_or place v 0 ≢ 0).
    let e : x v ≡ pos 1 = ap pos (omega (arith, d)) in
    let g : (x v *ℤ excess p f v) ≡ (pos 1 *ℤ excess p f v) = ap (λ z. z *ℤ excess p f v) e in
    let h = calm v l (omega (arith, d)) in
    omega (arith, ints, g, h))
    (cases_eq (get_or place v 0) 0)) in
    let one : x s ≡ pos 1 = ap pos (omega (arith, up)) in
    let here : (x s *ℤ excess p f s) ≡ (pos 1 *ℤ excess p f s) = ap (λ z. z *ℤ excess p f s) one in
    omega (arith, ints, still, paid, zero_terms, part, here, more, gap p f x arcs terms)

-- tight times of a flow cost what it is worth
pub tight_equal : (p : Problem) (f : Flow) (x : Numbers) → EndsInRange p.arcs.nodes p.arcs.list → TermsInRange p.arcs.nodes p.terms → IsFlow p f → IsTight p x f → cost_of p x ≡ value_of p f
tight_equal p f x arcs terms flow tight =
    let m = length p.arcs.list in
    let same = total-same m (pull_of p f x) (λ j. pos (f j) *ℤ need_of p.arcs.list j) (λ j l. ⊎_elim
    (λ (q : f j ≡ 0).
    let a : pull_of p f x j ≡ pos 0 = ap (λ k. pos k *ℤ (x (end_of p.arcs.list j) -ℤ x (start_of p.arcs.list j))) q ∙ omega (arith, ints) in
    let b : (pos (f j) *ℤ need_of p.arcs.list j) ≡ pos 0 = ap (λ k. pos k *ℤ need_of p.arcs.list j) q ∙ omega (arith, ints) in
    a ∙ sym b)
    (λ (d : f j ≢ 0). ap (λ z. pos (f j) *ℤ z) (tight j l (omega (arith, d))))
    (cases_eq (f j) 0)) in
    omega (arith, ints, same, pull_is_cost p f x arcs terms flow)

pub total-equal : (n : ℕ) (g h : ℕ → ℤ) → ((k : ℕ) → k < n → g k ≤ℤ h k) → total n g ≡ total n h → (i : ℕ) → i < n → g i ≡ h i
total-equal zero g h le e i l = absurd (omega arith)
total-equal (suc n) g h le e i l =
    let below = total-le n g h (λ k m. le k (omega arith)) in
    let e' : total n g ≡ total n h = omega (arith, ints, below, le n (omega arith), e) in
    ⊎_elim
    (λ (q : i ≡ n). let a : g i ≡ g n = ap g q in let b : h i ≡ h n = ap h q in omega (arith, ints, a, b, e, e'))
    (λ (d : i ≢ n). total-equal n g h (λ k m. le k (omega arith)) e' i (omega (arith, d, l)))
    (cases_eq i n)

cancel : (n : ℕ) (a b : ℤ) → 0 < n → a ≤ℤ b → (pos n *ℤ a) ≡ (pos n *ℤ b) → a ≡ b
cancel zero a b h le e = absurd (omega arith)
cancel (suc n) a b h le e = omega (arith, ints, le, pos-mul-le n a b le, e)

-- legal times that cost what the flow is worth are tight
pub equal_tight : (p : Problem) (f : Flow) (y : Numbers) → EndsInRange p.arcs.nodes p.arcs.list
    → TermsInRange p.arcs.nodes p.terms → IsFlow p f → Solves y p.arcs.list
    → cost_of p y ≡ value_of p f → IsTight p y f
equal_tight p f y arcs terms flow legal equal j l carries =
    let m = length p.arcs.list in
    let worth : ℕ → ℤ = λ k. pos (f k) *ℤ need_of p.arcs.list k in
    let le : (k : ℕ) → k < m → worth k ≤ℤ pull_of p f y k = λ (k : ℕ) (h : k < m). pos-mul-le (f k) (need_of p.arcs.list k) (y (end_of p.arcs.list k) -ℤ y (start_of p.arcs.list k)) (legal k h) in
    let e : total m worth ≡ total m (pull_of p f y) = omega (arith, ints, equal, pull_is_cost p f y arcs terms flow) in
    sym (cancel (f j) (need_of p.arcs.list j) (y (end_of p.arcs.list j) -ℤ y (start_of p.arcs.list j)) carries (legal j l) (total-equal m worth (pull_of p f y) le e j l))
