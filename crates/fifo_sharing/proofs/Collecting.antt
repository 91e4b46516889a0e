-- The delays of each producer, one edge more.
use Rattle.std.proofs.Common.{
  ◌≡◌,
  ◌≢◌,
  ◌⊎◌,
  inl,
  inr,
  ⊎_elim,
  ℕ,
  ◌+◌,
  ◌*◌,
  ◌<◌,
  ◌≤◌,
  ◌^◌,
  pos,
  List,
  [],
  ◌∷◌,
  ◌++◌,
  length,
  get_or,
  set,
  sym,
  ap,
  ◌∙◌,
  subst,
  arith,
}
use Rattle.std.proofs.lemmas.Bool.{cases_eq}
use Rattle.std.proofs.lemmas.Int.{ints}
use Rattle.std.proofs.Math.Nat.{le-mul_of_pos_right}
use Rattle.std.proofs.lemmas.List.{get_or-set_same, get_or-set_other, get_or_default, length-set}
use Rattle.std.proofs.lemmas.List.Elements.{
  Contains-append_left,
  Contains-push,
  Contains-push_cases,
}
use Rattle.std.specs.Prelude.{Contains, ◌↔◌, unsigned_abs}
use Rattle.cycle_find.specs.declared.arcs.Arcs.{Arcs}
use Rattle.cycle_find.specs.Constraints.{Numbers, IsSolvable, need_of}
use Rattle.schedule_problem.specs.declared.problem.Problem.{Problem}
use Rattle.fifo_sharing.specs.Chains.{producer_of, delay_of}
use Rattle.fifo_sharing.specs.Delays.{AreDelays}
use Rattle.fifo_sharing.proofs.DelaysBelow.{IsDelayBelow, AreDelaysBelow}

pub below_more : (p : Problem) (x : Numbers) (n v e : ℕ) → IsDelayBelow p x n v e
    → IsDelayBelow p x (n + 1) v e
below_more p x n v e (j, low, edge, here, is, up) = (j, omega (arith, low), edge, here, is, up)

-- a delay below n + 1 is one below n, or that of edge n
pub below_cases : (p : Problem) (x : Numbers) (n v e : ℕ) → IsDelayBelow p x (n + 1) v e
    → IsDelayBelow p x n v e ⊎ ((producer_of p n ≡ v) × (delay_of p x n ≡ pos e) × (0 < e))
below_cases p x n v e (j, low, edge, here, is, up) = ⊎_elim
    (λ (q : j ≡ n). inr (ap (producer_of p) (sym q) ∙ here, ap (delay_of p x) (sym q) ∙ is, up))
    (λ (d : j ≢ n). inl (j, omega (arith, low, d), edge, here, is, up))
    (cases_eq j n)

-- an edge without delay adds nothing
pub none_collected : (p : Problem) (x : Numbers) (n d : ℕ) (delays : List (List ℕ))
    → AreDelaysBelow p x n delays → delay_of p x n ≡ pos d → d ≤ 0
    → AreDelaysBelow p x (n + 1) delays
none_collected p x n d delays old is zero v e = (
  λ h. below_more p x n v e ((old v e).0 h),
  λ h. ⊎_elim
      (λ (k : IsDelayBelow p x n v e). (old v e).1 k)
      (λ (k : (producer_of p n ≡ v) × (delay_of p x n ≡ pos e) × (0 < e)). absurd (omega (
        arith,
        ints,
        k.1,
        k.2,
        is,
        zero,
      )))
      (below_cases p x n v e h),
)

-- the list of the edge's producer has the delay besides
at_producer : (p : Problem) (x : Numbers) (n u d e : ℕ) (xs : List ℕ)
    → (Contains xs e ↔ IsDelayBelow p x n u e) → 2 * n < length p.arcs.list → producer_of p n ≡ u
    → delay_of p x n ≡ pos d → 0 < d → Contains (xs ++ d ∷ []) e ↔ IsDelayBelow p x (n + 1) u e
at_producer p x n u d e xs old edge here is up = (
  λ h. ⊎_elim
      (λ (k : Contains xs e). below_more p x n u e (old.0 k))
      (λ (q : d ≡ e). (n, omega arith, edge, here, is ∙ ap pos q, omega (arith, up, q)))
      (Contains-push_cases xs d e h),
  λ h. ⊎_elim
      (λ (k : IsDelayBelow p x n u e). Contains-append_left xs (d ∷ []) e (old.1 k))
      (λ (k : (producer_of p n ≡ u) × (delay_of p x n ≡ pos e) × (0 < e)).
      let q : d ≡ e = omega (arith, ints, k.1, is) in
      let P : ℕ → Type 0 = λ w. Contains (xs ++ d ∷ []) w in
      subst P q (Contains-push xs d))
      (below_cases p x n u e h),
)

-- the lists of other nodes stay
at_others : (p : Problem) (x : Numbers) (n u v e : ℕ) (ys : List ℕ)
    → (Contains ys e ↔ IsDelayBelow p x n v e) → producer_of p n ≡ u → v ≢ u
    → Contains ys e ↔ IsDelayBelow p x (n + 1) v e
at_others p x n u v e ys old here other = (
  λ h. below_more p x n v e (old.0 h),
  λ h. ⊎_elim
      (λ (k : IsDelayBelow p x n v e). old.1 k)
      (λ (k : (producer_of p n ≡ v) × (delay_of p x n ≡ pos e) × (0 < e)). absurd (other (sym k.0
      ∙ here)))
      (below_cases p x n v e h),
)

-- an edge with a delay adds it to the list of its producer
pub one_collected : (p : Problem) (x : Numbers) (n u d : ℕ) (delays : List (List ℕ))
    → AreDelaysBelow p x n delays → 2 * n < length p.arcs.list → u < length delays
    → producer_of p n ≡ u → delay_of p x n ≡ pos d → 0 < d
    → AreDelaysBelow p x (n + 1) (set delays u (get_or delays u [] ++ d ∷ []))
one_collected p x n u d delays old edge within here is up v e =
    let more = get_or delays u [] ++ d ∷ [] in
    let new = set delays u more in
    ⊎_elim
    (λ (q : v ≡ u).
    let P : ℕ → Type 0 = λ w. Contains (get_or new w []) e ↔ IsDelayBelow p x (n + 1) w e in
    let Q : List ℕ → Type 0 = λ ys. Contains ys e ↔ IsDelayBelow p x (n + 1) u e in
    subst P (sym q) (subst Q (sym (get_or-set_same delays u more [] within)) (at_producer p x n u d
    e (get_or delays u []) (old u e) edge here is up)))
    (λ (other : v ≢ u).
    let Q : List ℕ → Type 0 = λ ys. Contains ys e ↔ IsDelayBelow p x (n + 1) v e in
    subst Q (sym (get_or-set_other delays u v more [] other)) (at_others p x n u v e (get_or delays
    v []) (old v e) here other))
    (cases_eq v u)

-- the same of a list that was read, and written with the delay at its end
pub one_pushed : (p : Problem) (x : Numbers) (n u d : ℕ) (old new : List (List ℕ)) (got more : List
    ℕ) → AreDelaysBelow p x n old → 2 * n < length p.arcs.list → u < length old
    → producer_of p n ≡ u → delay_of p x n ≡ pos d → 0 < d → got ≡ get_or old u got
    → more ≡ got ++ d ∷ [] → new ≡ set old u more → (length new ≡ length old) × AreDelaysBelow p x
    (n + 1) new
one_pushed p x n u d old new got more below edge within here is up read pushed written =
    let e : more ≡ get_or old u [] ++ d ∷ [] = pushed ∙ ap (λ ys. ys ++ d ∷ []) (read
    ∙ get_or_default old u got [] within) in
    let f : new ≡ set old u (get_or old u [] ++ d ∷ []) = written ∙ ap (set old u) e in
    let P : List (List ℕ) → Type 0 = λ lists. (length lists ≡ length old) × AreDelaysBelow p x (n +
    1) lists in
    subst P (sym f) (
      length-set old u (get_or old u [] ++ d ∷ []),
      one_collected p x n u d old below
          edge within here is up,
    )

-- once all edges are collected
pub all_collected : (p : Problem) (x : Numbers) (n : ℕ) (delays : List (List ℕ))
    → AreDelaysBelow p x n delays → length p.arcs.list ≤ 2 * n → AreDelays p x delays
all_collected p x n delays h most v e = (
  λ k. let d = (h v e).0 k in (d.0, d.2, d.3, d.4, d.5),
  λ (j, edge, here, is, up). (h v e).1 (j, omega (arith, edge, most), edge, here, is, up),
)

-- needs are small where there is a node
pub need_small : (arcs : Arcs) → IsSolvable arcs → (j : ℕ) → j < length arcs.list
    → unsigned_abs (need_of arcs.list j) ≤ 2 ^ 60
need_small arcs h j l =
    let some : 0 < arcs.nodes = omega (arith, (h.ends j l).0) in
    omega (arith, h.needs j l, le-mul_of_pos_right (unsigned_abs (need_of arcs.list j)) some)
