-- The list of arcs and turned arcs, as it grows.
use Rattle.std.proofs.Common.{◌≡◌, ⊎_elim, ℕ, ◌+◌, ◌-◌, ◌*◌, ◌<◌, ◌≤◌, pos, neg_ℤ, ◌-ℤ◌, ◌≤ℤ◌, List, [], ◌∷◌, ◌++◌, length, get_or, unsigned_abs, refl, sym, ap, ◌∙◌, subst, arith, below_more}
use Rattle.std.proofs.lemmas.Int.{ints}
use Rattle.std.proofs.lemmas.Bool.{cases_lt}
use Rattle.std.proofs.lemmas.List.{length-append, get_or_append_left, get_or-append_right}
use Rattle.cycle_find.specs.declared.arcs.Arc.{Arc}
use Rattle.cycle_find.specs.Constraints.{Numbers, Solves, EndsInRange, Meets, arc_at, start_of, end_of, need_of}
use Rattle.schedule_problem.specs.declared.problem.Problem.{Problem}
use Rattle.schedule_problem.specs.Flow.{Flow}
use Rattle.schedule_flow.specs.Earliest.{IsTightened, SizesWithin, turned_arc}

abbrev pub Met : Numbers → Arc → Type 0
Met y a = a.need ≤ℤ (y a.to -ℤ y a.from)

module _ (list : List Arc) (a : Arc) where
  front : (k : ℕ) → k < length list → arc_at (list ++ a ∷ []) k ≡ arc_at list k
  front k l = get_or_append_left list (a ∷ []) (record { from = 0; to = 0; need = pos 0 }) k l

  end : (k : ℕ) → k < length (list ++ a ∷ []) → length list ≤ k → arc_at (list ++ a ∷ []) k ≡ a
  end k l g =
      let n = length list in
      let q : k ≡ n = omega (arith, length-append list (a ∷ []), l, g) in
      let z : n - n ≡ 0 = omega arith in
      ap (arc_at (list ++ a ∷ [])) q ∙ get_or-append_right list (a
      ∷ []) n n (record { from = 0; to = 0; need = pos 0 }) refl (omega arith) ∙ ap
      (λ m. get_or (a ∷ []) m (record { from = 0; to = 0; need = pos 0 })) z

  pub solves_push : (y : Numbers) → Solves y list → Met y a → Solves y (list ++ a ∷ [])
  solves_push y s m k l = ⊎_elim
      (λ (q : k < length list). subst (Met y) (sym (front k q)) (s k q))
      (λ (g : length list ≤ k). subst (Met y) (sym (end k l g)) m)
      (cases_lt k (length list))

  pub solves_front : (y : Numbers) → Solves y (list ++ a ∷ []) → Solves y list
  solves_front y s k l = subst (Met y) (front k l) (s k (omega (arith, length-append list (a ∷ []), l)))

  pub solves_last : (y : Numbers) → Solves y (list ++ a ∷ []) → Met y a
  solves_last y s =
      let l : length list < length (list ++ a ∷ []) = omega (arith, length-append list (a ∷ [])) in
      subst (Met y) (end (length list) l (omega arith)) (s (length list) l)

  pub ends_push : (nodes : ℕ) → EndsInRange nodes list → a.from < nodes → a.to < nodes → EndsInRange nodes (list ++ a ∷ [])
  ends_push nodes e f t k l =
      let P : Arc → Type 0 = λ b. (b.from < nodes) × (b.to < nodes) in
      ⊎_elim
      (λ (q : k < length list). subst P (sym (front k q)) (e k q))
      (λ (g : length list ≤ k). subst P (sym (end k l g)) (f, t))
      (cases_lt k (length list))

  pub needs_push : (c size : ℕ) → SizesWithin c size list → c * unsigned_abs a.need ≤ size → SizesWithin c size (list ++ a ∷ [])
  needs_push c size e f k l =
      let P : Arc → Type 0 = λ b. c * unsigned_abs b.need ≤ size in
      ⊎_elim
      (λ (q : k < length list). subst P (sym (front k q)) (e k q))
      (λ (g : length list ≤ k). subst P (sym (end k l g)) f)
      (cases_lt k (length list))

-- the list for the arcs below n
pub record Tightening (p : Problem) (f : Flow) (list : List Arc) (n : ℕ) : Type 0 where
  pub legal : (y : Numbers) → Solves y list → (j : ℕ) → j < n → Meets y p.arcs.list j
  pub tight : (y : Numbers) → Solves y list → (j : ℕ) → j < n → 0 < f j → (y (end_of p.arcs.list j) -ℤ y (start_of p.arcs.list j)) ≡ need_of p.arcs.list j
  pub solves : (y : Numbers) → ((j : ℕ) → j < n → Meets y p.arcs.list j)
      → ((j : ℕ) → j < n → 0 < f j → (y (end_of p.arcs.list j) -ℤ y (start_of p.arcs.list j))
      ≡ need_of p.arcs.list j) → Solves y list
  pub long : length list ≤ 2 * n
  pub ends : EndsInRange p.arcs.nodes list
  pub needs : (c size : ℕ) → SizesWithin c size p.arcs.list → SizesWithin c size list

pub tightening_none : (p : Problem) (f : Flow) → Tightening p f [] 0
tightening_none p f = record {
  legal = λ y s j l. absurd (omega (arith, l));
  tight = λ y s j l. absurd (omega (arith, l));
  solves = λ y m t k l. absurd (omega (arith, l));
  long = omega arith;
  ends = λ k l. absurd (omega (arith, l));
  needs = λ c size h k l. absurd (omega (arith, l));
}

module _ (p : Problem) (f : Flow) (list : List Arc) (n : ℕ) (a : Arc)
    (t : Tightening p f list n) (l : n < length p.arcs.list) (read : a ≡ arc_at p.arcs.list n)
    (ends : EndsInRange p.arcs.nodes p.arcs.list) where
  here : (y : Numbers) → Met y a → Meets y p.arcs.list n
  here y m = subst (Met y) read m

  in_range : (a.from < p.arcs.nodes) × (a.to < p.arcs.nodes)
  in_range = let P : Arc → Type 0 = λ b. (b.from < p.arcs.nodes) × (b.to < p.arcs.nodes) in subst P (sym read) (ends n l)

  small : (c size : ℕ) → SizesWithin c size p.arcs.list → c * unsigned_abs a.need ≤ size
  small c size h = let P : Arc → Type 0 = λ b. c * unsigned_abs b.need ≤ size in subst P (sym read) (h n l)

  pub with_arc : f n ≡ 0 → Tightening p f (list ++ a ∷ []) (n + 1)
  with_arc idle = record {
    legal = λ y s. let P : ℕ → Type 0 = λ j. Meets y p.arcs.list j in below_more P n (t.legal y (solves_front list a y s)) (here y (solves_last list a y s));
    tight = λ y s. let P : ℕ → Type 0 = λ j. 0 < f j
        → (y (end_of p.arcs.list j) -ℤ y (start_of p.arcs.list j))
        ≡ need_of p.arcs.list j in below_more P n (t.tight y (solves_front list a y s))
        (λ up. absurd (omega (arith, up, idle)));
    solves = λ y m u. solves_push list a y (t.solves y (λ j k. m j (omega (arith, k))) (λ j k. u j (omega (arith, k)))) (subst (Met y) (sym read) (m n (omega arith)));
    long = omega (arith, t.long, length-append list (a ∷ []));
    ends = ends_push list a p.arcs.nodes t.ends in_range.0 in_range.1;
    needs = λ c size h. needs_push list a c size (t.needs c size h) (small c size h);
  }

  pub with_both : 0 < f n → Tightening p f ((list ++ a ∷ []) ++ turned_arc a ∷ []) (n + 1)
  with_both busy =
      let one : List Arc = list ++ a ∷ [] in
      let b = turned_arc a in
      let equal : (y : Numbers) → Met y a → Met y b → (y (end_of p.arcs.list n) -ℤ y (start_of p.arcs.list n)) ≡ need_of p.arcs.list n = λ (y : Numbers) (m : Met y a) (k : Met y b).
      let P : Arc → Type 0 = λ c. (y c.to -ℤ y c.from) ≡ c.need in
      let e : (y a.to -ℤ y a.from) ≡ a.need = omega (arith, ints, m, k) in
      subst P read e in
      record {
        legal = λ y s. let P : ℕ → Type 0 = λ j. Meets y p.arcs.list j in let s1 = solves_front one b y s in below_more P n (t.legal y (solves_front list a y s1)) (here y (solves_last list a y s1));
        tight = λ y s. let P : ℕ → Type 0 = λ j. 0 < f j
            → (y (end_of p.arcs.list j) -ℤ y (start_of p.arcs.list j))
            ≡ need_of p.arcs.list j in let s1 = solves_front one b y s in below_more P n
            (t.tight y (solves_front list a y s1)) (λ up. equal y (solves_last list a y s1)
            (solves_last one b y s));
        solves = λ y m u.
            let P : Arc → Type 0 = λ c. (y c.to -ℤ y c.from) ≡ c.need in
            let e : (y a.to -ℤ y a.from) ≡ a.need = subst P (sym read) (u n (omega arith) busy) in
            solves_push one b y (solves_push list a y (t.solves y (λ j k. m j (omega (
              arith,
              k,
            ))) (λ j k. u j (omega (
              arith,
              k,
            )))) (subst (Met y) (sym read) (m n (omega arith)))) (omega (arith, ints, e));
        long = omega (arith, t.long, length-append list (a ∷ []), length-append one (b ∷ []));
        ends = ends_push one b p.arcs.nodes (ends_push list a p.arcs.nodes t.ends in_range.0 in_range.1) in_range.1 in_range.0;
        needs = λ c size h. needs_push one b c size (needs_push list a c size (t.needs c size h)
            (small c size h)) (let e : unsigned_abs (neg_ℤ a.need) ≡ unsigned_abs a.need = omega
            (arith, ints) in let s = small c size h in omega (arith, s, ap (λ k. c * k) e));
      }

pub tightening_all : (p : Problem) (f : Flow) (list : List Arc) (n : ℕ) → Tightening p f list n → length p.arcs.list ≤ n → n ≤ length p.arcs.list → IsTightened p f list
tightening_all p f list n t ge le = record {
  legal = λ y s j l. t.legal y s j (omega (arith, l, ge));
  tight = λ y s j l. t.tight y s j (omega (arith, l, ge));
  solves = λ y m u. t.solves y (λ j l. m j (omega (arith, l, le))) (λ j l. u j (omega (arith, l, le)));
}
