-- Times that solve the problem of a kernel, and the schedules of the kernel.
use Rattle.std.proofs.Common.{
  ◌≡◌,
  ℕ,
  zero,
  suc,
  ◌+◌,
  ◌*◌,
  ◌-◌,
  ◌≤◌,
  ◌<◌,
  Bool,
  true,
  false,
  List,
  [],
  ◌∷◌,
  ◌++◌,
  length,
  get_or,
  refl,
  ap,
  sym,
  ◌∙◌,
  subst,
  arith,
  inl,
  inr,
  ◌⊎◌,
}
use Rattle.std.specs.Prelude.{
  All,
  ℤ,
  pos,
  ◌+ℤ◌,
  ◌-ℤ◌,
  ◌*ℤ◌,
  ◌≤ℤ◌,
  ◌==◌,
  nat_lt,
  Option,
  Some,
  None,
  find,
  if◌then◌else◌,
}
use Rattle.std.specs.Option.{option_map}
use Rattle.std.specs.Int.{int_max}
use borrow.Author.Differences.{up, down, sum_is_lem}
use Rattle.std.proofs.lemmas.Int.{ints, clamps}
use Rattle.std.proofs.lemmas.Bool.{cases_Bool, eqb-true, eq-eqb}
use Rattle.std.proofs.lemmas.Bool.Decides.{nat_tests}
use Rattle.std.proofs.lemmas.List.{get_or_append_left, get_or_push, length_push, append-nil}
use Rattle.std.proofs.lemmas.List.Elements.{All-nil, All-cons}
use Rattle.cycle_find.specs.Constraints.{Numbers, Solves}
use Rattle.schedule_problem.specs.declared.problem.Term.{Term}
use Rattle.schedule_problem.specs.Flow.{total, term_cost, cost_of}
use Rattle.stream_graph.specs.declared.node.Node.{Node}
use Rattle.offset_edges.specs.declared.edge.Edge.{Edge}
use Rattle.offset_edges.specs.Edges.{edge_at, IsSmall}
use Rattle.stream_graph.specs.LookUps.{width_at}
use Rattle.offset_edges.specs.Problems.{
  arcs_over,
  reader_of,
  term_of,
  base_of,
  terms_below,
  base_below,
  problem_over,
}
use Rattle.offset_edges.specs.Schedules.{
  delay_of,
  IsLegal,
  greater,
  greatest_delay,
  bits_of,
  bits_below,
  fifo_bits,
}

mul-add : (a b c : ℤ) → a *ℤ (b +ℤ c) ≡ (a *ℤ b +ℤ a *ℤ c)
mul-add a b c = omega (
  arith,
  ints,
  ap (λ k. up a * k) (sum_is_lem b c),
  ap (λ k. down a * k)
      (sum_is_lem b c),
)

pos-mul-le : (n : ℕ) (a b : ℤ) → a ≤ℤ b → (pos n *ℤ a) ≤ℤ (pos n *ℤ b)
pos-mul-le zero a b h = omega (arith, ints)
pos-mul-le (suc n) a b h = omega (arith, ints, h, pos-mul-le n a b h)

-- ---- the greatest delay

greater_first : (d : ℤ) (o : Option ℤ) → d ≤ℤ greater d o
greater_first d None = omega (arith, ints)
greater_first d (Some e) = omega (arith, ints, clamps)

pub record HasGreatest (ticks : ℕ → ℕ) (s : Numbers) (edges : List Edge) (u : ℕ) (least : ℤ) : Type
    0 where
  greatest : ℤ
  is : greatest_delay ticks s edges u ≡ Some greatest
  above : least ≤ℤ greatest

pub above : (ticks : ℕ → ℕ) (s : Numbers) (edges : List Edge) (j : ℕ) → j < length edges →
    HasGreatest ticks s edges (edge_at edges j).from (delay_of ticks s (edge_at edges j))
above ticks s [] j h = absurd (omega arith)
above ticks s (e ∷ es) zero h =
    record {
      greatest = greater (delay_of ticks s e) (greatest_delay ticks s es e.from);
      is = ap (λ b. if b then Some (greater (delay_of ticks s e) (greatest_delay ticks s es e.from))
          else greatest_delay ticks s es e.from)
          (eq-eqb e.from e.from refl);
      above = greater_first (delay_of ticks s e) (greatest_delay ticks s es e.from);
    }
above ticks s (e ∷ es) (suc j) h =
    let t = by_test (e.from == (edge_at es j).from) (above ticks s es j (omega arith)) in
    record { greatest = t.0; is = t.1; above = t.2 }
  where
    by_test : (b : Bool) → HasGreatest ticks s es (edge_at es j).from (delay_of ticks s (edge_at es
        j)) →
        (d : ℤ) × ((if b then Some (greater (delay_of ticks s e) (greatest_delay ticks s es (edge_at
        es j).from))
        else greatest_delay ticks s es (edge_at es j).from) ≡ Some d) × (delay_of ticks s (edge_at
        es j) ≤ℤ d)
    by_test true r =
        let m = r.above in (
          int_max (delay_of ticks s e) r.greatest,
          ap (λ o. Some (greater (delay_of ticks s e) o))
              r.is,
          omega (arith, ints, clamps, m),
        )
    by_test false r = (r.greatest, r.is, r.above)

pub below : (ticks : ℕ → ℕ) (s : Numbers) (edges : List Edge) (u : ℕ) (c d : ℤ) →
    ((j : ℕ) → j < length edges → (edge_at edges j).from ≡ u
    → delay_of ticks s (edge_at edges j) ≤ℤ c) →
    greatest_delay ticks s edges u ≡ Some d → d ≤ℤ c
below ticks s [] u c d h e = absurd (cc)
below ticks s (x ∷ xs) u c d h e = by_test (x.from == u) (λ t. h 0 (omega arith) (eqb-true x.from u
    t))
    (greatest_delay ticks s xs u) (λ g q. below ticks s xs u c g (λ j l. h (suc j) (omega arith)) q)
    e
  where
    by_test : (b : Bool) → (b ≡ true → delay_of ticks s x ≤ℤ c) → (o : Option ℤ) → ((g : ℤ)
        → o ≡ Some g → g ≤ℤ c) →
        (if b then Some (greater (delay_of ticks s x) o) else o) ≡ Some d → d ≤ℤ c
    by_test true first None rest e = let q : delay_of ticks s x ≡ d = cc in subst (λ z. z ≤ℤ c) q
        (first refl)
    by_test true first (Some g) rest e =
        let q : int_max (delay_of ticks s x) g ≡ d = cc in
        let a = first refl in
        let b = rest g refl in
        subst (λ z. z ≤ℤ c) q (omega (arith, ints, clamps, a, b))
    by_test false first o rest e = rest d e

-- a node is read over some edge, and has a greatest delay, or neither
pub data IsRead (ticks : ℕ → ℕ) (s : Numbers) (edges : List Edge) (u : ℕ) : Type 0 where
  unread : reader_of edges u ≡ None → greatest_delay ticks s edges u ≡ None → IsRead ticks s edges u
  read : (r : ℕ) (d : ℤ) → reader_of edges u ≡ Some r → greatest_delay ticks s edges u ≡ Some d
      → IsRead ticks s edges u

pub is_read : (ticks : ℕ → ℕ) (s : Numbers) (edges : List Edge) (u : ℕ) → IsRead ticks s edges u
is_read ticks s [] u = unread refl refl
is_read ticks s (e ∷ es) u = by_test (is_read ticks s es u) (cases_Bool (e.from == u))
  where
    reader : Bool → Option ℕ
    reader b = option_map (λ e. e.to) (if b then Some e else find (λ e. e.from == u) es)

    greatest : Bool → Option ℤ
    greatest b = if b then Some (greater (delay_of ticks s e) (greatest_delay ticks s es u)) else
        greatest_delay ticks s es u

    by_test : IsRead ticks s es u → ((e.from == u) ≡ true) ⊎ ((e.from == u) ≡ false)
        → IsRead ticks s (e ∷ es) u
    by_test r (inl t) = read e.to (greater (delay_of ticks s e) (greatest_delay ticks s es u))
        (ap (λ b. option_map (λ e. e.to) (if b then Some e else find (λ e. e.from == u) es)) t)
        (ap (λ b. if b then Some (greater (delay_of ticks s e) (greatest_delay ticks s es u)) else
        greatest_delay ticks s es u) t)
    by_test (unread p q) (inr f) = unread
        (ap (λ b. option_map (λ e. e.to) (if b then Some e else find (λ e. e.from == u) es)) f ∙ p)
        (ap (λ b. if b then Some (greater (delay_of ticks s e) (greatest_delay ticks s es u)) else
        greatest_delay ticks s es u) f ∙ q)
    by_test (read r d p q) (inr f) = read r d
        (ap (λ b. option_map (λ e. e.to) (if b then Some e else find (λ e. e.from == u) es)) f ∙ p)
        (ap (λ b. if b then Some (greater (delay_of ticks s e) (greatest_delay ticks s es u)) else
        greatest_delay ticks s es u) f ∙ q)

-- ---- the cost, node by node

total-same : (n : ℕ) (g h : ℕ → ℤ) → ((k : ℕ) → k < n → g k ≡ h k) → total n g ≡ total n h
total-same zero g h e = refl
total-same (suc n) g h e = omega (
  arith,
  ints,
  total-same n g h (λ k l. e k (omega arith)),
  e n
      (omega arith),
)

-- what a node's term costs
abbrev pub price_of : List Node → Numbers → ℕ → Option ℕ → ℤ
price_of nodes x u None = pos 0
price_of nodes x u (Some r) = pos (width_at nodes u) *ℤ (x (length nodes + u) -ℤ x u)

abbrev pub price_below : List Node → (ℕ → Option ℕ) → Numbers → ℕ → ℤ
price_below nodes readers x zero = pos 0
price_below nodes readers x (suc u) = price_below nodes readers x u +ℤ price_of nodes x u (readers
    u)

one_term : (ts : List Term) (t : Term) (x : Numbers) →
    total (length (ts ++ t ∷ [])) (term_cost (ts ++ t ∷ []) x)
    ≡ (total (length ts) (term_cost ts x) +ℤ (pos t.weight *ℤ (x t.to -ℤ x t.from)))
one_term ts t x =
    let d : Term = record { from = 0; to = 0; weight = 0; mid = 0 } in
    let len = length_push ts t in
    let last : get_or (ts ++ t ∷ []) (length ts) d ≡ t = get_or_push ts t d (length ts) refl in
    let before = total-same (length ts) (term_cost (ts ++ t ∷ []) x) (term_cost ts x)
    (λ k h. ap (λ q. pos q.weight *ℤ (x q.to -ℤ x q.from)) (get_or_append_left ts (t ∷ []) d k h))
    in
    let here : term_cost (ts ++ t ∷ []) x (length ts) ≡ (pos t.weight *ℤ (x t.to -ℤ x t.from)) =
    ap (λ q. pos q.weight *ℤ (x q.to -ℤ x q.from)) last in
    ap (λ n. total n (term_cost (ts ++ t ∷ []) x)) (len ∙ more (length ts))
    ∙ omega (arith, ints, before, here)
  where
    more : (n : ℕ) → n + 1 ≡ suc n
    more n = omega arith

pub priced : (nodes : List Node) (readers : ℕ → Option ℕ) (x : Numbers) (n : ℕ) →
    total (length (terms_below nodes readers n)) (term_cost (terms_below nodes readers n) x) ≡
    price_below nodes readers x n
priced nodes readers x zero = refl
priced nodes readers x (suc n) = by_reader (readers n) (priced nodes readers x n)
  where
    by_reader : (o : Option ℕ) →
        total (length (terms_below nodes readers n)) (term_cost (terms_below nodes readers n) x) ≡
        price_below nodes readers x n →
        total (length (terms_below nodes readers n ++ term_of nodes n o)) (term_cost (terms_below
        nodes readers n ++ term_of nodes n o) x)
        ≡ (price_below nodes readers x n +ℤ price_of nodes x n o)
    by_reader None r =
        ap (λ ts. total (length ts) (term_cost ts x)) (append-nil (terms_below nodes readers n))
        ∙ omega (arith, ints, r)
    by_reader (Some k) r =
        let o = one_term (terms_below nodes readers n) (record {
          from = n;
          to = length nodes + n;
          weight = width_at nodes n;
          mid = k;
        }) x in
        omega (arith, ints, r, o)

-- ---- arcs and edges

-- the arcs of an edge hold
pub record BothHold (nodes : ℕ) (ticks : ℕ → ℕ) (x : Numbers) (e : Edge) : Type 0 where
  pub there : (pos (ticks e.from) +ℤ e.offset) ≤ℤ (x e.to -ℤ x e.from)
  pub back : (pos 0 -ℤ e.offset) ≤ℤ (x (nodes + e.from) -ℤ x e.to)

all_hold : (nodes : ℕ) (ticks : ℕ → ℕ) (x : Numbers) (edges : List Edge) →
    ((j : ℕ) → j < length edges → BothHold nodes ticks x (edge_at edges j)) →
    All (λ arc. arc.need ≤ℤ (x arc.to -ℤ x arc.from)) (arcs_over nodes ticks edges)
all_hold nodes ticks x [] h = All-nil (λ arc. arc.need ≤ℤ (x arc.to -ℤ x arc.from))
all_hold nodes ticks x (e ∷ es) h =
    let b = h 0 (omega arith) in
    All-cons (λ arc. arc.need ≤ℤ (x arc.to -ℤ x arc.from)) (record {
      from = e.from;
      to = e.to;
      need
          = pos (ticks e.from) +ℤ e.offset;
    })
    (record { from = e.to; to = nodes + e.from; need = pos 0 -ℤ e.offset } ∷ arcs_over nodes ticks
    es) b.there
    (All-cons (λ arc. arc.need ≤ℤ (x arc.to -ℤ x arc.from)) (record {
      from = e.to;
      to = nodes +
          e.from;
      need = pos 0 -ℤ e.offset;
    })
    (arcs_over nodes ticks es) b.back
    (all_hold nodes ticks x es (λ j l. h (suc j) (omega arith))))

pub solves_from : (nodes : ℕ) (ticks : ℕ → ℕ) (x : Numbers) (edges : List Edge) →
    ((j : ℕ) → j < length edges → BothHold nodes ticks x (edge_at edges j))
    → Solves x (arcs_over nodes ticks edges)
solves_from nodes ticks x edges h = λ j l. all_hold nodes ticks x edges h j (record {
  from = 0;
  to =
      0;
  need = pos 0;
}) l

pub holds_from : (nodes : ℕ) (ticks : ℕ → ℕ) (x : Numbers) (edges : List Edge)
    → Solves x (arcs_over nodes ticks edges) →
    (j : ℕ) → j < length edges → BothHold nodes ticks x (edge_at edges j)
holds_from nodes ticks x [] s j h = absurd (omega arith)
holds_from nodes ticks x (e ∷ es) s zero h = record {
  there = s 0 (omega arith);
  back = s 1 (omega
      arith);
}
holds_from nodes ticks x (e ∷ es) s (suc j) h = holds_from nodes ticks x es (λ k l. s (suc (suc k))
    (omega arith)) j (omega arith)

-- ---- solutions are schedules

pub legal_from : (nodes : ℕ) (ticks : ℕ → ℕ) (x : Numbers) (edges : List Edge)
    → Solves x (arcs_over nodes ticks edges) →
    IsLegal ticks edges x
legal_from nodes ticks x edges s = λ j h. let b = (holds_from nodes ticks x edges s j h).there in
    omega (arith, ints, b)

-- a node's bits, and its term less its base
bits_least : (ticks : ℕ → ℕ) (nodes : List Node) (edges : List Edge) (x : Numbers) (u : ℕ) →
    Solves x (arcs_over (length nodes) ticks edges) →
    bits_of nodes u (greatest_delay ticks x edges u) ≤ℤ
    (price_of nodes x u (reader_of edges u) -ℤ pos (base_of ticks nodes u (reader_of edges u)))
bits_least ticks nodes edges x u s = by_read (is_read ticks x edges u)
  where
    by_read : IsRead ticks x edges u → bits_of nodes u (greatest_delay ticks x edges u) ≤ℤ
        (price_of nodes x u (reader_of edges u) -ℤ pos (base_of ticks nodes u (reader_of edges u)))
    by_read (unread p q) =
        subst (λ o. bits_of nodes u (greatest_delay ticks x edges u) ≤ℤ (price_of nodes x u o -ℤ pos
        (base_of ticks nodes u o))) (sym p)
        (subst (λ o. bits_of nodes u o ≤ℤ (pos 0 -ℤ pos 0)) (sym q) (omega (arith, ints)))
    by_read (read r d p q) =
        let kept : ℤ = (x (length nodes + u) -ℤ x u) -ℤ pos (ticks u) in
        let most : d ≤ℤ kept = below ticks x edges u kept d
        (λ j h e.
        let b = (holds_from (length nodes) ticks x edges s j h).back in
        let b' : (pos 0 -ℤ (edge_at edges j).offset) ≤ℤ (x (length nodes + u) -ℤ x (edge_at edges
        j).to) =
        subst (λ v. (pos 0 -ℤ (edge_at edges j).offset) ≤ℤ (x (length nodes + v) -ℤ x (edge_at edges
        j).to)) e b in
        let t : ticks (edge_at edges j).from ≡ ticks u = ap ticks e in
        let y : x (edge_at edges j).from ≡ x u = ap x e in
        omega (arith, ints, b', t, y)) q in
        let m = pos-mul-le (width_at nodes u) d kept most in
        let a = mul-add (pos (width_at nodes u)) kept (pos (ticks u)) in
        let k : (pos (width_at nodes u) *ℤ (kept +ℤ pos (ticks u))) ≡ (pos (width_at nodes u) *ℤ (x
        (length nodes + u) -ℤ x u)) =
        ap (λ z. pos (width_at nodes u) *ℤ z) (let z : (kept +ℤ pos (ticks u)) ≡ (x (length nodes +
        u) -ℤ x u) = omega (arith, ints) in z) in
        let w : (pos (width_at nodes u) *ℤ pos (ticks u)) ≡ pos (width_at nodes u * ticks u) = refl
        in
        subst (λ o. bits_of nodes u (greatest_delay ticks x edges u) ≤ℤ (price_of nodes x u o -ℤ pos
        (base_of ticks nodes u o))) (sym p)
        (subst (λ o. bits_of nodes u o ≤ℤ ((pos (width_at nodes u) *ℤ (x (length nodes + u) -ℤ x u))
        -ℤ pos (width_at nodes u * ticks u))) (sym q)
        (omega (arith, ints, m, a, k, w)))

bits_least_below : (ticks : ℕ → ℕ) (nodes : List Node) (edges : List Edge) (x : Numbers) (n : ℕ) →
    Solves x (arcs_over (length nodes) ticks edges) →
    bits_below ticks nodes edges x n ≤ℤ (price_below nodes (reader_of edges) x n -ℤ pos (base_below
    ticks nodes (reader_of edges) n))
bits_least_below ticks nodes edges x zero s = omega (arith, ints)
bits_least_below ticks nodes edges x (suc n) s =
    omega (
      arith,
      ints,
      bits_least_below ticks nodes edges x n s,
      bits_least ticks nodes edges x n
          s,
    )

pub bits_least_all : (ticks : ℕ → ℕ) (nodes : List Node) (edges : List Edge) (x : Numbers) →
    Solves x (arcs_over (length nodes) ticks edges) → fifo_bits ticks nodes edges x ≤ℤ cost_of
    (problem_over ticks nodes edges) x
bits_least_all ticks nodes edges x s =
    omega (
      arith,
      ints,
      bits_least_below ticks nodes edges x (length nodes) s,
      priced nodes
          (reader_of edges) x (length nodes),
    )

-- ---- schedules are solutions

-- up to when a node's words are kept
abbrev kept_of : (ℕ → ℕ) → Numbers → List Edge → ℕ → Option ℤ → ℤ
kept_of ticks s edges u None = s u
kept_of ticks s edges u (Some d) = (s u +ℤ pos (ticks u)) +ℤ d

abbrev kept_until : (ℕ → ℕ) → Numbers → List Edge → ℕ → ℤ
kept_until ticks s edges u = kept_of ticks s edges u (greatest_delay ticks s edges u)

-- the times of the nodes, and up to when their words are kept
pub with_kept : ℕ → (ℕ → ℕ) → List Edge → Numbers → Numbers
with_kept n ticks edges s = λ v. if nat_lt v n then s v else kept_until ticks s edges (v - n)

pub of_node : (n : ℕ) (ticks : ℕ → ℕ) (edges : List Edge) (s : Numbers) (v : ℕ) → v < n
    → with_kept n ticks edges s v ≡ s v
unfolding with_kept
of_node n ticks edges s v h =
    let t : nat_lt v n ≡ true = grind (arith, nat_tests) in
    ap (λ b. if b then s v else kept_until ticks s edges (v - n)) t

of_kept : (n : ℕ) (ticks : ℕ → ℕ) (edges : List Edge) (s : Numbers) (u : ℕ) →
    with_kept n ticks edges s (n + u) ≡ kept_until ticks s edges u
unfolding with_kept
of_kept n ticks edges s u =
    let t : nat_lt (n + u) n ≡ false = grind (arith, nat_tests) in
    let e : n + u - n ≡ u = omega arith in
    ap (λ b. if b then s (n + u) else kept_until ticks s edges (n + u - n)) t
    ∙ ap (kept_until ticks s edges) e

pub solution_of : (n : ℕ) (ticks : ℕ → ℕ) (edges : List Edge) (s : Numbers) → ((j : ℕ)
    → j < length edges → IsSmall n (edge_at edges j)) →
    IsLegal ticks edges s → Solves (with_kept n ticks edges s) (arcs_over n ticks edges)
solution_of n ticks edges s small legal =
    solves_from n ticks (with_kept n ticks edges s) edges
    (λ j h.
    let q = small j h in
    let f = of_node n ticks edges s (edge_at edges j).from q.from in
    let t = of_node n ticks edges s (edge_at edges j).to q.to in
    let k = of_kept n ticks edges s (edge_at edges j).from in
    let a = above ticks s edges j h in
    let up = a.above in
    let g : kept_until ticks s edges (edge_at edges j).from
    ≡ ((s (edge_at edges j).from +ℤ pos (ticks (edge_at edges j).from)) +ℤ a.greatest) =
    ap (kept_of ticks s edges (edge_at edges j).from) a.is in
    let l = legal j h in
    record { there = omega (arith, ints, l, f, t); back = omega (arith, ints, k, g, t, up) })

-- a node's bits are its term less its base
bits_same : (ticks : ℕ → ℕ) (nodes : List Node) (edges : List Edge) (s : Numbers) (u : ℕ)
    → u < length nodes →
    (price_of nodes (with_kept (length nodes) ticks edges s) u (reader_of edges u) -ℤ pos (base_of
    ticks nodes u (reader_of edges u)))
    ≡ bits_of nodes u (greatest_delay ticks s edges u)
bits_same ticks nodes edges s u h = by_read (is_read ticks s edges u)
  where
    by_read : IsRead ticks s edges u →
        (price_of nodes (with_kept (length nodes) ticks edges s) u (reader_of edges u) -ℤ pos
        (base_of ticks nodes u (reader_of edges u)))
        ≡ bits_of nodes u (greatest_delay ticks s edges u)
    by_read (unread p q) =
        ap (λ o. price_of nodes (with_kept (length nodes) ticks edges s) u o -ℤ pos (base_of ticks
        nodes u o)) p
        ∙ ap (bits_of nodes u) (sym q)
    by_read (read r d p q) =
        let f = of_node (length nodes) ticks edges s u h in
        let k : with_kept (length nodes) ticks edges s (length nodes + u) ≡ ((s u +ℤ pos (ticks u))
        +ℤ d) =
        of_kept (length nodes) ticks edges s u ∙ ap (kept_of ticks s edges u) q in
        let a = mul-add (pos (width_at nodes u)) d (pos (ticks u)) in
        let z : (with_kept (length nodes) ticks edges s (length nodes + u) -ℤ with_kept (length
        nodes) ticks edges s u) ≡ (d +ℤ pos (ticks u)) =
        omega (arith, ints, f, k) in
        let m : (pos (width_at nodes u) *ℤ (with_kept (length nodes) ticks edges s (length nodes +
        u) -ℤ with_kept (length nodes) ticks edges s u))
        ≡ (pos (width_at nodes u) *ℤ (d +ℤ pos (ticks u))) = ap (λ y. pos (width_at nodes u) *ℤ y) z
        in
        let w : (pos (width_at nodes u) *ℤ pos (ticks u)) ≡ pos (width_at nodes u * ticks u) = refl
        in
        ap (λ o. price_of nodes (with_kept (length nodes) ticks edges s) u o -ℤ pos (base_of ticks
        nodes u o)) p
        ∙ omega (arith, ints, a, m, w)
        ∙ ap (bits_of nodes u) (sym q)

bits_same_below : (ticks : ℕ → ℕ) (nodes : List Node) (edges : List Edge) (s : Numbers) (n : ℕ)
    → n ≤ length nodes →
    (price_below nodes (reader_of edges) (with_kept (length nodes) ticks edges s) n -ℤ pos
    (base_below ticks nodes (reader_of edges) n))
    ≡ bits_below ticks nodes edges s n
bits_same_below ticks nodes edges s zero h = omega (arith, ints)
bits_same_below ticks nodes edges s (suc n) h =
    omega (
      arith,
      ints,
      bits_same_below ticks nodes edges s n (omega arith),
      bits_same ticks nodes
          edges s n (omega arith),
    )

pub bits_same_all : (ticks : ℕ → ℕ) (nodes : List Node) (edges : List Edge) (s : Numbers) →
    cost_of (problem_over ticks nodes edges) (with_kept (length nodes) ticks edges s) ≡ fifo_bits
    ticks nodes edges s
bits_same_all ticks nodes edges s =
    let h : length nodes ≤ length nodes = omega arith in
    omega (
      arith,
      ints,
      priced nodes (reader_of edges) (with_kept (length nodes) ticks edges s) (length nodes),
      bits_same_below ticks nodes edges s (length nodes) h,
    )
