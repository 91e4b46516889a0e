-- The last reads of words, and the times up to which they are kept.
use Rattle.std.proofs.Common.{
  ◌≡◌,
  ℕ,
  zero,
  suc,
  ◌+◌,
  ◌-◌,
  ◌≤◌,
  ◌<◌,
  ◌^◌,
  Bool,
  true,
  false,
  List,
  [],
  ◌∷◌,
  length,
  refl,
  get_or,
  set,
  drop,
  ap,
  sym,
  ◌∙◌,
  subst,
  arith,
  inl,
  inr,
  ◌⊎◌,
  ◌≢◌,
}
use Rattle.std.specs.Prelude.{
  All,
  ℤ,
  ◌-ℤ◌,
  ◌≤ℤ◌,
  ◌==◌,
  nat_lt,
  if◌then◌else◌,
  Option,
  Some,
  None,
  unwrap_or,
  unsigned_abs,
}
use Rattle.std.specs.Int.{int_max}
use Rattle.std.proofs.lemmas.Int.{ints, clamps}
use Rattle.std.proofs.lemmas.Bool.{eqb-true, eq-eqb}
use Rattle.std.proofs.lemmas.Bool.Decides.{nat_tests, eqb_tells}
use Rattle.std.proofs.lemmas.List.{drop_more, get_or-set_same, get_or-set_other}
use Rattle.cycle_find.specs.Constraints.{Numbers}
use Rattle.stream_graph.specs.declared.node.Node.{Node}
use Rattle.offset_edges.specs.declared.edge.Edge.{Edge}
use Rattle.offset_edges.specs.Edges.{edge_at, edges_of, IsSmall}
use Rattle.offset_edges.specs.Schedules.{greater}
use Rattle.kernel_report.specs.Times.{last_read, kept_until, whole_times}

-- the last reads of the edges from number i on, and of the one before them, which is set at its start
pub read_more : (s : Numbers) (edges : List Edge) (d : Edge) (reads : List (Option ℤ)) (i j : ℕ)
    (z : ℤ) → j < length edges → i ≡ j + 1 → (get_or edges j d).from < length reads →
    z ≡ greater (s (get_or edges j d).to -ℤ (get_or edges j d).offset) (get_or reads (get_or edges j d).from None) →
    ((u : ℕ) → get_or reads u None ≡ last_read s (drop i edges) u) →
    (u : ℕ) → get_or (set reads (get_or edges j d).from (Some z)) u None ≡ last_read s (drop j edges) u
read_more s edges d reads i j z h n l is before u =
    by_test (eqb_tells e.from u) ∙ ap (λ es. last_read s es u) (sym (drop_more edges j d h))
  where
    e : Edge
    e = get_or edges j d

    rest : List Edge
    rest = drop (j + 1) edges

    kept : (v : ℕ) → get_or reads v None ≡ last_read s rest v
    kept v = before v ∙ ap (λ k. last_read s (drop k edges) v) n

    new : ℤ
    new = greater (s e.to -ℤ e.offset) (last_read s rest u)

    here : e.from ≡ u → z ≡ new
    here p = is ∙ ap (λ o. greater (s e.to -ℤ e.offset) o) (ap (λ v. get_or reads v None) p ∙ kept u)

    by_test : (((e.from == u) ≡ true) × (e.from ≡ u)) ⊎ (((e.from == u) ≡ false) × (e.from ≢ u)) →
        get_or (set reads e.from (Some z)) u None ≡ last_read s (e ∷ rest) u
    by_test (inl t) =
        subst (λ v. get_or (set reads e.from (Some z)) v None ≡ Some z) t.1 (get_or-set_same reads e.from (Some z) None l)
        ∙ ap (λ k. Some k) (here t.1)
        ∙ ap (λ b. if b then Some new else last_read s rest u) (sym t.0)
    by_test (inr f) =
        get_or-set_other reads e.from u (Some z) None (λ p. f.1 (sym p))
        ∙ kept u
        ∙ ap (λ b. if b then Some new else last_read s rest u) (sym f.0)

-- each of the numbers is one of the list, or the default
pub each_or : {X : Type 0} (P : X → Type 0) (xs : List X) (d : X) → All P xs → P d → (v : ℕ) → P (get_or xs v d)
each_or P [] d a h v = h
each_or P (x ∷ xs) d a h zero = a 0 d (omega arith)
each_or P (x ∷ xs) d a h (suc v) = each_or P xs d (λ k e l. a (suc k) e (omega arith)) h v

-- the number, if there is one, is at most so far from 0
abbrev IsNear : ℕ → Option ℤ → Type 0
IsNear b None = Unit {0}
IsNear b (Some z) = unsigned_abs z ≤ b

-- so is the greater of two such
greater_near : (b : ℕ) (z : ℤ) (o : Option ℤ) → unsigned_abs z ≤ b → IsNear b o → unsigned_abs (greater z o) ≤ b
greater_near b z None h n = h
greater_near b z (Some y) h n = omega (arith, ints, clamps, h, n)

module _ (s : Numbers) (b : ℕ) (near : (v : ℕ) → unsigned_abs (s v) ≤ b) where
  -- where a node's time is at most b from 0, its last read is at most 2^32 further
  last_near : (edges : List Edge) (nodes u : ℕ) → ((j : ℕ) → j < length edges
      → IsSmall nodes (edge_at edges j)) → IsNear (b + 2 ^ 32) (last_read s edges u)
  last_near [] nodes u small = tt
  last_near (e ∷ es) nodes u small =
      by_test (e.from == u) (last_near es nodes u (λ j h. small (suc j) (omega arith)))
    where
      read : unsigned_abs (s e.to -ℤ e.offset) ≤ b + 2 ^ 32
      read = let o = (small 0 (omega arith)).offset in let t = near e.to in omega (arith, ints, o, t)

      by_test : (t : Bool) → IsNear (b + 2 ^ 32) (last_read s es u) → IsNear (b + 2 ^ 32)
          (if t then Some (greater (s e.to -ℤ e.offset) (last_read s es u)) else last_read s es u)
      by_test true n = greater_near (b + 2 ^ 32) (s e.to -ℤ e.offset) (last_read s es u) read n
      by_test false n = n

  -- so is a node's own time where nothing reads it
  unwrapped_near : (o : Option ℤ) (u : ℕ) → IsNear (b + 2 ^ 32) o → unsigned_abs (unwrap_or o (s u)) ≤ b + 2 ^ 32
  unwrapped_near None u n = let t = near u in omega (arith, t)
  unwrapped_near (Some z) u n = n

  -- and so is each time of the problem
  pub whole_near : (nodes : List Node) → ((j : ℕ) → j < length (edges_of nodes)
      → IsSmall (length nodes) (edge_at (edges_of nodes) j)) → (v : ℕ) → unsigned_abs (whole_times nodes s v) ≤ b + 2 ^ 32
  whole_near nodes small v = by_test (nat_lt v (length nodes))
    where
      u : ℕ
      u = v - length nodes

      by_test : (t : Bool) → unsigned_abs (if t then s v else kept_until s (edges_of nodes) u) ≤ b + 2 ^ 32
      by_test true = let t = near v in omega (arith, t)
      by_test false = unwrapped_near (last_read s (edges_of nodes) u) u (last_near (edges_of nodes) (length nodes) u small)

-- a node has its own time
pub whole_own : (nodes : List Node) (s : Numbers) (v : ℕ) → v < length nodes → whole_times nodes s v ≡ s v
whole_own nodes s v h =
    let t : nat_lt v (length nodes) ≡ true = grind (arith, nat_tests) in
    ap (λ b. if b then s v else kept_until s (edges_of nodes) (v - length nodes)) t

-- the time up to which a node's words are kept stands past the nodes
pub whole_kept : (nodes : List Node) (s : Numbers) (u : ℕ)
    → whole_times nodes s (length nodes + u) ≡ kept_until s (edges_of nodes) u
whole_kept nodes s u =
    let t : nat_lt (length nodes + u) (length nodes) ≡ false = grind (arith, nat_tests) in
    let v : ℕ = length nodes + u - length nodes in
    let e : v ≡ u = omega arith in
    ap (λ b. if b then s (length nodes + u) else kept_until s (edges_of nodes) v) t
    ∙ ap (kept_until s (edges_of nodes)) e

-- ---- the last read of a word

module _ (s : Numbers) where
  -- when an edge reads
  abbrev pub read_of : Edge → ℤ
  read_of e = s e.to -ℤ e.offset

  -- a node that edge j reads has a last read, and edge j reads no later
  pub record HasLast (edges : List Edge) (j : ℕ) : Type 0 where
    pub last : ℤ
    pub is : last_read s edges (edge_at edges j).from ≡ Some last
    pub above : read_of (edge_at edges j) ≤ℤ last

  greater_first : (z : ℤ) (o : Option ℤ) → z ≤ℤ greater z o
  greater_first z None = omega (arith, ints)
  greater_first z (Some y) = omega (arith, ints, clamps)

  pub has_last : (edges : List Edge) (j : ℕ) → j < length edges → HasLast edges j
  has_last [] j h = absurd (omega arith)
  has_last (e ∷ es) zero h =
      let o : Option ℤ = last_read s es e.from in
      record {
        last = greater (read_of e) o;
        is = ap (λ b. if b then Some (greater (read_of e) o) else o) (eq-eqb e.from e.from refl);
        above = greater_first (read_of e) o;
      }
  has_last (e ∷ es) (suc j) h =
      let t = by_test (e.from == u) (has_last es j (omega arith)) in
      record { last = t.0; is = t.1; above = t.2 }
    where
      u : ℕ
      u = (edge_at es j).from

      by_test : (b : Bool) → HasLast es j → (d : ℤ)
          × ((if b then Some (greater (read_of e) (last_read s es u)) else last_read s es u)
          ≡ Some d)
          × (read_of (edge_at es j) ≤ℤ d)
      by_test true r =
          let m = r.above in (
            int_max (read_of e) r.last,
            ap (λ o. Some (greater (read_of e) o)) r.is,
            omega (arith, ints, clamps, m),
          )
      by_test false r = (r.last, r.is, r.above)

  -- the last read is no later than what each of a node's edges reads no later than
  pub last_most : (edges : List Edge) (u : ℕ) (c d : ℤ)
      → ((j : ℕ) → j < length edges → (edge_at edges j).from ≡ u → read_of (edge_at edges j) ≤ℤ c)
      → last_read s edges u ≡ Some d → d ≤ℤ c
  last_most [] u c d each is = absurd (cc)
  last_most (e ∷ es) u c d each is =
      by_test (e.from == u) (λ t. each 0 (omega arith) (eqb-true e.from u t)) (last_read s es u)
      (λ z q. last_most es u c z (λ j h. each (suc j) (omega arith)) q) is
    where
      by_test : (b : Bool) → (b ≡ true → read_of e ≤ℤ c) → (o : Option ℤ)
          → ((z : ℤ) → o ≡ Some z → z ≤ℤ c)
          → (if b then Some (greater (read_of e) o) else o) ≡ Some d → d ≤ℤ c
      by_test true first None rest q =
          let same : read_of e ≡ d = cc in
          subst (λ z. z ≤ℤ c) same (first refl)
      by_test true first (Some z) rest q =
          let same : int_max (read_of e) z ≡ d = cc in
          let a = first refl in
          let b = rest z refl in
          subst (λ y. y ≤ℤ c) same (omega (arith, ints, clamps, a, b))
      by_test false first o rest q = rest d q
