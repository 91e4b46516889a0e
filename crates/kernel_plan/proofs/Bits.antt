-- No word waits longer than the FIFOs of a schedule hold bits.
use Rattle.std.proofs.Common.{◌≡◌, ⊎_elim, ℕ, zero, suc, ◌<◌, ◌≤◌, Bool, true, false, List, [], ◌∷◌, length, refl, ap, subst, arith}
use Rattle.std.specs.Prelude.{ℤ, pos, ◌*ℤ◌, ◌≤ℤ◌, ◌==◌, Option, Some, None, if◌then◌else◌}
use Rattle.std.specs.Int.{int_max}
use Rattle.std.proofs.lemmas.Int.{ints, clamps}
use Rattle.std.proofs.lemmas.Bool.{cases_lt, eq-eqb}
use Rattle.cycle_find.specs.Constraints.{Numbers}
use Rattle.stream_graph.specs.declared.node.Node.{Node}
use Rattle.offset_edges.specs.declared.edge.Edge.{Edge}
use Rattle.offset_edges.specs.Edges.{edge_at}
use Rattle.stream_graph.specs.LookUps.{width_at}
use Rattle.offset_edges.specs.Schedules.{delay_of, IsLegal, greater, greatest_delay, bits_of, bits_below, fifo_bits}

-- ---- the greatest delay

greater_first : (d : ℤ) (o : Option ℤ) → d ≤ℤ greater d o
greater_first d None = omega (arith, ints)
greater_first d (Some e) = omega (arith, ints, clamps)

-- a node has a greatest delay, which is at least this
pub record HasGreatest (ticks : ℕ → ℕ) (s : Numbers) (edges : List Edge) (u : ℕ) (least : ℤ) : Type 0
  where
    pub greatest : ℤ
    pub is : greatest_delay ticks s edges u ≡ Some greatest
    pub above : least ≤ℤ greatest

pub has_greatest : (ticks : ℕ → ℕ) (s : Numbers) (edges : List Edge) (j : ℕ) → j < length edges
    → HasGreatest ticks s edges (edge_at edges j).from (delay_of ticks s (edge_at edges j))
has_greatest ticks s [] j h = absurd (omega arith)
has_greatest ticks s (e ∷ es) zero h =
    record {
      greatest = greater (delay_of ticks s e) (greatest_delay ticks s es e.from);
      is = ap (λ b. if b then Some (greater (delay_of ticks s e) (greatest_delay ticks s es e.from))
          else greatest_delay ticks s es e.from)
          (eq-eqb e.from e.from refl);
      above = greater_first (delay_of ticks s e) (greatest_delay ticks s es e.from);
    }
has_greatest ticks s (e ∷ es) (suc j) h =
    let t = by_test (e.from == (edge_at es j).from) (has_greatest ticks s es j (omega arith)) in
    record { greatest = t.0; is = t.1; above = t.2 }
  where
    by_test : (b : Bool) → HasGreatest ticks s es (edge_at es j).from (delay_of ticks s (edge_at es j)) →
        (d : ℤ) × ((if b then Some (greater (delay_of ticks s e) (greatest_delay ticks s es (edge_at es j).from))
        else greatest_delay ticks s es (edge_at es j).from) ≡ Some d) × (delay_of ticks s (edge_at es j) ≤ℤ d)
    by_test true r =
        let m = r.above in (
          int_max (delay_of ticks s e) r.greatest,
          ap (λ o. Some (greater (delay_of ticks s e) o)) r.is,
          omega (arith, ints, clamps, m),
        )
    by_test false r = (r.greatest, r.is, r.above)

-- no greatest delay is below 0
pub none_below : (ticks : ℕ → ℕ) (s : Numbers) (edges : List Edge) (u : ℕ) (d : ℤ)
    → IsLegal ticks edges s → greatest_delay ticks s edges u ≡ Some d → pos 0 ≤ℤ d
none_below ticks s [] u d legal e = absurd (cc)
none_below ticks s (x ∷ xs) u d legal e =
    by_test (x.from == u) (greatest_delay ticks s xs u) e (none_below ticks s xs u d (λ j h. legal (suc j) (omega (arith, h))))
  where
    by_test : (b : Bool) (o : Option ℤ) → (if b then Some (greater (delay_of ticks s x) o) else o) ≡ Some d
        → (o ≡ Some d → pos 0 ≤ℤ d) → pos 0 ≤ℤ d
    by_test true o e rest =
        let q : greater (delay_of ticks s x) o ≡ d = cc in
        let first = legal 0 (omega arith) in
        let g = greater_first (delay_of ticks s x) o in
        subst (λ z. pos 0 ≤ℤ z) q (omega (arith, ints, first, g))
    by_test false o e rest = rest e

-- ---- bits

no_product_below : (n : ℕ) (d : ℤ) → pos 0 ≤ℤ d → pos 0 ≤ℤ (pos n *ℤ d)
no_product_below zero d h = omega (arith, ints)
no_product_below (suc n) d h = omega (arith, ints, h, no_product_below n d h)

product_above : (n : ℕ) (d : ℤ) → 1 ≤ n → pos 0 ≤ℤ d → d ≤ℤ (pos n *ℤ d)
product_above zero d some h = absurd (omega (arith, some))
product_above (suc n) d some h = omega (arith, ints, h, no_product_below n d h)

no_bits_below : (nodes : List Node) (u : ℕ) (o : Option ℤ) → ((d : ℤ) → o ≡ Some d → pos 0 ≤ℤ d)
    → pos 0 ≤ℤ bits_of nodes u o
no_bits_below nodes u None h = omega (arith, ints)
no_bits_below nodes u (Some d) h = no_product_below (width_at nodes u) d (h d refl)

module _ (ticks : ℕ → ℕ) (nodes : List Node) (edges : List Edge) (s : Numbers) (legal : IsLegal ticks edges s) where
  of_node : (u : ℕ) → pos 0 ≤ℤ bits_of nodes u (greatest_delay ticks s edges u)
  of_node u = no_bits_below nodes u (greatest_delay ticks s edges u) (λ d e. none_below ticks s edges u d legal e)

  -- no FIFOs have fewer bits than none
  pub of_nodes : (n : ℕ) → pos 0 ≤ℤ bits_below ticks nodes edges s n
  of_nodes zero = omega (arith, ints)
  of_nodes (suc n) = let a = of_nodes n in let b = of_node n in omega (arith, ints, a, b)

  among : (u n : ℕ) → u < n
      → bits_of nodes u (greatest_delay ticks s edges u) ≤ℤ bits_below ticks nodes edges s n
  among u zero h = absurd (omega (arith, h))
  among u (suc n) h =
      let b = of_node n in
      ⊎_elim
      (λ (l : u < n). let a = among u n l in omega (arith, ints, a, b))
      (λ (l : n ≤ u).
      let e : n ≡ u = omega (arith, h, l) in
      let a = of_nodes n in
      let same = ap (λ v. bits_of nodes v (greatest_delay ticks s edges v)) e in
      omega (arith, ints, a, same))
      (cases_lt u n)

  -- words wait at most as many ticks as there are bits
  pub delay_at_most : (j : ℕ) → j < length edges → (edge_at edges j).from < length nodes
      → 1 ≤ width_at nodes (edge_at edges j).from
      → delay_of ticks s (edge_at edges j) ≤ℤ fifo_bits ticks nodes edges s
  delay_at_most j h from some =
      let u = (edge_at edges j).from in
      let g = has_greatest ticks s edges j h in
      let above = g.above in
      let start = none_below ticks s edges u g.greatest legal g.is in
      let p = product_above (width_at nodes u) g.greatest some start in
      let is : bits_of nodes u (greatest_delay ticks s edges u) ≡ pos (width_at nodes u) *ℤ g.greatest = ap (bits_of nodes u) g.is in
      let a = among u (length nodes) from in
      omega (arith, ints, above, p, is, a)
