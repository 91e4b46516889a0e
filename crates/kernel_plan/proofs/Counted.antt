-- How many registers the pipelines of a layout have: at most 64 for a node. How many waits it has: at
-- most one for an operand.
use Rattle.std.proofs.Common.{◌≡◌, ℕ, zero, suc, ◌+◌, ◌-◌, ◌*◌, ◌<◌, ◌≤◌, get_or, refl, ap, sym, subst, arith, length-append}
use Rattle.std.specs.Prelude.{Bool, true, false, List, [], ◌∷◌, length, Contains, pos, ◌==◌, if◌then◌else◌, unsigned_abs, nat_eq, nat_lt}
use Rattle.std.specs.List.{flat_map}
use Rattle.std.specs.List.Sorted.{IsStrictlyIncreasing}
use Rattle.std.proofs.lemmas.Int.{ints}
use Rattle.std.proofs.lemmas.Bool.{eq-eqb, ne_eqb, eqb-true}
use Rattle.std.proofs.lemmas.Cmp.{nat_eq_equiv}
use Rattle.std.proofs.lemmas.List.Kept.{AllPairs-from_increasing}
use Rattle.std.proofs.lemmas.Map.Keys.{IsDistinct-from_apart}
use Rattle.std.proofs.lemmas.Map.Made.{length-le_from_is_member}
use Rattle.std.proofs.lemmas.Map.Views.{Contains-from_any, list_any-from_Contains}
use Rattle.cycle_find.specs.Constraints.{Numbers}
use Rattle.stream_graph.specs.declared.node.Node.{Node}
use Rattle.offset_edges.specs.declared.edge.Edge.{Edge}
use Rattle.stream_graph.specs.LookUps.{kind_at, operands_at, no_node}
use Rattle.offset_edges.specs.Edges.{source_of, edge_of, edges_into, edges_below, edges_of, edge_at}
use Rattle.stream_graph.specs.Kinds.{is_steady, is_offset}
use Rattle.offset_edges.proofs.EdgeLemmas.{few_flat}
use Rattle.kernel_layout.specs.Reads.{behind_of}
use Rattle.kernel_layout.specs.Waits.{AreWaits}
use Rattle.kernel_layout.specs.Layouts.{AreLatencies, AreAllWaits}
use Rattle.kernel_stages.specs.Numbers.{rings_from, register_count, wait_count, ring_count}
use Rattle.kernel_wiring.specs.OneNode.{operand_count}
use Rattle.kernel_wiring.proofs.Sums.{sum_below, sum_front, sum_at_most, sum_of_two, sum_of_same, sum_of_list, one_at, one_among}

-- ---- rising numbers

-- rising numbers that all stand in a list are at most as many as stand in it
few_among : (xs ys : List ℕ) → IsStrictlyIncreasing xs → ((x : ℕ) → Contains xs x → Contains ys x)
    → length xs ≤ length ys
few_among xs ys up among =
    length-le_from_is_member nat_eq_equiv xs ys (IsDistinct-from_apart nat_eq xs apart)
    (λ q found. list_any-from_Contains nat_eq_equiv q ys (among q (Contains-from_any {eq = nat_eq} eqb-true q xs found)))
  where
    apart : (i j : ℕ) (d : ℕ) → i < j → j < length xs → nat_eq (get_or xs i d) (get_or xs j d) ≡ false
    apart i j d lt within =
        let below = AllPairs-from_increasing xs up i j d lt within in
        ne_eqb (get_or xs i d) (get_or xs j d) (λ e. absurd (omega (arith, below, e)))

-- ---- the edges from a node

-- for how many advances behind this latency the words of node u wait for the reader of each edge
-- from it
abbrev waits : ℕ → Numbers → List Edge → ℕ → List ℕ
waits latency s [] u = []
waits latency s (e ∷ es) u =
    if e.from == u then (unsigned_abs (behind_of s e) - latency) ∷ waits latency s es u else waits latency s es u

-- the word of node u waits so long for the reader of an edge from it
among_waits : (latency : ℕ) (s : Numbers) (edges : List Edge) (u b j : ℕ) → j < length edges
    → (edge_at edges j).from ≡ u → behind_of s (edge_at edges j) ≡ pos (latency + b) → Contains (waits latency s edges u) b
among_waits latency s [] u b j within from is = absurd (omega (arith, within))
among_waits latency s (e ∷ es) u b zero within from is =
    subst (λ (t : Bool). Contains (if t then (unsigned_abs (behind_of s e) - latency) ∷ waits latency s es u else waits latency s es u) b)
    (sym (eq-eqb e.from u from)) (0, omega arith, omega (arith, ints, is))
among_waits latency s (e ∷ es) u b (suc j) within from is =
    later (e.from == u) (among_waits latency s es u b j (omega (arith, within)) from is)
  where
    later : (t : Bool) → Contains (waits latency s es u) b
        → Contains (if t then (unsigned_abs (behind_of s e) - latency) ∷ waits latency s es u else waits latency s es u) b
    later true c = let lt = c.1 in (suc c.0, omega (arith, lt), c.2)
    later false c = c

-- an edge is counted at the node that it comes from, and at no other one
waits_more : (latency : ℕ) (s : Numbers) (e : Edge) (es : List Edge) (u : ℕ)
    → length (waits latency s (e ∷ es) u) ≡ one_at e.from u + length (waits latency s es u)
waits_more latency s e es u = by_test (e.from == u)
  where
    by_test : (t : Bool) → length (if t then (unsigned_abs (behind_of s e) - latency) ∷ waits latency s es u else waits latency s es u)
        ≡ (if t then 1 else 0) + length (waits latency s es u)
    by_test true = omega arith
    by_test false = omega arith

-- so the edges from the first so many nodes are together at most all edges
waits_few : (ticks : ℕ → ℕ) (s : Numbers) (edges : List Edge) (n : ℕ)
    → sum_below (λ u. length (waits (ticks u) s edges u)) n ≤ length edges
waits_few ticks s [] n = let none = sum_of_same 0 n in omega (arith, none)
waits_few ticks s (e ∷ es) n =
    let parts = sum_at_most (λ u. length (waits (ticks u) s (e ∷ es) u)) (λ u. one_at e.from u + length (waits (ticks u) s es u)) n
    (λ u h. let more = waits_more (ticks u) s e es u in omega (arith, more)) in
    let two = sum_of_two (one_at e.from) (λ u. length (waits (ticks u) s es u)) n in
    let first = one_among e.from n in
    let rest = waits_few ticks s es n in
    omega (arith, parts, two, first, rest)

-- ---- the waits of a node

-- they are at most the edges from it
node_few : (nodes : List Node) (ticks : ℕ → ℕ) (s : Numbers) (u : ℕ) (own : List ℕ) → AreWaits nodes ticks s u own
    → length own ≤ length (waits (ticks u) s (edges_of nodes) u)
node_few nodes ticks s u own a = few_among own (waits (ticks u) s (edges_of nodes) u) a.rising (λ x c.
    let r = ((a.each x).0 c).1 in
    among_waits (ticks u) s (edges_of nodes) u x r.0 r.1 r.2 r.3)

-- those whose delays are rings are some of them
rings_few : (prior : ℕ) (own : List ℕ) → rings_from prior own ≤ length own
rings_few prior [] = omega arith
rings_few prior (s ∷ ss) = by_test (nat_lt (prior + 1) s) (rings_few s ss)
  where
    by_test : (t : Bool) → rings_from s ss ≤ length ss → (if t then 1 else 0) + rings_from s ss ≤ suc (length ss)
    by_test true few = omega (arith, few)
    by_test false few = omega (arith, few)

-- ---- the edges of all nodes

module _ (nodes : List Node) where
  -- an operand is read over at most one edge
  edge_few : (reader operand : ℕ) → length (edge_of nodes reader operand) ≤ 1
  edge_few reader operand =
      by_test (is_steady (kind_at nodes (source_of nodes operand).node))
      (record { from = (source_of nodes operand).node; to = reader; offset = (source_of nodes operand).offset })
    where
      by_test : (t : Bool) (e : Edge) → length (if t then [] else e ∷ []) ≤ 1
      by_test true e = omega arith
      by_test false e = omega arith

  -- so a node's operands are read over at most as many
  into_few : (n : ℕ) → length (edges_into nodes n) ≤ length (operands_at nodes n)
  into_few n =
      by_test (is_offset (kind_at nodes n)) (flat_map (edge_of nodes n) (operands_at nodes n))
      (few_flat (edge_of nodes n) (operands_at nodes n) (edge_few n))
    where
      by_test : (t : Bool) (es : List Edge) → length es ≤ length (operands_at nodes n)
          → length (if t then [] else es) ≤ length (operands_at nodes n)
      by_test true es few = omega arith
      by_test false es few = few

  -- and those of the first so many nodes
  below_few : (n : ℕ) → length (edges_below nodes n) ≤ sum_below (λ k. length (operands_at nodes k)) n
  below_few zero = omega arith
  below_few (suc n) =
      let before = below_few n in
      let last = into_few n in
      let both = length-append (edges_below nodes n) (edges_into nodes n) in
      omega (arith, before, last, both)

  -- there are at most as many edges as operands
  edges_few : length (edges_of nodes) ≤ operand_count nodes
  edges_few =
      let few = below_few (length nodes) in
      let all = sum_of_list (λ (node : Node). length node.operands) no_node nodes in
      omega (arith, few, all)

-- ---- all nodes

-- the waits are those of each node
all_counted : (all : List (List ℕ))
    → wait_count all ≡ sum_below (λ u. length (get_or all u [])) (length all)
all_counted [] = refl
all_counted (ss ∷ rest) =
    let behind = all_counted rest in
    let front = sum_front (λ u. length (get_or (ss ∷ rest) u [])) (length rest) in
    omega (arith, behind, front)

-- they are at most one for an operand
pub waits_counted : (nodes : List Node) (ticks : ℕ → ℕ) (s : Numbers) (all : List (List ℕ))
    → AreAllWaits nodes ticks s (length nodes) all → wait_count all ≤ operand_count nodes
waits_counted nodes ticks s all own =
    let count = all_counted all in
    let same = ap (sum_below (λ u. length (get_or all u []))) own.counted in
    let each = sum_at_most (λ u. length (get_or all u [])) (λ u. length (waits (ticks u) s (edges_of nodes) u)) (length nodes)
    (λ u h. node_few nodes ticks s u (get_or all u []) (own.each u h)) in
    let read = waits_few ticks s (edges_of nodes) (length nodes) in
    let edges = edges_few nodes in
    omega (arith, count, same, each, read, edges)

rings_of : (all : List (List ℕ)) → ring_count all ≤ wait_count all
rings_of [] = omega arith
rings_of (ss ∷ rest) =
    let here = rings_few 0 ss in
    let more = rings_of rest in
    omega (arith, here, more)

-- so are those whose delays are rings
pub rings_counted : (nodes : List Node) (ticks : ℕ → ℕ) (s : Numbers) (all : List (List ℕ))
    → AreAllWaits nodes ticks s (length nodes) all → ring_count all ≤ operand_count nodes
rings_counted nodes ticks s all own =
    let some = rings_of all in
    let few = waits_counted nodes ticks s all own in
    omega (arith, some, few)

some_registers : (latencies : List ℕ) → ((u : ℕ) → u < length latencies → get_or latencies u 0 ≤ 64)
    → register_count latencies ≤ 64 * length latencies
some_registers [] most = omega arith
some_registers (l ∷ ls) most =
    let here = most 0 (omega arith) in
    let rest = some_registers ls (λ u lt. most (suc u) (omega (arith, lt))) in
    omega (arith, here, rest)

-- where no latency is above 64, pipelines have at most 64 registers for a node
pub registers_counted : (nodes : List Node) (ticks : ℕ → ℕ) (latencies : List ℕ) → AreLatencies ticks (length nodes) latencies
    → ((u : ℕ) → ticks u ≤ 64) → register_count latencies ≤ 64 * length nodes
registers_counted nodes ticks latencies all most =
    let few = some_registers latencies (λ u lt.
    let counted = all.counted in
    let is = all.each u (omega (arith, lt, counted)) in
    let m = most u in
    omega (arith, is, m)) in
    let counted = all.counted in
    omega (arith, few, counted)
