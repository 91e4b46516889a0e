-- In a causal kernel no node reads itself over words that are read as they are computed.
use Rattle.std.proofs.Common.{arith, ◌≡◌, ◌∙◌, ◌<◌, ◌≤◌, ◌+◌, ◌-◌, ℕ, zero, suc, Bool, true, false, cond, eqb, List, [], ◌∷◌, map, length, get_or, refl, sym, ap, subst, ⊎_elim}
use Rattle.std.specs.Prelude.{pos, ◌+ℤ◌, ◌-ℤ◌, slice_index, slice_index_or}
use Rattle.std.proofs.lemmas.Bool.{false≢true, cases_Bool}
use Rattle.std.proofs.lemmas.Int.{ints}
use Rattle.cycle_find.specs.Constraints.{Numbers}
use Rattle.digraph.specs.Graph.{reads_of, IsGraph, Reads, IsClosedWalk}
use Rattle.stream_graph.specs.declared.node.Node.{Node}
use Rattle.offset_edges.specs.declared.edge.Edge.{Edge}
use Rattle.stream_graph.specs.LookUps.{kind_at, operands_at, operand_at}
use Rattle.offset_edges.specs.Edges.{source_of, edges_of, edge_at}
use Rattle.stream_graph.specs.Kinds.{is_steady, is_offset}
use Rattle.offset_edges.specs.Walks.{IsWalk, IsCausal, start_of, end_of, offsets_of}
use Rattle.stream_graph.proofs.NodeLemmas.{IsOrderly}
use Rattle.kernel_layout.specs.declared.reads.Read.{Read}
use Rattle.kernel_layout.specs.Reads.{reads_count, read_at, direct_of}
use Rattle.kernel_layout.specs.Layouts.{AreReads, HaveNoLoop}
use Rattle.kernel_layout.proofs.Sourcing.{edge_among, among_within, among_is}

-- a read that is direct
record IsDirect (rs : List Read) (a : ℕ) : Type 0 where
  place : ℕ
  within : place < length rs
  now : (read_at rs place).behind ≡ 0
  is : (read_at rs place).source ≡ a

further : (r : Read) (rs : List Read) (a : ℕ) → IsDirect rs a → IsDirect (r ∷ rs) a
further r rs a h = record { place = suc h.place; within = let w = h.within in omega (arith, w); now = h.now; is = h.is }

among : (rs : List Read) (i : ℕ) → i < length (direct_of rs) → IsDirect rs (get_or (direct_of rs) i 0)
among [] i h = absurd (omega arith)
among (r ∷ rs) i h = by_test (eqb r.behind 0) refl i h (λ j k. among rs j k)
  where
    by_test : (b : Bool) → eqb r.behind 0 ≡ b → (i : ℕ) → i < length (cond b (r.source ∷ direct_of rs) (direct_of rs))
        → ((j : ℕ) → j < length (direct_of rs) → IsDirect rs (get_or (direct_of rs) j 0)) → IsDirect (r ∷ rs) (get_or (cond b (r.source ∷ direct_of rs) (direct_of rs)) i 0)
    by_test false e i h more = further r rs _ (more i h)
    by_test true e zero h more = record { place = 0; within = omega arith; now = grind (arith, e); is = refl }
    by_test true e (suc i) h more = further r rs _ (more i (omega (arith, h)))

-- what a node of the graph reads
reads_at : (reads : List (List Read)) (b : ℕ) → reads_of (map direct_of reads) b ≡ direct_of (slice_index_or reads b [])
reads_at [] b = refl
reads_at (rs ∷ reads) zero = refl
reads_at (rs ∷ reads) (suc b) = reads_at reads b

some_within : (reads : List (List Read)) (b i : ℕ) → i < length (direct_of (slice_index_or reads b [])) → b < length reads
some_within [] b i h = absurd (omega arith)
some_within (rs ∷ reads) zero i h = omega arith
some_within (rs ∷ reads) (suc b) i h = let q = some_within reads b i h in omega (arith, q)

map_length : (reads : List (List Read)) → length (map direct_of reads) ≡ length reads
map_length [] = refl
map_length (rs ∷ reads) = ap suc (map_length reads)

module _ (nodes : List Node) (s : Numbers) (o : IsOrderly nodes) (reads : List (List Read)) (a : AreReads nodes s (length nodes) reads) where
  -- a direct read of a node, with its place among the operands
  record IsReadAt (b u : ℕ) : Type 0 where
    node : b < length nodes
    place : ℕ
    below : place < reads_count nodes b
    source : (source_of nodes (operand_at nodes b place)).node ≡ u
    inside : u < length nodes
    now : is_steady (kind_at nodes u) ≡ false → pos 0 ≡ ((s b -ℤ s u) -ℤ (source_of nodes (operand_at nodes b place)).offset)

  read_at_place : (b u : ℕ) → Reads (map direct_of reads) b u → IsReadAt b u
  read_at_place b u h =
      let e = reads_at reads b in
      let l : h.0 < length (direct_of (slice_index_or reads b [])) = subst (λ (xs : List ℕ). h.0 < length xs) e h.1 in
      let d = among (slice_index_or reads b []) h.0 l in
      let w = some_within reads b h.0 l in
      let size = a.counted in
      let n : b < length nodes = omega (arith, w, size) in
      let all = a.each b n in
      let count = all.counted in
      let inner = d.within in
      let below : d.place < reads_count nodes b = omega (arith, inner, count) in
      let r = all.each d.place below in
      let is : (read_at (slice_index_or reads b []) d.place).source ≡ u = d.is ∙ ap (λ (xs : List ℕ). get_or xs h.0 0) (sym e) ∙ h.2 in
      let zero_behind = d.now in
      record {
        node = n;
        place = d.place;
        below = below;
        source = sym r.source ∙ is;
        inside = subst (λ k. k < length nodes) is r.inside;
        now = λ f.
            let m = r.moving (ap (λ k. is_steady (kind_at nodes k)) is ∙ f) in
            let x : s (read_at (slice_index_or reads b []) d.place).source ≡ s u = ap s is in
            omega (arith, ints, m, x, zero_behind);
      }

  none_below : (b : Bool) (size p : ℕ) → size ≤ 0 → p < cond b 0 size → ⊥
  none_below true size p h l = omega (arith, l)
  none_below false size p h l = omega (arith, h, l)

  none_over : (b : Bool) (size p : ℕ) → b ≡ true → p < cond b 0 size → ⊥
  none_over true size p e l = omega (arith, l)
  none_over false size p e l = absurd (false≢true e)

  counted_below : (b : Bool) (size p : ℕ) → b ≡ false → p < cond b 0 size → p < size
  counted_below true size p e l = absurd (false≢true (sym e))
  counted_below false size p e l = l

  -- a node that reads isn't one word in all ticks, nor an offset
  reader_moves : (b u : ℕ) → IsReadAt b u → is_steady (kind_at nodes b) ≡ false
  reader_moves b u h = ⊎_elim
      (λ (e : is_steady (kind_at nodes b) ≡ true).
      absurd (none_below (is_offset (kind_at nodes b)) (length (operands_at nodes b)) h.place (o.steady b h.node e) h.below))
      (λ (e : is_steady (kind_at nodes b) ≡ false). e)
      (cases_Bool (is_steady (kind_at nodes b)))

  reader_stays : (b u : ℕ) → IsReadAt b u → is_offset (kind_at nodes b) ≡ false
  reader_stays b u h = ⊎_elim
      (λ (e : is_offset (kind_at nodes b) ≡ true). absurd (none_over (is_offset (kind_at nodes b)) (length (operands_at nodes b)) h.place e h.below))
      (λ (e : is_offset (kind_at nodes b) ≡ false). e)
      (cases_Bool (is_offset (kind_at nodes b)))

  -- the edge over which a word is read as it is computed
  record IsStep (b u : ℕ) : Type 0 where
    edge : ℕ
    within : edge < length (edges_of nodes)
    from : start_of (edges_of nodes) edge ≡ u
    to : end_of (edges_of nodes) edge ≡ b
    time : s b ≡ s u +ℤ (edge_at (edges_of nodes) edge).offset

  step_of : (b u : ℕ) → IsReadAt b u → is_steady (kind_at nodes u) ≡ false → IsStep b u
  step_of b u h f =
      let n = operand_at nodes b h.place in
      let stays = reader_stays b u h in
      let inside = counted_below (is_offset (kind_at nodes b)) (length (operands_at nodes b)) h.place stays h.below in
      let moving : is_steady (kind_at nodes (source_of nodes n).node) ≡ false = ap (λ k. is_steady (kind_at nodes k)) h.source ∙ f in
      let e = edge_among nodes b h.place h.node stays inside moving in
      let at = among_is (edges_of nodes) e.0 _ (record { from = 0; to = 0; offset = pos 0 }) e.1 in
      let off : (edge_at (edges_of nodes) e.0).offset ≡ (source_of nodes n).offset = ap (λ (x : Edge). x.offset) at in
      let t = h.now f in
      record {
        edge = e.0;
        within = among_within (edges_of nodes) e.0 _ e.1;
        from = ap (λ (x : Edge). x.from) at ∙ h.source;
        to = ap (λ (x : Edge). x.to) at;
        time = omega (arith, ints, t, off);
      }

  module _ (walk : List ℕ) (w : IsClosedWalk (map direct_of reads) walk) where
    walk_moves : (i : ℕ) → i < length walk → is_steady (kind_at nodes (get_or walk i 0)) ≡ false
    walk_moves zero h = reader_moves _ _ (read_at_place _ _ w.last)
    walk_moves (suc i) h =
        let l : i + 1 < length walk = omega (arith, h) in
        let e : i + 1 ≡ suc i = omega arith in
        subst (λ k. is_steady (kind_at nodes (get_or walk k 0)) ≡ false) e (reader_moves _ _ (read_at_place _ _ (w.each i l)))

    record IsRest (k : ℕ) : Type 0 where
      first : ℕ
      more : List ℕ
      along : IsWalk (edges_of nodes) (get_or walk k 0) (first ∷ more) (get_or walk 0 0)
      time : s (get_or walk 0 0) ≡ s (get_or walk k 0) +ℤ offsets_of (edges_of nodes) (first ∷ more)

    rest : (n k : ℕ) → k + n + 1 ≡ length walk → IsRest k
    rest zero k e =
        let last : length walk - 1 ≡ k = omega (arith, e) in
        let inside : k < length walk = omega (arith, e) in
        let r = subst (λ n. IsReadAt (get_or walk 0 0) (get_or walk n 0)) last (read_at_place _ _ w.last) in
        let t = step_of (get_or walk 0 0) (get_or walk k 0) r (walk_moves k inside) in
        let time = t.time in
        record {
          first = t.edge;
          more = [];
          along = (t.within, t.from, t.to);
          time = omega (arith, ints, time);
        }
    rest (suc n) k e =
        let l : k + 1 < length walk = omega (arith, e) in
        let inside : k < length walk = omega (arith, e) in
        let f : (k + 1) + n + 1 ≡ length walk = omega (arith, e) in
        let t = step_of (get_or walk (k + 1) 0) (get_or walk k 0) (read_at_place _ _ (w.each k l)) (walk_moves k inside) in
        let q = rest n (k + 1) f in
        let first = t.time in
        let later = q.time in
        record {
          first = t.edge;
          more = q.first ∷ q.more;
          along = (t.within, t.from, subst (λ v. IsWalk (edges_of nodes) v (q.first ∷ q.more) (get_or walk 0 0)) (sym t.to) q.along);
          time = omega (arith, ints, first, later);
        }

    no_walk : IsCausal (edges_of nodes) → ⊥
    no_walk causal =
        let some = w.some in
        let e : 0 + (length walk - 1) + 1 ≡ length walk = omega (arith, some) in
        let q = rest (length walk - 1) 0 e in
        let back = causal (get_or walk 0 0) q.first q.more q.along in
        let time = q.time in
        omega (arith, ints, back, time)

  is_graph : IsGraph (map direct_of reads)
  is_graph b i h =
      let r = read_at_place b (slice_index (reads_of (map direct_of reads) b) i) (i, h, refl) in
      let size = a.counted in
      let same = map_length reads in
      let inside = r.inside in
      omega (arith, size, same, inside)

  pub no_loop : IsCausal (edges_of nodes) → HaveNoLoop reads
  no_loop causal = record { graph = is_graph; none = λ walk w. no_walk walk w causal }
