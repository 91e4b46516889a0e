-- What a layout says of the signals that nodes read.
use Rattle.std.proofs.Common.{
  ◌≡◌,
  ◌∙◌,
  ℕ,
  zero,
  suc,
  ◌+◌,
  ◌-◌,
  ◌≤◌,
  ◌<◌,
  Bool,
  true,
  false,
  cond,
  eqb,
  List,
  [],
  ◌∷◌,
  map,
  length,
  get_or,
  refl,
  ap,
  sym,
  subst,
  arith,
  ⊎_elim,
}
use Rattle.std.specs.Prelude.{ℤ, pos, ◌-ℤ◌, Contains}
use Rattle.std.proofs.lemmas.Bool.{false≢true, cases_Bool}
use Rattle.digraph.specs.Graph.{reads_of}
use Rattle.stream_graph.specs.declared.node.Kind.{Kind}
use Rattle.stream_graph.specs.declared.node.Kind.TheVariants as K
use Rattle.stream_graph.specs.declared.node.Node.{Node}
use Rattle.offset_edges.specs.declared.edge.Edge.{Edge}
use Rattle.offset_edges.specs.declared.source.Source.{Source}
use Rattle.stream_graph.specs.LookUps.{kind_at, operands_at, operand_at, width_at}
use Rattle.offset_edges.specs.Edges.{source_of, edges_of}
use Rattle.stream_graph.specs.Kinds.{is_steady, is_offset}
use Rattle.stream_graph.proofs.NodeLemmas.{IsOrderly}
use Rattle.offset_edges.proofs.SourceLemmas.{kind_cases, source_past, source_here, source_known}
use Rattle.kernel_layout.specs.declared.layout.Layout.{Layout}
use Rattle.kernel_layout.specs.declared.reads.Read.{Read}
use Rattle.kernel_layout.specs.Reads.{no_read, read_at, reads_count, behind_of, direct_of, IsRead}
use Rattle.kernel_layout.specs.Layouts.{stages_at}
use Rattle.kernel_layout.proofs.Sourcing.{edge_among, among_within, among_is}
use Rattle.kernel_layout.proofs.Staging.{read_shown}
use Rattle.kernel_wiring.specs.Words.{has_word, is_wired, reads_at, IsLaidOut}
use Rattle.kernel_wiring.specs.OneNode.{takes}
use Rattle.fix_arith.specs.Types.{width_of}
use Rattle.kernel_types.specs.Types.{is_like, AreTyped}

-- all nodes but offsets have words
stays_word : (k : Kind) → is_offset k ≡ false → has_word k ≡ true
stays_word (K.Offset ticks) f = absurd (false≢true (sym f))
stays_word _ f = refl

wired_stays : (k : Kind) → is_wired k ≡ true → is_offset k ≡ false
wired_stays (K.Offset ticks) e = absurd (false≢true e)
wired_stays _ e = refl

pub takes_wired : (k : Kind) (place : ℕ) → takes k place ≡ true → is_wired k ≡ true
takes_wired (K.Offset ticks) place e = absurd (false≢true e)
takes_wired K.Chain place e = absurd (false≢true e)
takes_wired K.Input place e = absurd (false≢true e)
takes_wired K.Scalar place e = absurd (false≢true e)
takes_wired K.Counter place e = absurd (false≢true e)
takes_wired _ place e = refl

-- a direct read is among those of the graph
pub direct_has : (rs : List Read) (p : ℕ) → p < length rs → (get_or rs p no_read).behind ≡ 0
    → (i : ℕ) × (i < length (direct_of rs)) × (get_or (direct_of rs) i 0 ≡ (get_or rs p no_read).source)
direct_has [] p h z = absurd (omega arith)
direct_has (r ∷ rs) zero h z =
    let e : eqb r.behind 0 ≡ true = grind (arith, z) in
    let q : cond true (r.source ∷ direct_of rs) (direct_of rs) ≡ direct_of (r ∷ rs) = ap (λ b. cond b (r.source ∷ direct_of rs) (direct_of rs)) (sym e) in
    let l : 0 < length (r.source ∷ direct_of rs) = omega arith in
    (0, subst (λ (xs : List ℕ). 0 < length xs) q l, subst (λ (xs : List ℕ). get_or xs 0 0 ≡ r.source) q refl)
direct_has (r ∷ rs) (suc p) h z = by_test (eqb r.behind 0) (direct_has rs p (omega (arith, h)) z)
  where
    by_test : (b : Bool) → ((i : ℕ) × (i < length (direct_of rs)) × (get_or (direct_of rs) i 0 ≡ (get_or rs p no_read).source))
        → (i : ℕ) × (i < length (cond b (r.source ∷ direct_of rs) (direct_of rs))) ×
        (get_or (cond b (r.source ∷ direct_of rs) (direct_of rs)) i 0 ≡ (get_or rs p no_read).source)
    by_test true d = (suc d.0, (let l = d.1 in omega (arith, l)), d.2)
    by_test false d = d

graph_at : (reads : List (List Read)) (b : ℕ) → reads_of (map direct_of reads) b ≡ direct_of (get_or reads b [])
graph_at [] b = refl
graph_at (rs ∷ reads) zero = refl
graph_at (rs ∷ reads) (suc b) = graph_at reads b

graph_length : (reads : List (List Read)) → length (map direct_of reads) ≡ length reads
graph_length [] = refl
graph_length (rs ∷ reads) = ap suc (graph_length reads)

within_list : (xs : List ℕ) (v : ℕ) → 0 < get_or xs v 0 → v < length xs
within_list [] v h = absurd (omega arith)
within_list (x ∷ xs) zero h = omega arith
within_list (x ∷ xs) (suc v) h = let q = within_list xs v h in omega (arith, q)

pub count_some : (b : Bool) (size : ℕ) → b ≡ false → cond b 0 size ≡ size
count_some true size e = absurd (false≢true (sym e))
count_some false size e = refl

count_stays : (b : Bool) (size p : ℕ) → p < cond b 0 size → b ≡ false
count_stays true size p h = absurd (omega (arith, h))
count_stays false size p h = refl

module _ (nodes : List Node) (o : IsOrderly nodes) (t : AreTyped nodes) where
  -- what a node is read as has words of its width
  width_here : (n : ℕ) → n < length nodes → is_offset (kind_at nodes n) ≡ false → width_at nodes (source_of nodes n).node ≡ width_at nodes n
  width_here n h f = ap (λ (s : Source). width_at nodes s.node) (source_here nodes o n h f)

  width_past : (n : ℕ) (ticks : ℤ) → n < length nodes → kind_at nodes n ≡ K.Offset ticks
      → width_at nodes (source_of nodes (operand_at nodes n 0)).node ≡ width_at nodes (operand_at nodes n 0)
      → width_at nodes (source_of nodes n).node ≡ width_at nodes n
  width_past n ticks h e r =
      ap (λ (s : Source). width_at nodes s.node) (source_past nodes o n ticks h e) ∙ r ∙ ap width_of (t.firsts n h (ap is_like e)).same

  width_within : (m n : ℕ) → n ≤ m → n < length nodes → width_at nodes (source_of nodes n).node ≡ width_at nodes n
  width_within zero n l h = ⊎_elim
      (λ (p : (ticks : ℤ) × (kind_at nodes n ≡ K.Offset ticks)). let e = (o.offsets n p.0 h p.1).1 in absurd (omega (arith, e, l)))
      (λ (f : is_offset (kind_at nodes n) ≡ false). width_here n h f)
      (kind_cases (kind_at nodes n))
  width_within (suc m) n l h = ⊎_elim
      (λ (p : (ticks : ℤ) × (kind_at nodes n ≡ K.Offset ticks)).
      let e = (o.offsets n p.0 h p.1).1 in
      width_past n p.0 h p.1 (width_within m (operand_at nodes n 0) (omega (arith, e, l)) (omega (arith, e, h))))
      (λ (f : is_offset (kind_at nodes n) ≡ false). width_here n h f)
      (kind_cases (kind_at nodes n))

  source_width : (n : ℕ) → n < length nodes → width_at nodes (source_of nodes n).node ≡ width_at nodes n
  source_width n h = width_within n n (omega arith) h

  module _ (layout : Layout) (laid : IsLaidOut nodes layout) where
    -- a read of a node
    pub record IsReadOf (n place : ℕ) : Type 0 where
      pub below : place < length (operands_at nodes n)
      pub inside : (read_at (reads_at layout n) place).source < length nodes
      pub kept : ((read_at (reads_at layout n) place).behind ≡ 0 → ⊥)
          → Contains (stages_at layout (read_at (reads_at layout n) place).source) (read_at (reads_at layout n) place).behind
      pub width : width_at nodes (read_at (reads_at layout n) place).source ≡ width_at nodes (operand_at nodes n place)
      pub word : has_word (kind_at nodes (read_at (reads_at layout n) place).source) ≡ true
      pub ranked : (read_at (reads_at layout n) place).behind ≡ 0
          → get_or laid.is.order.rank (read_at (reads_at layout n) place).source 0 < get_or laid.is.order.rank n 0

    read_kept : (n i : ℕ) → n < length nodes → is_offset (kind_at nodes n) ≡ false → i < length (operands_at nodes n) → (r : Read)
        → IsRead nodes laid.times n (operand_at nodes n i) r
        → (r.behind ≡ 0 → ⊥) → Contains (stages_at layout r.source) r.behind
    read_kept n i h f l r is moves =
        let s = laid.times in
        let source = source_of nodes (operand_at nodes n i) in
        let steady : is_steady (kind_at nodes r.source) ≡ false = ⊎_elim
        (λ (e : is_steady (kind_at nodes r.source) ≡ true). absurd (moves (is.steady e)))
        (λ (e : is_steady (kind_at nodes r.source) ≡ false). e)
        (cases_Bool (is_steady (kind_at nodes r.source))) in
        let a = edge_among nodes n i h f l (ap (λ v. is_steady (kind_at nodes v)) (sym is.source) ∙ steady) in
        let at = among_is (edges_of nodes) a.0 _ (record { from = 0; to = 0; offset = pos 0 }) a.1 in
        let waits = ap (behind_of s) at ∙ ap (λ u. (s n -ℤ s u) -ℤ source.offset) (sym is.source) ∙ sym (is.moving steady) in
        let some : 0 < r.behind = positive r.behind moves in
        read_shown nodes laid.ticks s r.source (get_or layout.pipeline r.source 0) (get_or layout.waits r.source []) (laid.is.waits.each r.source is.inside)
        (laid.is.pipeline.each r.source is.inside) r.behind some
        (a.0, among_within (edges_of nodes) a.0 _ a.1, ap (λ (e : Edge). e.from) at ∙ sym is.source, waits)
      where
        positive : (b : ℕ) → (b ≡ 0 → ⊥) → 0 < b
        positive zero none = absurd (none refl)
        positive (suc b) none = omega arith

    read_ranked : (n i : ℕ) → n < length nodes → i < length (reads_at layout n) → (read_at (reads_at layout n) i).behind ≡ 0
        → get_or laid.is.order.rank (read_at (reads_at layout n) i).source 0 < get_or laid.is.order.rank n 0
    read_ranked n i h l z =
        let rank = laid.is.order.rank in
        let d = direct_has (reads_at layout n) i l z in
        let e = graph_at layout.reads n in
        let size = graph_length layout.reads in
        let count = laid.is.reads.counted in
        let inner = subst (λ (xs : List ℕ). d.0 < length xs) (sym e) d.1 in
        let rising = laid.is.order.rising.rising n d.0 (omega (arith, size, count, h)) inner in
        subst (λ u. get_or rank u 0 < get_or rank n 0) (ap (λ (xs : List ℕ). get_or xs d.0 0) e ∙ d.2) rising

    pub read_of : (n i : ℕ) → n < length nodes → i < length (reads_at layout n) → IsReadOf n i
    read_of n i h l =
        let all = laid.is.reads.each n h in
        let count = all.counted in
        let below_count : i < reads_count nodes n = omega (arith, count, l) in
        let stays = count_stays (is_offset (kind_at nodes n)) (length (operands_at nodes n)) i below_count in
        let size = count_some (is_offset (kind_at nodes n)) (length (operands_at nodes n)) stays in
        let below : i < length (operands_at nodes n) = omega (arith, size, below_count) in
        let r = all.each i below_count in
        record {
          below = below;
          inside = r.inside;
          kept = λ moves. read_kept n i h stays below (read_at (reads_at layout n) i) r moves;
          width = ap (width_at nodes) r.source ∙ source_width (operand_at nodes n i) (o.operands n i h below);
          word = ap (λ v. has_word (kind_at nodes v)) r.source ∙ stays_word (kind_at nodes (source_of nodes (operand_at nodes n i)).node)
              (source_known nodes o (operand_at nodes n i) (o.operands n i h below)).stream;
          ranked = λ z. read_ranked n i h l z;
        }

    -- a node that gets wires reads all its operands
    pub reads_all : (n : ℕ) → n < length nodes → is_wired (kind_at nodes n) ≡ true → length (reads_at layout n) ≡ length (operands_at nodes n)
    reads_all n h w = (laid.is.reads.each n h).counted ∙ count_some (is_offset (kind_at nodes n)) (length (operands_at nodes n))
        (wired_stays (kind_at nodes n) w)

    -- ---- the order

    pub node_in : (i : ℕ) → i < length layout.order → get_or layout.order i 0 < length nodes
    node_in i l =
        let place = laid.is.order.placed.place i l in
        let some : 0 < get_or laid.is.order.rank (get_or layout.order i 0) 0 = omega (arith, place) in
        let inside = within_list laid.is.order.rank (get_or layout.order i 0) some in
        let a = laid.is.order.rising.size in
        let b = graph_length layout.reads in
        let c = laid.is.reads.counted in
        omega (arith, inside, a, b, c)

    pub record HasPlace (u : ℕ) : Type 0 where
      pub place : ℕ
      pub within : place < length layout.order
      pub node : get_or layout.order place 0 ≡ u
      pub rank : get_or laid.is.order.rank u 0 ≡ place + 1

    pub place_of : (u : ℕ) → u < length nodes → HasPlace u
    place_of u h =
        let b = graph_length layout.reads in
        let c = laid.is.reads.counted in
        let some = laid.is.order.placed.some u (omega (arith, h, b, c)) in
        let most = laid.is.order.placed.at_most u in
        record {
          place = get_or laid.is.order.rank u 0 - 1;
          within = omega (arith, some, most);
          node = laid.is.order.placed.back u some;
          rank = omega (arith, some);
        }
