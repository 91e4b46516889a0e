-- A step back, as one over the edges of a kernel.
use Rattle.std.proofs.Common.{◌≡◌, ◌∙◌, ℕ, zero, suc, ◌<◌, Bool, true, false, cond, eqb, List, [], ◌∷◌, ◌++◌, length, get_or, refl, sym, ap, subst, arith, inl, inr, ◌⊎◌}
use Rattle.std.specs.Prelude.{ℤ, pos, ◌+ℤ◌, ◌<ℤ◌}
use Rattle.std.specs.List.{flat_map}
use Rattle.std.proofs.lemmas.Int.{ints}
use Rattle.stream_graph.specs.declared.node.Kind.{Kind}
use Rattle.stream_graph.specs.declared.node.Kind.TheVariants as K
use Rattle.stream_graph.specs.declared.node.Node.{Node}
use Rattle.offset_edges.specs.declared.edge.Edge.{Edge}
use Rattle.stream_graph.specs.LookUps.{kind_at, operands_at, operand_at}
use Rattle.offset_edges.specs.Edges.{source_of, edge_of, edges_into, edges_below, edges_of, edge_at}
use Rattle.stream_graph.specs.Kinds.{is_steady, is_offset}
use Rattle.offset_edges.specs.Walks.{start_of, end_of}
use Rattle.stream_graph.proofs.KindLemmas.{state_moves}
use Rattle.stream_graph.proofs.NodeLemmas.{IsOrderly}
use Rattle.offset_edges.proofs.SourceLemmas.{kind_cases, source_past, source_here}
use Rattle.kernel_types.specs.Types.{AreTyped}
use Rattle.kernel_family.specs.declared.place.Place.{Place}
use Rattle.kernel_family.specs.Steps.{keeps, ahead, IsStep, over, back}

-- ---- edges by the operands that they are over

record IsAmong (edge : Edge) (edges : List Edge) : Type 0 where
  number : ℕ
  within : number < length edges
  same : edge_at edges number ≡ edge

at_left : (e : Edge) (xs ys : List Edge) → IsAmong e xs → IsAmong e (xs ++ ys)
at_left e xs ys a = by_list xs a.number a.within a.same
  where
    further : (x : Edge) (zs : List Edge) → IsAmong e zs → IsAmong e (x ∷ zs)
    further x zs q = record { number = suc q.number; within = (let l = q.within in omega (arith, l)); same = q.same }

    by_list : (zs : List Edge) (j : ℕ) → j < length zs → edge_at zs j ≡ e → IsAmong e (zs ++ ys)
    by_list [] j l s = absurd (omega (arith, l))
    by_list (z ∷ zs) zero l s = record { number = 0; within = omega arith; same = s }
    by_list (z ∷ zs) (suc j) l s = further z (zs ++ ys) (by_list zs j (omega (arith, l)) s)

at_right : (e : Edge) (xs ys : List Edge) → IsAmong e ys → IsAmong e (xs ++ ys)
at_right e [] ys a = a
at_right e (x ∷ xs) ys a =
    let q = at_right e xs ys a in
    record { number = suc q.number; within = (let l = q.within in omega (arith, l)); same = q.same }

in_flat : (f : ℕ → List Edge) (xs : List ℕ) (i : ℕ) (e : Edge) → i < length xs → f (get_or xs i 0) ≡ e ∷ []
    → IsAmong e (flat_map f xs)
in_flat f [] i e h s = absurd (omega (arith, h))
in_flat f (x ∷ xs) zero e h s =
    at_left e (f x) (flat_map f xs)
    (subst (IsAmong e) (sym s) (record { number = 0; within = omega arith; same = refl }))
in_flat f (x ∷ xs) (suc i) e h s = at_right e (f x) (flat_map f xs) (in_flat f xs i e (omega (arith, h)) s)

in_below : (nodes : List Node) (n reader : ℕ) (e : Edge) → reader < n → IsAmong e (edges_into nodes reader)
    → IsAmong e (edges_below nodes n)
in_below nodes zero reader e h a = absurd (omega (arith, h))
in_below nodes (suc n) reader e h a = by_test (eqb reader n) refl (λ l. in_below nodes n reader e l a)
  where
    by_test : (b : Bool) → eqb reader n ≡ b → (reader < n → IsAmong e (edges_below nodes n))
        → IsAmong e (edges_below nodes n ++ edges_into nodes n)
    by_test true q rest =
        let same : reader ≡ n = grind (arith, q) in
        at_right e (edges_below nodes n) (edges_into nodes n) (subst (λ k. IsAmong e (edges_into nodes k)) same a)
    by_test false q rest = at_left e (edges_below nodes n) (edges_into nodes n) (rest (grind (arith, q, h)))

-- an operand that isn't one word in all ticks is read over an edge
edge_among : (nodes : List Node) (reader i : ℕ) → reader < length nodes → is_offset (kind_at nodes reader) ≡ false
    → i < length (operands_at nodes reader)
    → is_steady (kind_at nodes (source_of nodes (operand_at nodes reader i)).node) ≡ false
    → IsAmong (record { from = (source_of nodes (operand_at nodes reader i)).node; to = reader; offset = (source_of nodes (operand_at nodes reader i)).offset })
    (edges_of nodes)
edge_among nodes reader i h f l s =
    let o = operand_at nodes reader i in
    let edge : Edge = record { from = (source_of nodes o).node; to = reader; offset = (source_of nodes o).offset } in
    let one : edge_of nodes reader o ≡ edge ∷ [] = ap (λ b. cond b [] (edge ∷ [])) s in
    let flat : IsAmong edge (flat_map (edge_of nodes reader) (operands_at nodes reader)) =
    in_flat (edge_of nodes reader) (operands_at nodes reader) i edge l one in
    let into : IsAmong edge (edges_into nodes reader) =
    subst (λ es. IsAmong edge es)
    (sym (ap (λ b. cond b [] (flat_map (edge_of nodes reader) (operands_at nodes reader))) f)) flat in
    in_below nodes (length nodes) reader edge h into

-- ---- moves

-- what a node is read as never changes: one word in all ticks
abbrev pub is_dead : List Node → ℕ → Bool
is_dead nodes n = is_steady (kind_at nodes (source_of nodes n).node)

-- the node that a place is read as, and the tick in which its word is
abbrev pub base : List Node → Place → ℕ
base nodes a = (source_of nodes a.node).node

abbrev pub base_tick : List Node → Place → ℤ
base_tick nodes a = pos a.tick +ℤ (source_of nodes a.node).offset

-- a step goes past an offset, a tick back, over an edge, or to one word in all ticks
pub data IsMove (nodes : List Node) (a b : Place) : Type 0 where
  past :
      base nodes b ≡ base nodes a
      → base_tick nodes b ≡ base_tick nodes a
      → b.node < a.node
      → IsMove nodes a b
  wait :
      base nodes b ≡ base nodes a
      → base_tick nodes b <ℤ base_tick nodes a
      → is_dead nodes a.node ≡ false
      → IsMove nodes a b
  edge :
      (j : ℕ)
      → j < length (edges_of nodes)
      → start_of (edges_of nodes) j ≡ base nodes b
      → end_of (edges_of nodes) j ≡ base nodes a
      → base_tick nodes b ≡ (base_tick nodes a +ℤ (edge_at (edges_of nodes) j).offset)
      → is_dead nodes a.node ≡ false
      → is_dead nodes b.node ≡ false
      → IsMove nodes a b
  rest : is_dead nodes a.node ≡ false → is_dead nodes b.node ≡ true → IsMove nodes a b

keeper : (kind : Kind) → keeps kind ≡ true → (is_offset kind ≡ false) × (is_steady kind ≡ false)
keeper K.Input e = (refl, refl)
keeper kind e = state_moves kind e

still : (kind : Kind) → is_offset kind ≡ false → ahead kind ≡ pos 0
still (K.Offset ticks) e = absurd (cc)
still _ e = refl

module _ (nodes : List Node) (o : IsOrderly nodes) (typed : AreTyped nodes) where
  -- a node that is no offset is read as itself
  here : (n : ℕ) → n < length nodes → is_offset (kind_at nodes n) ≡ false → (source_of nodes n).node ≡ n
  here n h f = ap (λ s. s.node) (source_here nodes o n h f)

  here_now : (n : ℕ) → n < length nodes → is_offset (kind_at nodes n) ≡ false → (source_of nodes n).offset ≡ pos 0
  here_now n h f = ap (λ s. s.offset) (source_here nodes o n h f)

  back_move : (a b : Place) → a.node < length nodes → keeps (kind_at nodes a.node) ≡ true → b.node ≡ a.node
      → a.tick ≡ suc b.tick → IsMove nodes a b
  back_move a b h k e t =
      let q = keeper (kind_at nodes a.node) k in
      let same : (source_of nodes b.node).offset ≡ (source_of nodes a.node).offset = ap (λ n. (source_of nodes n).offset) e in
      wait (ap (λ n. (source_of nodes n).node) e) (omega (arith, ints, t, same))
      (ap (λ n. is_steady (kind_at nodes n)) (here a.node h q.0) ∙ q.1)

  past_move : (a b : Place) (ticks : ℤ) (i : ℕ) → a.node < length nodes → kind_at nodes a.node ≡ K.Offset ticks
      → i < length (operands_at nodes a.node) → b.node ≡ operand_at nodes a.node i
      → pos b.tick ≡ (pos a.tick +ℤ ahead (kind_at nodes a.node)) → IsMove nodes a b
  past_move a b ticks i h k l e t =
      let single = typed.offsets a.node ticks h k in
      let zeroth : i ≡ 0 = omega (arith, l, single) in
      let operand : b.node ≡ operand_at nodes a.node 0 = e ∙ ap (operand_at nodes a.node) zeroth in
      let p = source_past nodes o a.node ticks h k in
      let node : (source_of nodes a.node).node ≡ (source_of nodes b.node).node =
      ap (λ s. s.node) p ∙ ap (λ n. (source_of nodes n).node) (sym operand) in
      let offset : (source_of nodes a.node).offset ≡ (ticks +ℤ (source_of nodes b.node).offset) =
      ap (λ s. s.offset) p ∙ ap (λ n. ticks +ℤ (source_of nodes n).offset) (sym operand) in
      let jump : ahead (kind_at nodes a.node) ≡ ticks = ap ahead k in
      let earlier = (o.offsets a.node ticks h k).1 in
      past (sym node) (omega (arith, ints, t, offset, jump)) (omega (arith, operand, earlier))

  read_move : (a b : Place) (i : ℕ) → a.node < length nodes → is_offset (kind_at nodes a.node) ≡ false
      → i < length (operands_at nodes a.node) → b.node ≡ operand_at nodes a.node i
      → pos b.tick ≡ (pos a.tick +ℤ ahead (kind_at nodes a.node)) → IsMove nodes a b
  read_move a b i h f l e t = by_steady (is_steady (kind_at nodes a.node)) refl
    where
      jump : ahead (kind_at nodes a.node) ≡ pos 0
      jump = still (kind_at nodes a.node) f

      awake : is_steady (kind_at nodes a.node) ≡ false → is_dead nodes a.node ≡ false
      awake s = ap (λ n. is_steady (kind_at nodes n)) (here a.node h f) ∙ s

      by_dead : is_dead nodes a.node ≡ false → (d : Bool) → is_dead nodes b.node ≡ d → IsMove nodes a b
      by_dead s true d = rest s d
      by_dead s false d =
          let u = operand_at nodes a.node i in
          let among = edge_among nodes a.node i h f l (sym (ap (λ n. is_dead nodes n) e) ∙ d) in
          let offset : (edge_at (edges_of nodes) among.number).offset ≡ (source_of nodes b.node).offset =
          ap (λ (x : Edge). x.offset) among.same ∙ sym (ap (λ n. (source_of nodes n).offset) e) in
          let now = here_now a.node h f in
          edge among.number among.within
          (ap (λ (x : Edge). x.from) among.same ∙ sym (ap (λ n. (source_of nodes n).node) e))
          (ap (λ (x : Edge). x.to) among.same ∙ sym (here a.node h f))
          (omega (arith, ints, t, offset, now, jump)) s d

      by_steady : (s : Bool) → is_steady (kind_at nodes a.node) ≡ s → IsMove nodes a b
      by_steady true s = let none = o.steady a.node h s in absurd (omega (arith, l, none))
      by_steady false s = by_dead (awake s) (is_dead nodes b.node) refl

  pub move_of : (a b : Place) → a.node < length nodes → IsStep nodes a b → IsMove nodes a b
  move_of a b h (back k e t) = back_move a b h k e t
  move_of a b h (over i l e t) = by_offset (kind_cases (kind_at nodes a.node))
    where
      by_offset : ((ticks : ℤ) × (kind_at nodes a.node ≡ K.Offset ticks)) ⊎ (is_offset (kind_at nodes a.node) ≡ false)
          → IsMove nodes a b
      by_offset (inl p) = past_move a b p.0 i h p.1 l e t
      by_offset (inr f) = read_move a b i h f l e t
