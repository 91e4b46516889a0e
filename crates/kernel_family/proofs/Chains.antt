-- Places each of which is some steps behind another one. In a causal kernel none is behind itself.
use Rattle.std.proofs.Common.{◌≡◌, ◌∙◌, ℕ, ◌<◌, Bool, true, false, List, [], ◌∷◌, length, refl, sym, ap, subst, arith, inl, inr, ◌⊎◌}
use Rattle.std.specs.Prelude.{◌+ℤ◌, ◌<ℤ◌, ◌≤ℤ◌}
use Rattle.std.proofs.lemmas.Int.{ints}
use Rattle.stream_graph.specs.declared.node.Node.{Node}
use Rattle.offset_edges.specs.Edges.{edges_of, edge_at}
use Rattle.offset_edges.specs.Walks.{IsWalk, offsets_of, IsCausal}
use Rattle.kernel_family.specs.declared.place.Place.{Place}
use Rattle.kernel_family.proofs.Steps.{is_dead, base, base_tick, IsMove, past, wait, edge, rest}

-- the second place is at least one step behind the first
pub data IsBehind (nodes : List Node) (a b : Place) : Type 0 where
  ends : is_dead nodes a.node ≡ false → is_dead nodes b.node ≡ true → IsBehind nodes a b
  down :
      is_dead nodes a.node ≡ true
      → is_dead nodes b.node ≡ true
      → b.node < a.node
      → IsBehind nodes a b
  along :
      is_dead nodes a.node ≡ false
      → is_dead nodes b.node ≡ false
      → (js : List ℕ)
      → IsWalk (edges_of nodes) (base nodes b) js (base nodes a)
      → base_tick nodes b ≤ℤ (base_tick nodes a +ℤ offsets_of (edges_of nodes) js)
      → (0 < length js) ⊎ ((base_tick nodes b <ℤ base_tick nodes a) ⊎ (b.node < a.node))
      → IsBehind nodes a b

module _ (nodes : List Node) where
  same_dead : (a b : Place) → base nodes b ≡ base nodes a → is_dead nodes b.node ≡ is_dead nodes a.node
  same_dead a b e = ap (λ n. Rattle.stream_graph.specs.Kinds.is_steady (Rattle.stream_graph.specs.LookUps.kind_at nodes n)) e

  pub one : (a b : Place) → IsMove nodes a b → IsBehind nodes a b
  one a b (past e t l) = by_dead (is_dead nodes a.node) refl
    where
      by_dead : (d : Bool) → is_dead nodes a.node ≡ d → IsBehind nodes a b
      by_dead true d = down d (same_dead a b e ∙ d) l
      by_dead false d = along d (same_dead a b e ∙ d) [] e (omega (arith, ints, t)) (inr (inr l))
  one a b (wait e t d) = along d (same_dead a b e ∙ d) [] e (omega (arith, ints, t)) (inr (inl t))
  one a b (edge j h s f t d g) = along d g (j ∷ []) (h, s, f) (omega (arith, ints, t)) (inl (omega arith))
  one a b (rest d g) = ends d g

  clash : {X : Type 0} (b : Bool) → b ≡ true → b ≡ false → X
  clash b p q = absurd (cc)

  module _ (a b c : Place) (d : is_dead nodes a.node ≡ false) (g : is_dead nodes b.node ≡ false) (js : List ℕ)
      (w : IsWalk (edges_of nodes) (base nodes b) js (base nodes a))
      (t : base_tick nodes b ≤ℤ (base_tick nodes a +ℤ offsets_of (edges_of nodes) js)) where
    less_still : base_tick nodes c ≡ base_tick nodes b → c.node < b.node
        → (0 < length js) ⊎ ((base_tick nodes b <ℤ base_tick nodes a) ⊎ (b.node < a.node))
        → (0 < length js) ⊎ ((base_tick nodes c <ℤ base_tick nodes a) ⊎ (c.node < a.node))
    less_still e l (inl s) = inl s
    less_still e l (inr (inl s)) = inr (inl (omega (arith, ints, e, s)))
    less_still e l (inr (inr s)) = inr (inr (omega (arith, l, s)))

    walk_on : base nodes c ≡ base nodes b → IsWalk (edges_of nodes) (base nodes c) js (base nodes a)
    walk_on e = subst (λ v. IsWalk (edges_of nodes) v js (base nodes a)) (sym e) w

    less_wait : base_tick nodes c <ℤ base_tick nodes b
        → (0 < length js) ⊎ ((base_tick nodes b <ℤ base_tick nodes a) ⊎ (b.node < a.node))
        → (0 < length js) ⊎ ((base_tick nodes c <ℤ base_tick nodes a) ⊎ (c.node < a.node))
    less_wait e s = by_list js t
      where
        by_list : (ks : List ℕ) → base_tick nodes b ≤ℤ (base_tick nodes a +ℤ offsets_of (edges_of nodes) ks)
            → (0 < length ks) ⊎ ((base_tick nodes c <ℤ base_tick nodes a) ⊎ (c.node < a.node))
        by_list [] q = inr (inl (omega (arith, ints, e, q)))
        by_list (k ∷ ks) q = inl (omega arith)

    on_along : (0 < length js) ⊎ ((base_tick nodes b <ℤ base_tick nodes a) ⊎ (b.node < a.node)) → IsMove nodes b c
        → IsBehind nodes a c
    on_along s (past e u l) =
        along d (same_dead b c e ∙ g) js (walk_on e) (omega (arith, ints, t, u)) (less_still u l s)
    on_along s (wait e u f) =
        along d (same_dead b c e ∙ g) js (walk_on e) (omega (arith, ints, t, u)) (less_wait u s)
    on_along s (edge j h p f u x y) =
        along d y (j ∷ js) (h, p, subst (λ v. IsWalk (edges_of nodes) v js (base nodes a)) (sym f) w)
        (omega (arith, ints, t, u)) (inl (omega arith))
    on_along s (rest x y) = ends d y

  pub more : (a b c : Place) → IsBehind nodes a b → IsMove nodes b c → IsBehind nodes a c
  more a b c (along d g js w t s) m = on_along a b c d g js w t s m
  more a b c (ends d g) (past e u l) = ends d (same_dead b c e ∙ g)
  more a b c (ends d g) (wait e u f) = clash (is_dead nodes b.node) g f
  more a b c (ends d g) (edge j h p f u x y) = clash (is_dead nodes b.node) g x
  more a b c (ends d g) (rest x y) = clash (is_dead nodes b.node) g x
  more a b c (down d g l) (past e u k) = down d (same_dead b c e ∙ g) (omega (arith, l, k))
  more a b c (down d g l) (wait e u f) = clash (is_dead nodes b.node) g f
  more a b c (down d g l) (edge j h p f u x y) = clash (is_dead nodes b.node) g x
  more a b c (down d g l) (rest x y) = clash (is_dead nodes b.node) g x

  module _ (causal : IsCausal (edges_of nodes)) where
    never : (a : Place) → IsBehind nodes a a → ⊥
    never a (ends d g) = clash (is_dead nodes a.node) g d
    never a (down d g l) = omega (arith, l)
    never a (along d g js w t s) = by_list js w t s
      where
        by_list : (ks : List ℕ) → IsWalk (edges_of nodes) (base nodes a) ks (base nodes a)
            → base_tick nodes a ≤ℤ (base_tick nodes a +ℤ offsets_of (edges_of nodes) ks)
            → (0 < length ks) ⊎ ((base_tick nodes a <ℤ base_tick nodes a) ⊎ (a.node < a.node)) → ⊥
        by_list [] v q (inl l) = omega (arith, l)
        by_list [] v q (inr (inl l)) = omega (arith, ints, l)
        by_list [] v q (inr (inr l)) = omega (arith, l)
        by_list (k ∷ ks) v q r = let n = causal (base nodes a) k ks v in omega (arith, ints, q, n)

    -- two places of which one is behind the other differ
    pub apart : (a b : Place) → IsBehind nodes a b → a.node ≡ b.node → a.tick ≡ b.tick → ⊥
    apart a b h n t =
        let e : b ≡ a = sym (λ i. record { node = n i; tick = t i }) in
        never a (subst (IsBehind nodes a) e h)
