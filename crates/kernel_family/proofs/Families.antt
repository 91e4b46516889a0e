-- Families that satisfy the equations of a causal kernel are one.
use Rattle.std.proofs.Common.{◌≡◌, ◌∙◌, ℕ, zero, suc, ◌+◌, ◌*◌, ◌≤◌, ◌<◌, Bool, true, false, ltb, List, [], ◌∷◌, ◌++◌, length, refl, sym, subst, arith, inl, inr, ◌⊎◌, ⊎_elim, length-append}
use Rattle.std.specs.Prelude.{ℤ, pos, negsuc, ◌+ℤ◌}
use Rattle.std.proofs.lemmas.Bool.{ltb-true, cases_lt}
use Rattle.std.proofs.lemmas.Int.{ints}
use Rattle.stream_graph.specs.declared.node.Kind.{Kind}
use Rattle.stream_graph.specs.declared.node.Kind.TheVariants as K
use Rattle.stream_graph.specs.declared.node.Node.{Node}
use Rattle.stream_graph.specs.LookUps.{kind_at, operands_at, operand_at}
use Rattle.offset_edges.specs.Edges.{edges_of}
use Rattle.offset_edges.specs.Walks.{IsCausal}
use Rattle.stream_graph.proofs.NodeLemmas.{IsOrderly}
use Rattle.stream_equations.specs.Equations.{GivenRun, Values, StreamEquations, IsInRun}
use Rattle.kernel_types.specs.Types.{AreTyped}
use Rattle.kernel_family.specs.declared.place.Place.{Place}
use Rattle.kernel_family.specs.Laws.{HasOneFamily}
use Rattle.kernel_family.specs.Steps.{keeps, ahead, IsStep, over, back}
use Rattle.kernel_family.proofs.Sides.{ReadSame, same_side}
use Rattle.kernel_family.proofs.Paths.{IsPath, few, stepped, alone}

-- a tick is one of the run or not
pub in_or_out : (ticks : ℕ) (t : ℤ) → ((n : ℕ) × ((t ≡ pos n) × (n < ticks))) ⊎ (IsInRun ticks t → ⊥)
in_or_out ticks (pos n) = by_test (ltb n ticks) refl
  where
    by_test : (b : Bool) → ltb n ticks ≡ b → ((k : ℕ) × ((pos n ≡ pos k) × (k < ticks))) ⊎ (IsInRun ticks (pos n) → ⊥)
    by_test true e = inl (n, (refl, ltb-true n ticks e))
    by_test false e = inr (λ h. let k : n < ticks = omega (arith, ints, h.1) in grind (arith, e, k))
in_or_out ticks (negsuc n) = inr (λ h. omega (arith, ints, h.0))

-- a node that keeps something reads its operands now
pub keeps_now : (kind : Kind) → keeps kind ≡ true → ahead kind ≡ pos 0
keeps_now (K.Offset ticks) e = absurd (cc)
keeps_now _ e = refl

module _ (nodes : List Node) (o : IsOrderly nodes) (typed : AreTyped nodes) (causal : IsCausal (edges_of nodes))
    (run : GivenRun) (one other : Values) (first : StreamEquations nodes run one) (second : StreamEquations nodes run other)
  where
    abbrev Same : ℕ → ℤ → Type 0
    Same n t = one n t ≡ other n t

    -- a place has one word, and so have the operands of a node that keeps something, up to there
    record IsSame (a : Place) : Type 0 where
      now : Same a.node (pos a.tick)
      before :
          keeps (kind_at nodes a.node) ≡ true
          → (i s : ℕ)
          → i < length (operands_at nodes a.node)
          → s ≤ a.tick
          → Same (operand_at nodes a.node i) (pos s)

    nothing : (n : ℕ) (t : ℤ) → (IsInRun run.ticks t → ⊥) → Same n t
    nothing n t out = first.outside n t out ∙ sym (second.outside n t out)

    -- what every place one step behind is
    abbrev AreSame : Place → Type 0
    AreSame a = (b : Place) → IsStep nodes a b → b.node < length nodes → b.tick < run.ticks → IsSame b

    read_same : (a : Place) → a.node < length nodes → a.tick < run.ticks → AreSame a → ReadSame nodes one other a.node a.tick
    read_same a h l all = record { now = now; before = before }
      where
        now : (i : ℕ) → i < length (operands_at nodes a.node)
            → Same (operand_at nodes a.node i) (pos a.tick +ℤ ahead (kind_at nodes a.node))
        now i k = by_tick (in_or_out run.ticks (pos a.tick +ℤ ahead (kind_at nodes a.node)))
          where
            by_tick : ((n : ℕ) × (((pos a.tick +ℤ ahead (kind_at nodes a.node)) ≡ pos n) × (n < run.ticks)))
                ⊎ (IsInRun run.ticks (pos a.tick +ℤ ahead (kind_at nodes a.node)) → ⊥)
                → Same (operand_at nodes a.node i) (pos a.tick +ℤ ahead (kind_at nodes a.node))
            by_tick (inr out) = nothing (operand_at nodes a.node i) (pos a.tick +ℤ ahead (kind_at nodes a.node)) out
            by_tick (inl (n, (e, f))) =
                let b : Place = record { node = operand_at nodes a.node i; tick = n } in
                subst (Same (operand_at nodes a.node i)) (sym e)
                (all b (over i k refl (sym e)) (o.operands a.node i h k) f).now

        before : keeps (kind_at nodes a.node) ≡ true → (i s : ℕ) → i < length (operands_at nodes a.node) → s ≤ a.tick
            → Same (operand_at nodes a.node i) (pos s)
        before e i s k m = ⊎_elim
            (λ (f : s < a.tick). earlier a.tick refl f)
            (λ (f : a.tick ≤ s).
            let zeroth = keeps_now (kind_at nodes a.node) e in
            let at : (pos a.tick +ℤ ahead (kind_at nodes a.node)) ≡ pos s = omega (arith, ints, zeroth, f, m) in
            subst (Same (operand_at nodes a.node i)) at (now i k))
            (cases_lt s a.tick)
          where
            earlier : (t : ℕ) → a.tick ≡ t → s < t → Same (operand_at nodes a.node i) (pos s)
            earlier zero q f = absurd (omega (arith, f))
            earlier (suc t) q f =
                let b : Place = record { node = a.node; tick = t } in
                (all b (back e refl q) h (omega (arith, l, q))).before e i s k (omega (arith, f))

    same_here : (a : Place) → a.node < length nodes → a.tick < run.ticks → AreSame a → IsSame a
    same_here a h l all =
        let r = read_same a h l all in
        record {
          now = first.inside a.node a.tick h l ∙ same_side nodes one other typed run a.node a.tick h r
              ∙ sym (second.inside a.node a.tick h l);
          before = r.before;
        }

    agree : (fuel : ℕ) (xs : List Place) (x : Place) → IsPath nodes run.ticks (xs ++ x ∷ [])
        → length nodes * run.ticks ≤ length xs + fuel → x.node < length nodes → x.tick < run.ticks → IsSame x
    agree zero xs x p h n l =
        let q = few nodes run.ticks causal (xs ++ x ∷ []) p in
        let len = length-append xs (x ∷ []) in
        absurd (omega (arith, q, len, h))
    agree (suc fuel) xs x p h n l =
        same_here x n l (λ b s m k.
        let len = length-append xs (x ∷ []) in
        agree fuel (xs ++ x ∷ []) b (stepped nodes o typed run.ticks xs x b p s m k) (omega (arith, h, len)) m k)

    pub one_word : (n : ℕ) (t : ℤ) → n < length nodes → Same n t
    one_word n t h = by_tick (in_or_out run.ticks t)
      where
        by_tick : ((k : ℕ) × ((t ≡ pos k) × (k < run.ticks))) ⊎ (IsInRun run.ticks t → ⊥) → Same n t
        by_tick (inr out) = nothing n t out
        by_tick (inl (k, (e, f))) =
            let x : Place = record { node = n; tick = k } in
            subst (Same n) (sym e)
            (agree (length nodes * run.ticks) [] x (alone nodes run.ticks x h f) (omega arith) h f).now

pub one_family : (nodes : List Node) → IsOrderly nodes → AreTyped nodes → HasOneFamily nodes
one_family nodes o typed run one other causal first second n t h =
    one_word nodes o typed causal run one other first second n t h
