-- Runs that give the nodes of a kernel the same.
use Rattle.std.proofs.Common.{◌≡◌, ℕ, ◌<◌, cond, List, length, Option, Some, None, refl, sym, ap, ◌∙◌, subst}
use Rattle.stream_graph.specs.declared.node.Kind.{Kind}
use Rattle.stream_graph.specs.declared.node.Kind.TheVariants as K
use Rattle.stream_graph.specs.declared.node.Node.{Node}
use Rattle.stream_graph.specs.LookUps.{kind_at}
use Rattle.stream_equations.specs.Equations.{GivenRun, Values, StreamEquations, IsInRun, enabled, count_before, right_side}

pub record GiveSame (nodes : List Node) (one other : GivenRun) : Type 0 where
  pub ticks : one.ticks ≡ other.ticks
  pub scalar : (n : ℕ) → n < length nodes → one.scalar n ≡ other.scalar n
  pub source : (n i : ℕ) → n < length nodes → one.source n i ≡ other.source n i

module _ (nodes : List Node) (one other : GivenRun) (same : GiveSame nodes one other) (val : Values) where
  same_side : (n t : ℕ) → n < length nodes → (kind : Kind)
      → right_side nodes one val n t kind ≡ right_side nodes other val n t kind
  same_side n t h K.Input =
      ap (λ (word : Option ℕ). cond (enabled nodes val n t) word None) (same.source n (count_before (enabled nodes val n) t) h)
  same_side n t h K.Scalar = ap (λ (x : ℕ). Some x) (same.scalar n h)
  same_side n t h _ = refl

  -- what satisfies the equations in the one satisfies them in the other
  pub still_satisfied : StreamEquations nodes one val → StreamEquations nodes other val
  still_satisfied equations = record {
    inside = λ n t h l.
        equations.inside n t h (subst (λ ticks. t < ticks) (sym same.ticks) l)
        ∙ same_side n t h (kind_at nodes n);
    outside = λ n t out. equations.outside n t (λ h. out (subst (λ ticks. IsInRun ticks t) same.ticks h));
  }
