-- What nodes are read as, past offset nodes.
use Rattle.std.proofs.Common.{
  ◌≡◌,
  ℕ,
  zero,
  suc,
  ◌*◌,
  ◌≤◌,
  ◌<◌,
  false,
  List,
  length,
  refl,
  ap,
  sym,
  ◌∙◌,
  arith,
  inl,
  inr,
  ◌⊎◌,
  ⊎_elim,
}
use Rattle.std.specs.Prelude.{ℤ, pos, ◌+ℤ◌, unsigned_abs}
use Rattle.std.proofs.lemmas.Int.{ints}
use Rattle.stream_graph.specs.declared.node.Kind.{Kind}
use Rattle.stream_graph.specs.declared.node.Kind.TheVariants as K
use Rattle.stream_graph.specs.declared.node.Node.{Node}
use Rattle.offset_edges.specs.declared.source.Source.{Source}
use Rattle.stream_graph.specs.LookUps.{kind_at, operand_at}
use Rattle.offset_edges.specs.Edges.{new_source, past, source_within, source_of}
use Rattle.stream_graph.specs.Kinds.{is_offset}
use Rattle.stream_graph.proofs.NodeLemmas.{IsOrderly}

-- of a kind: an offset, or another one
pub kind_cases : (kind : Kind) → ((ticks : ℤ) × (kind ≡ K.Offset ticks)) ⊎ (is_offset kind ≡ false)
kind_cases (K.Offset ticks) = inl (ticks, refl)
kind_cases _ = inr refl

past_other : (kind : Kind) (n : ℕ) (behind : Source) → is_offset kind ≡ false
    → past kind n behind ≡ new_source n (pos 0)
past_other (K.Offset ticks) n behind e = absurd (cc)
past_other _ n behind e = refl

module _ (nodes : List Node) (o : IsOrderly nodes) where
  -- so many steps are enough
  enough : (a b n : ℕ) → n ≤ a → n ≤ b → n < length nodes
      → source_within a nodes n ≡ source_within b nodes n
  enough zero zero n la lb h = refl
  enough zero (suc b) n la lb h = ⊎_elim
      (λ (p : (ticks : ℤ) × (kind_at nodes n ≡ K.Offset ticks)).
      let e = (o.offsets n p.0 h p.1).1 in absurd (omega arith))
      (λ (f : is_offset (kind_at nodes n) ≡ false). sym (past_other (kind_at nodes n) n
      (source_within b nodes (operand_at nodes n 0)) f))
      (kind_cases (kind_at nodes n))
  enough (suc a) zero n la lb h = ⊎_elim
      (λ (p : (ticks : ℤ) × (kind_at nodes n ≡ K.Offset ticks)).
      let e = (o.offsets n p.0 h p.1).1 in absurd (omega arith))
      (λ (f : is_offset (kind_at nodes n) ≡ false). past_other (kind_at nodes n) n (source_within a
      nodes (operand_at nodes n 0)) f)
      (kind_cases (kind_at nodes n))
  enough (suc a) (suc b) n la lb h = ⊎_elim
      (λ (p : (ticks : ℤ) × (kind_at nodes n ≡ K.Offset ticks)).
      let e = (o.offsets n p.0 h p.1).1 in
      ap (past (kind_at nodes n) n) (enough a b (operand_at nodes n 0) (omega arith) (omega arith)
      (omega arith)))
      (λ (f : is_offset (kind_at nodes n) ≡ false).
      past_other (kind_at nodes n) n (source_within a nodes (operand_at nodes n 0)) f
      ∙ sym (past_other (kind_at nodes n) n (source_within b nodes (operand_at nodes n 0)) f))
      (kind_cases (kind_at nodes n))

  -- an offset is read as its operand, so many ticks further ahead
  pub source_past : (n : ℕ) (ticks : ℤ) → n < length nodes → kind_at nodes n ≡ K.Offset ticks →
      source_of nodes n ≡ new_source (source_of nodes (operand_at nodes n 0)).node
      (ticks +ℤ (source_of nodes (operand_at nodes n 0)).offset)
  source_past n ticks h e =
      let l = (o.offsets n ticks h e).1 in
      enough n (suc n) n (omega arith) (omega arith) h
      ∙ ap (λ k. past k n (source_within n nodes (operand_at nodes n 0))) e
      ∙ ap (past (K.Offset ticks) n) (enough n (operand_at nodes n 0) (operand_at nodes n 0) (omega
      arith) (omega arith) (omega arith))

  -- another node as itself
  pub source_here : (n : ℕ) → n < length nodes → is_offset (kind_at nodes n) ≡ false
      → source_of nodes n ≡ new_source n (pos 0)
  source_here n h f =
      enough n (suc n) n (omega arith) (omega arith) h ∙ past_other (kind_at nodes n) n
      (source_within n nodes (operand_at nodes n 0)) f

  pub record IsSource (n : ℕ) : Type 0 where
    pub node : (source_of nodes n).node < length nodes
    pub stream : is_offset (kind_at nodes (source_of nodes n).node) ≡ false
    pub offset : unsigned_abs (source_of nodes n).offset ≤ n * 1048576

  -- at a node that is no offset
  sourced_here : (n : ℕ) → n < length nodes → is_offset (kind_at nodes n) ≡ false → IsSource n
  sourced_here n h f =
      let e = source_here n h f in
      let v : (source_of nodes n).node ≡ n = ap (λ s. s.node) e in
      let k : (source_of nodes n).offset ≡ pos 0 = ap (λ s. s.offset) e in
      record {
        node = omega arith;
        stream = ap (λ v. is_offset (kind_at nodes v)) v ∙ f;
        offset = omega (arith, ints, k);
      }

  -- at an offset, from what its operand is read as
  sourced_past : (n : ℕ) (ticks : ℤ) → n < length nodes → kind_at nodes n ≡ K.Offset ticks →
      IsSource (operand_at nodes n 0) → IsSource n
  sourced_past n ticks h e r =
      let f = o.offsets n ticks h e in
      let q = source_past n ticks h e in
      let v : (source_of nodes n).node ≡ (source_of nodes (operand_at nodes n 0)).node = ap (λ s.
      s.node) q in
      let k : (source_of nodes n).offset ≡ (ticks +ℤ (source_of nodes (operand_at nodes n
      0)).offset) = ap (λ s. s.offset) q in
      let below = r.node in
      let size = r.offset in
      let earlier = f.1 in
      let few = f.2 in
      record {
        node = omega arith;
        stream = ap (λ v. is_offset (kind_at nodes v)) v ∙ r.stream;
        offset = omega (arith, ints, k, size, few);
      }

  sourced : (m n : ℕ) → n ≤ m → n < length nodes → IsSource n
  sourced zero n l h = ⊎_elim
      (λ (p : (ticks : ℤ) × (kind_at nodes n ≡ K.Offset ticks)).
      let e = (o.offsets n p.0 h p.1).1 in absurd (omega arith))
      (λ (f : is_offset (kind_at nodes n) ≡ false). sourced_here n h f)
      (kind_cases (kind_at nodes n))
  sourced (suc m) n l h = ⊎_elim
      (λ (p : (ticks : ℤ) × (kind_at nodes n ≡ K.Offset ticks)).
      let e = (o.offsets n p.0 h p.1).1 in
      sourced_past n p.0 h p.1 (sourced m (operand_at nodes n 0) (omega arith) (omega arith)))
      (λ (f : is_offset (kind_at nodes n) ≡ false). sourced_here n h f)
      (kind_cases (kind_at nodes n))

  pub source_known : (n : ℕ) → n < length nodes → IsSource n
  source_known n h = sourced n n (omega arith) h
