-- What is open one step back.
use Rattle.std.proofs.Common.{◌≡◌, ◌∙◌, ℕ, ◌<◌, false, List, length, sym, ap, subst, arith}
use Rattle.std.specs.Prelude.{ℤ, pos, ◌+ℤ◌, ◌<ℤ◌}
use Rattle.std.proofs.lemmas.Int.{ints}
use Rattle.stream_graph.specs.declared.node.Node.{Node}
use Rattle.stream_graph.specs.LookUps.{kind_at, operands_at, operand_at}
use Rattle.kernel_family.specs.declared.place.Place.{Place}
use Rattle.kernel_family.specs.Steps.{ahead, IsStep, over, back}
use Rattle.kernel_words.specs.declared.streams.Streams.{Streams}
use Rattle.kernel_words.specs.Streams.{cell_at}
use Rattle.kernel_words.specs.Filling.{is_open, AreKnown, IsOpenBefore, NoOpenBefore, IsOpenOperand, NoOpenOperand}

module _ (nodes : List Node) (streams : Streams) (a : Place) where
  pub before_step : (b : Place) → IsOpenBefore nodes streams a b → IsStep nodes a b
  before_step b o = back o.keeper o.node o.tick

  pub operand_step : (b : Place) (n at : ℕ) → n ≡ a.node → pos at ≡ (pos a.tick +ℤ ahead (kind_at nodes a.node)) → IsOpenOperand nodes streams n at b
      → IsStep nodes a b
  operand_step b n at e t o =
      over o.operand (subst (λ m. o.operand < length (operands_at nodes m)) e o.within)
      (o.node ∙ ap (λ m. operand_at nodes m o.operand) e) (ap pos o.tick ∙ t)

  same_tick : (s t : ℕ) (z : ℤ) → pos s ≡ z → pos t ≡ z → t ≡ s
  same_tick s t z p q = omega (arith, ints, p, q)

  pub all_known : (n at : ℕ) → n ≡ a.node → pos at ≡ (pos a.tick +ℤ ahead (kind_at nodes a.node)) → NoOpenBefore nodes streams a
      → NoOpenOperand nodes streams n at → AreKnown nodes streams a
  all_known n at e t before operands b (back k m q) h =
      subst (λ u. is_open (cell_at streams u b.tick) ≡ false) (sym m) (before b.tick k q)
  all_known n at e t before operands b (over i l m q) h =
      let same : at ≡ b.tick = same_tick b.tick at (pos a.tick +ℤ ahead (kind_at nodes a.node)) q t in
      let there : at < streams.ticks = subst (λ k. k < streams.ticks) (sym same) h.tick in
      let known = operands i (subst (λ u. i < length (operands_at nodes u)) (sym e) l) there in
      subst (λ k. is_open (cell_at streams b.node k) ≡ false) same
      (subst (λ u. is_open (cell_at streams u at) ≡ false) (sym (m ∙ ap (λ k. operand_at nodes k i) (sym e))) known)

  pub early_known : (pos a.tick +ℤ ahead (kind_at nodes a.node)) <ℤ pos 0 → NoOpenBefore nodes streams a → AreKnown nodes streams a
  early_known early before b (back k m q) h =
      subst (λ u. is_open (cell_at streams u b.tick) ≡ false) (sym m) (before b.tick k q)
  early_known early before b (over i l m q) h = absurd (omega (arith, ints, early, q))
