-- The words that the equations give have the widths of their nodes.
use Rattle.std.proofs.Common.{◌≡◌, ◌∙◌, ℕ, zero, suc, ◌+◌, ◌-◌, ◌<◌, ◌^◌, Bool, true, false, cond, List, [], ◌∷◌, map, length, get_or, Option, Some, refl, ap, sym, subst, arith}
use Rattle.std.specs.Prelude.{ℤ, pos}
use Rattle.std.proofs.lemmas.Nat.{pow_pos}
use Rattle.std.proofs.lemmas.List.{get_or-map}
use Rattle.mx_bits.specs.declared.op.Op.TheVariants.{Mux}
use Rattle.counter_chains.specs.declared.digits.CounterDigit.{CounterDigit}
use Rattle.counter_chains.specs.Chains.{part_at, chain_at}
use Rattle.fix_arith.specs.declared.types.StreamType.{StreamType}
use Rattle.fix_arith.specs.declared.types.StreamType.TheVariants.{UInt}
use Rattle.fix_arith.specs.declared.types.RoundMode.{RoundMode}
use Rattle.fix_arith.specs.Types.{width_of}
use Rattle.fix_arith.specs.Table.{GivesType}
use Rattle.stream_graph.specs.declared.node.Kind.TheVariants as K
use Rattle.stream_graph.specs.declared.node.Node.{Node}
use Rattle.stream_graph.specs.LookUps.{kind_at, operands_at, operand_at, width_at, type_at}
use Rattle.stream_equations.specs.Equations.{Values, enabled, held, first_word}
use Rattle.kernel_types.specs.Types.{is_like, AreTyped}
use Rattle.kernel_words.specs.Streams.{AreWords}
use Rattle.kernel_words.specs.Sides.{hold_at}

-- a counter by itself is a chain of one
pub alone_chain : (ds : List CounterDigit) (t : ℕ) → length ds ≡ 1 → part_at ds 0 t ≡ chain_at ds t
alone_chain [] t e = absurd (omega (arith, e))
alone_chain (d ∷ []) t e = omega arith
alone_chain (d ∷ c ∷ ds) t e = absurd (omega (arith, e))

held_small : (m : ℕ) (test : ℕ → Bool) (word : ℕ → Option ℕ) → 0 < m → ((s x : ℕ) → word s ≡ Some x → x < m)
    → (t x : ℕ) → held test word t ≡ Some x → x < m
held_small m test word some small zero x e = by_test (test 0) e
  where
    by_test : (b : Bool) → cond b (word 0) (Some 0) ≡ Some x → x < m
    by_test true q = small 0 x q
    by_test false q = let z : 0 ≡ x = cc in omega (arith, z, some)
held_small m test word some small (suc t) x e = by_test (test (suc t)) e (held_small m test word some small t x)
  where
    by_test : (b : Bool) → cond b (word (suc t)) (held test word t) ≡ Some x → (held test word t ≡ Some x → x < m) → x < m
    by_test true q rest = small (suc t) x q
    by_test false q rest = rest q

option_type : (types : List StreamType) (amount : ℕ) (out : StreamType) (s : ℕ) (d : StreamType) → GivesType Mux types amount out
    → s < length types - 1 → get_or types (suc s) d ≡ out
option_type [] amount out s d g l = absurd (omega (arith, l))
option_type (t ∷ types) amount out s d g l = g.1.one_type s d (omega (arith, l)) ∙ sym g.1.result

module _ (nodes : List Node) (typed : AreTyped nodes) (val : Values) (words : AreWords nodes val) where
  pub like_small : (n x : ℕ) (t : ℤ) → n < length nodes → is_like (kind_at nodes n) ≡ true
      → val (operand_at nodes n 0) t ≡ Some x → x < 2 ^ width_at nodes n
  like_small n x t h like e =
      let f = typed.firsts n h like in
      subst (λ u. x < 2 ^ width_of u) f.same (words (operand_at nodes n 0) t x (typed.inside n 0 h f.some) e)

  pub hold_small : (n t x : ℕ) → n < length nodes → is_like (kind_at nodes n) ≡ true → hold_at nodes val n t ≡ Some x
      → x < 2 ^ width_at nodes n
  hold_small n t x h like e =
      held_small (2 ^ width_at nodes n) (enabled nodes val n) (λ s. first_word nodes val n (pos s)) (pow_pos (width_at nodes n))
      (λ s y q. like_small n y (pos s) h like q) t x e

  pub option_small : (n s i x : ℕ) (t : ℤ) (mode : RoundMode) (amount : ℕ) → n < length nodes
      → kind_at nodes n ≡ K.Operation Mux mode amount → s < length (operands_at nodes n) - 1 → i ≡ s + 1
      → val (operand_at nodes n i) t ≡ Some x → x < 2 ^ width_at nodes n
  option_small n s i x t mode amount h k l q e =
      let xs = operands_at nodes n in
      let inside : i < length (operands_at nodes n) = omega (arith, l, q) in
      let at : suc s ≡ i = omega (arith, q) in
      let len : length (map (type_at nodes) (operands_at nodes n)) ≡ length (operands_at nodes n) = mapped (operands_at nodes n) in
      let t1 : get_or (map (type_at nodes) (operands_at nodes n)) (suc s) (UInt 0) ≡ type_at nodes n =
      option_type (map (type_at nodes) (operands_at nodes n)) amount (type_at nodes n) s (UInt 0) (typed.operations n Mux mode amount h k)
      (omega (arith, l, len)) in
      let t2 : get_or (map (type_at nodes) (operands_at nodes n)) i (UInt 0) ≡ type_at nodes (operand_at nodes n i) =
      get_or-map (type_at nodes) (operands_at nodes n) i 0 (UInt 0) inside in
      let t3 : type_at nodes (operand_at nodes n i) ≡ type_at nodes n =
      sym t2 ∙ ap (λ k. get_or (map (type_at nodes) (operands_at nodes n)) k (UInt 0)) (sym at) ∙ t1 in
      subst (λ u. x < 2 ^ width_of u) t3 (words (operand_at nodes n i) t x (typed.inside n i h inside) e)
    where
      mapped : (ys : List ℕ) → length (map (type_at nodes) ys) ≡ length ys
      mapped [] = refl
      mapped (y ∷ ys) = let r = mapped ys in omega (arith, r)
