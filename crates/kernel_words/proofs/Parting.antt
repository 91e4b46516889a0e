-- A part of the word of a chain.
use Rattle.std.proofs.Common.{◌≡◌, ℕ, zero, suc, ◌+◌, ◌≤◌, ◌<◌, List, [], ◌∷◌, length, Some, ap, arith}
use Rattle.std.specs.Prelude.{All, slice_get}
use Rattle.counter_chains.specs.Digits.{IsDigit}
use Rattle.counter_chains.specs.Chains.{bits_of, bits_below}
use Rattle.stream_graph.specs.declared.node.Kind.TheVariants as K
use Rattle.stream_graph.specs.declared.node.Node.{Node}
use Rattle.stream_graph.specs.LookUps.{kind_at, operand_at, width_at, digits_at}
use Rattle.kernel_types.specs.Types.{counts, AreTyped, AreCounting, IsPartOf}
use Rattle.counter_chains.proofs.Below.{bits_within}

within_got : {X : Type 0} (xs : List X) (i : ℕ) (x : X) → slice_get xs i ≡ Some x → i < length xs
within_got [] i x e = absurd (cc)
within_got (y ∷ ys) zero x e = omega arith
within_got (y ∷ ys) (suc i) x e = let q = within_got ys i x e in omega (arith, q)

-- what is needed of a part and its chain
pub record IsParted (nodes : List Node) (n place : ℕ) : Type 0 where
  pub part : IsPartOf nodes n place
  pub digits : All IsDigit (digits_at nodes (operand_at nodes n 0))
  pub within : place < length (digits_at nodes (operand_at nodes n 0))
  pub wide : width_at nodes (operand_at nodes n 0) ≡ bits_of (digits_at nodes (operand_at nodes n 0))
  pub few : bits_of (digits_at nodes (operand_at nodes n 0)) ≤ 128
  pub fits : bits_below (digits_at nodes (operand_at nodes n 0)) place + width_at nodes n ≤ bits_of (digits_at nodes (operand_at nodes n 0))

pub parted : (nodes : List Node) (n place : ℕ) → AreTyped nodes → AreCounting nodes → n < length nodes → kind_at nodes n ≡ K.Part place
    → IsParted nodes n place
parted nodes n place typed counting h k =
    let p = counting.parts n place h k in
    let chain = operand_at nodes n 0 in
    let count = counting.counting (operand_at nodes n 0) p.inside (ap counts p.chain) in
    let most = (typed.widths (operand_at nodes n 0) p.inside).1 in
    let wide = count.bits in
    let fits = bits_within (digits_at nodes (operand_at nodes n 0)) place p.digit p.at in
    let bits = p.bits in
    record {
      part = p;
      digits = count.digits;
      within = within_got (digits_at nodes (operand_at nodes n 0)) place p.digit p.at;
      wide = count.bits;
      few = omega (arith, most, wide);
      fits = omega (arith, fits, bits);
    }
