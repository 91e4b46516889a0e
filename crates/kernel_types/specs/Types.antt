-- The types of a kernel's nodes and of their operands, and what its counters count through.
use Rattle.std.specs.Prelude.{
  ◌≡◌,
  ℕ,
  ◌<◌,
  ◌≤◌,
  Bool,
  true,
  ℤ,
  List,
  map,
  length,
  slice_get,
  Some,
  All,
}
use Rattle.mx_bits.specs.declared.op.Op.{Op}
use Rattle.mx_bits.specs.declared.word.Word.{Word}
use Rattle.counter_chains.specs.declared.digits.CounterDigit.{CounterDigit}
use Rattle.counter_chains.specs.Digits.{IsDigit}
use Rattle.counter_chains.specs.Chains.{bits_of}
use Rattle.fix_arith.specs.declared.types.RoundMode.{RoundMode}
use Rattle.fix_arith.specs.Types.{HasWidth}
use Rattle.fix_arith.specs.Table.{GivesType}
use Rattle.stream_graph.specs.declared.node.Kind.TheVariants as K
use Rattle.stream_graph.specs.declared.node.Node.{Node}
use Rattle.stream_graph.specs.LookUps.{
  kind_at,
  width_at,
  operands_at,
  operand_at,
  type_at,
  digits_at,
}
use Rattle.stream_graph.specs.declared.node.Kind.{Kind}
use Rattle.stream_graph.specs.Kinds.{is_like_first, fixed_operands}
pub use Rattle.stream_graph.specs.Kinds.{takes_bit, counts}

-- ---- operands

-- the kinds whose words have the type of their first operand
abbrev pub is_like : Kind → Bool
is_like kind = is_like_first kind

-- there is a first operand, of the node's type
pub record HasFirst (nodes : List Node) (n : ℕ) : Type 0 where
  pub some : 0 < length (operands_at nodes n)
  pub same : type_at nodes (operand_at nodes n 0) ≡ type_at nodes n

-- ---- counters

-- A counter or a chain has counters, at most 128 of them, and its words have the bits of these.
pub record IsCounting (nodes : List Node) (n : ℕ) : Type 0 where
  pub digits : All IsDigit (digits_at nodes n)
  pub few : length (digits_at nodes n) ≤ 128
  pub bits : width_at nodes n ≡ bits_of (digits_at nodes n)

-- A part has one operand, a chain, of which it has the counter with its place.
pub record IsPartOf (nodes : List Node) (n place : ℕ) : Type 0 where
  pub one : length (operands_at nodes n) ≡ 1
  pub inside : operand_at nodes n 0 < length nodes
  pub chain : kind_at nodes (operand_at nodes n 0) ≡ K.Chain
  pub digit : CounterDigit
  pub at : slice_get (digits_at nodes (operand_at nodes n 0)) place ≡ Some digit
  pub bits : width_at nodes n ≡ digit.bits

-- ---- all nodes

-- These are well typed: words have 1 to 128 bits, that of a constant the bits of its node; operands
-- are nodes, and have the types that the operation of a node takes and gives; what is like its first
-- operand has the type of it; controls and stores are bits; a hold has a value and a store, an offset
-- one operand, and each node as many as its kind says.
pub record AreTyped (nodes : List Node) : Type 0 where
  pub widths : (n : ℕ) → n < length nodes → HasWidth (type_at nodes n)
  pub inside :
      (n place : ℕ)
      → n < length nodes
      → place < length (operands_at nodes n)
      → operand_at nodes n place < length nodes
  pub constants :
      (n : ℕ) (word : Word)
      → n < length nodes
      → kind_at nodes n ≡ K.Constant word
      → word.width ≡ width_at nodes n
  pub operations :
      (n : ℕ) (op : Op) (mode : RoundMode) (amount : ℕ)
      → n < length nodes
      → kind_at nodes n ≡ K.Operation op mode amount
      → GivesType op (map (type_at nodes) (operands_at nodes n)) amount (type_at nodes n)
  pub firsts : (n : ℕ) → n < length nodes → is_like (kind_at nodes n) ≡ true → HasFirst nodes n
  pub bits :
      (n place : ℕ)
      → n < length nodes
      → takes_bit (kind_at nodes n) place ≡ true
      → place < length (operands_at nodes n)
      → width_at nodes (operand_at nodes n place) ≡ 1
  pub holds :
      (n : ℕ) → n < length nodes → kind_at nodes n ≡ K.Hold → length (operands_at nodes n) ≡ 2
  pub offsets :
      (n : ℕ) (ticks : ℤ)
      → n < length nodes
      → kind_at nodes n ≡ K.Offset ticks
      → length (operands_at nodes n) ≡ 1
  pub fixed :
      (n count : ℕ)
      → n < length nodes
      → fixed_operands (kind_at nodes n) ≡ Some count
      → length (operands_at nodes n) ≡ count

-- The counters and chains have counters, a counter by itself has one, and a part is one of those of
-- its chain.
pub record AreCounting (nodes : List Node) : Type 0 where
  pub counting :
      (n : ℕ) → n < length nodes → counts (kind_at nodes n) ≡ true → IsCounting nodes n
  pub alone :
      (n : ℕ)
      → n < length nodes
      → kind_at nodes n ≡ K.Counter
      → length (digits_at nodes n) ≡ 1
  pub parts :
      (n place : ℕ)
      → n < length nodes
      → kind_at nodes n ≡ K.Part place
      → IsPartOf nodes n place
