-- Nodes by their numbers, and what they show.
use Rattle.std.specs.Prelude.{ℕ, false, List, [], slice_index, slice_index_or, Option}
use Rattle.counter_chains.specs.declared.digits.CounterDigit.{CounterDigit}
use Rattle.fix_arith.specs.declared.types.StreamType.{StreamType}
use Rattle.fix_arith.specs.declared.types.StreamType.TheVariants.{UInt}
use Rattle.fix_arith.specs.Types.{width_of}
use Rattle.stream_graph.specs.declared.node.Kind.{Kind}
use Rattle.stream_graph.specs.declared.node.Kind.TheVariants as K
use Rattle.stream_graph.specs.declared.node.Node.{Node}
use Rattle.stream_graph.specs.Kinds.{control_in}

-- what stands past the last node
abbrev pub no_node : Node
no_node = record {
  view = record { kind = K.Scalar; t = UInt 0; controlled = false };
  operands = [];
  name = [];
  digits = [];
}

abbrev pub node_at : List Node → ℕ → Node
node_at nodes n = slice_index_or nodes n no_node

abbrev pub kind_at : List Node → ℕ → Kind
kind_at nodes n = (node_at nodes n).view.kind

abbrev pub type_at : List Node → ℕ → StreamType
type_at nodes n = (node_at nodes n).view.t

-- the bits of a node's words
abbrev pub width_at : List Node → ℕ → ℕ
width_at nodes n = width_of (node_at nodes n).view.t

abbrev pub operands_at : List Node → ℕ → List ℕ
operands_at nodes n = (node_at nodes n).operands

abbrev pub operand_at : List Node → ℕ → ℕ → ℕ
operand_at nodes n place = slice_index (operands_at nodes n) place

-- the digits with which a node counts, of a chain those of all its parts
abbrev pub digits_at : List Node → ℕ → List CounterDigit
digits_at nodes n = (node_at nodes n).digits

-- the node of a port's control or of a hold's store
abbrev pub control_of : List Node → ℕ → Option ℕ
control_of nodes n = control_in (kind_at nodes n) (operands_at nodes n)
