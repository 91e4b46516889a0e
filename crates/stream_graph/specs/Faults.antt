-- What can be wrong with nodes.
use Rattle.std.specs.Prelude.{◌≡◌, ℕ, ◌<◌, ◌≤◌, Bool, true, false, nat_le, ◌==◌, ◌&&◌, List, [], length, Some, slice_get}
use Rattle.kernel_calls.specs.declared.call.Call.{Call}
use Rattle.kernel_calls.specs.declared.call.Call.TheVariants as C
use Rattle.kernel_calls.specs.Calls.{Makes}
use Rattle.fix_arith.specs.declared.types.StreamType.{StreamType}
use Rattle.stream_graph.specs.declared.node.Node.{Node}
use Rattle.stream_graph.specs.declared.error.GraphError.{GraphError}
use Rattle.stream_graph.specs.declared.error.GraphError.TheVariants as E
use Rattle.stream_graph.specs.declared.fault.Fault.{Fault}
use Rattle.stream_graph.specs.declared.fault.Fault.TheVariants.{EmptyChain, ConnectedTwice, Unconnected}
use Rattle.stream_graph.specs.Nodes.{connected_to, digits_to}
use Rattle.stream_graph.specs.Kinds.{is_feed, is_chain}

-- the node of this number breaks the rule: a chain has a digit, a feed is connected once and not more often
abbrev pub Breaks : Fault → List Call → ℕ → Type 0
Breaks EmptyChain so_far n = Makes so_far n C.Chain × (digits_to so_far n ≡ [])
Breaks ConnectedTwice so_far n = (t : StreamType) × Makes so_far n (C.Feed t) × (2 ≤ length (connected_to so_far n))
Breaks Unconnected so_far n = (t : StreamType) × Makes so_far n (C.Feed t) × (connected_to so_far n ≡ [])

-- no node does
abbrev pub NoneBreaks : Fault → List Call → Type 0
NoneBreaks fault so_far = (n : ℕ) → Breaks fault so_far n → ⊥

-- the first number of which a fact holds
pub record IsFirst (P : ℕ → Type 0) (n : ℕ) : Type 0 where
  pub holds : P n
  pub earlier : (k : ℕ) → k < n → P k → ⊥

-- whether a node shows the fault
abbrev pub has_fault : Fault → Node → Bool
has_fault EmptyChain node = is_chain node.view.kind && (length node.digits == 0)
has_fault ConnectedTwice node = is_feed node.view.kind && nat_le 2 (length node.operands)
has_fault Unconnected node = is_feed node.view.kind && (length node.operands == 0)

abbrev pub HasAt : Fault → List Node → ℕ → Type 0
HasAt fault nodes n = (node : Node) × (slice_get nodes n ≡ Some node) × (has_fault fault node ≡ true)

abbrev pub NoneHas : Fault → List Node → Type 0
NoneHas fault nodes = (n : ℕ) → HasAt fault nodes n → ⊥

-- the error says the first node that has a fault, of the first fault that one has
abbrev pub SaysFault : List Node → GraphError → Type 0
SaysFault nodes (E.EmptyChain n) = IsFirst (HasAt EmptyChain nodes) n
SaysFault nodes (E.ConnectedTwice n) = NoneHas EmptyChain nodes × IsFirst (HasAt ConnectedTwice nodes) n
SaysFault nodes (E.Unconnected n) = NoneHas EmptyChain nodes × NoneHas ConnectedTwice nodes × IsFirst
    (HasAt Unconnected nodes) n
SaysFault nodes _ = ⊥
