-- On which words a node's word in a tick hangs, one step back.
use Rattle.std.specs.Prelude.{◌≡◌, ℕ, suc, ◌<◌, Bool, true, ◌||◌, ℤ, pos, ◌+ℤ◌, List, length}
use Rattle.stream_graph.specs.declared.node.Kind.{Kind}
use Rattle.stream_graph.specs.declared.node.Kind.TheVariants as K
use Rattle.stream_graph.specs.declared.node.Node.{Node}
use Rattle.stream_graph.specs.Kinds.{is_input, keeps_state}
use Rattle.stream_graph.specs.LookUps.{kind_at, operands_at, operand_at}
use Rattle.kernel_family.specs.declared.place.Place.{Place}

-- what a node of this kind has in a tick hangs on the tick before too
abbrev pub keeps : Kind → Bool
keeps kind = is_input kind || keeps_state kind

-- how many ticks ahead a node of this kind reads its operands
abbrev pub ahead : Kind → ℤ
ahead (K.Offset ticks) = ticks
ahead _ = pos 0

-- the second place is an operand of the first one, or the same node a tick before
pub data IsStep (nodes : List Node) (a b : Place) : Type 0 where
  over :
      (i : ℕ)
      → i < length (operands_at nodes a.node)
      → b.node ≡ operand_at nodes a.node i
      → pos b.tick ≡ (pos a.tick +ℤ ahead (kind_at nodes a.node))
      → IsStep nodes a b
  back :
      keeps (kind_at nodes a.node) ≡ true
      → b.node ≡ a.node
      → a.tick ≡ suc b.tick
      → IsStep nodes a b
