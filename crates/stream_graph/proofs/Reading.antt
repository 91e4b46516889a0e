-- A node as it was read, and in its list.
use Rattle.std.proofs.Common.{◌≡◌, ℕ, zero, suc, List, [], ◌∷◌, get_or, ap, ◌∙◌}
use Rattle.std.specs.Prelude.{Some, slice_get}
use Rattle.std.specs.Option.{option_map}
use Rattle.stream_graph.specs.declared.node.Node.{Node}
use Rattle.stream_graph.specs.declared.node.NodeView.{NodeView}
use Rattle.stream_graph.specs.LookUps.{node_at, operands_at, no_node}

pub read : {X Y : Type 0} (f : X → Y) (xs : List X) (id n : ℕ) (y : Y) (d : X) → id ≡ n →
    option_map f (slice_get xs id) ≡ Some y → y ≡ f (get_or xs n d)
read f xs id n y d e h = at_place f xs id y d h ∙ ap (λ k. f (get_or xs k d)) e
  where
    at_place : {X Y : Type 0} (f : X → Y) (xs : List X) (n : ℕ) (y : Y) (d : X)
        → option_map f (slice_get xs n) ≡ Some y →
        y ≡ f (get_or xs n d)
    at_place f [] n y d h = absurd (cc)
    at_place f (x ∷ xs) zero y d h = cc
    at_place f (x ∷ xs) (suc n) y d h = at_place f xs n y d h

pub view_read : (nodes : List Node) (id n : ℕ) (view : NodeView) → id ≡ n →
    option_map (λ node. node.view) (slice_get nodes id) ≡ Some view → view ≡ (node_at nodes n).view
view_read nodes id n view e h = read (λ node. node.view) nodes id n view no_node e h

pub operands_read : (nodes : List Node) (id n : ℕ) (operands : List ℕ) → id ≡ n →
    option_map (λ node. node.operands) (slice_get nodes id) ≡ Some operands
    → operands ≡ operands_at nodes n
operands_read nodes id n operands e h = read (λ node. node.operands) nodes id n operands no_node e h
