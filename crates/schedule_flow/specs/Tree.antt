-- Trees of nearest ways.
use Rattle.std.specs.Prelude.{◌≡◌, ℕ, length}
use Rattle.schedule_flow.specs.declared.tree.Tree.{Tree}

-- a tree of so many nodes
pub record IsTreeOf (nodes : ℕ) (t : Tree) : Type 0 where
  pub places : length t.place.items ≡ nodes
  pub vias : length t.via.items ≡ nodes
  pub distances : length t.distance.items ≡ nodes
