-- The residual arcs that start at a node, as a chain from the greatest number down.
use Rattle.std.specs.Prelude.{◌≡◌, ◌≢◌, ℕ, ◌-◌, ◌*◌, ◌<◌, ◌≤◌, List, length, slice_index}
use Rattle.cycle_find.specs.declared.arcs.Arc.{Arc}
use Rattle.schedule_flow.specs.Network.{tail_of}

-- k - 1 is the greatest number below the bound whose residual arc starts at v; k is 0 where there is none
pub record IsLastBelow (arcs : List Arc) (v bound k : ℕ) : Type 0 where
  pub low : k ≤ bound
  pub here : 0 < k → tail_of arcs (k - 1) ≡ v
  pub none : (r : ℕ) → k ≤ r → r < bound → tail_of arcs r ≢ v

-- `first` has the last residual arc of each node, and `before` that before each residual arc, among the
-- numbers below the bound
pub record IsLinkedBelow (arcs : List Arc) (bound : ℕ) (first before : List ℕ) : Type 0 where
  pub firsts : (v : ℕ) → v < length first → IsLastBelow arcs v bound (slice_index first v)
  pub befores : (r : ℕ) → r < bound → IsLastBelow arcs (tail_of arcs r) r (slice_index before r)

-- the chains of all residual arcs
pub record IsAdjacency (nodes : ℕ) (arcs : List Arc) (first before : List ℕ) : Type 0 where
  pub nodes_first : length first ≡ nodes
  pub arcs_before : length before ≡ 2 * length arcs
  pub linked : IsLinkedBelow arcs (2 * length arcs) first before
