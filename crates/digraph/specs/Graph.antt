-- A graph of numbered nodes: for each node the list of the nodes that it reads.
use Rattle.std.specs.Prelude.{◌≡◌, ℕ, ◌+◌, ◌-◌, ◌<◌, ◌≤◌, List, [], length, slice_index, slice_index_or}
use Rattle.digraph.specs.declared.order.Found.{Found}
use Rattle.digraph.specs.declared.order.Found.TheVariants.{Ranks, Walk}

abbrev pub reads_of : List (List ℕ) → ℕ → List ℕ
reads_of g n = slice_index_or g n []

-- each node reads nodes of the graph alone
abbrev pub IsGraph : List (List ℕ) → Type 0
IsGraph g = (b i : ℕ) → i < length (reads_of g b) → slice_index (reads_of g b) i < length g

-- each node's rank is above those of the nodes that it reads
pub record IsRanked (g : List (List ℕ)) (rank : List ℕ) : Type 0 where
  pub size : length rank ≡ length g
  pub rising : (b i : ℕ) → b < length g → i < length (reads_of g b) → slice_index rank (slice_index (reads_of g b) i) < slice_index rank b

-- all nodes by rising rank, which begins at 1
pub record IsPlaced (g : List (List ℕ)) (nodes rank : List ℕ) : Type 0 where
  pub place : (i : ℕ) → i < length nodes → slice_index rank (slice_index nodes i) ≡ i + 1
  pub some : (x : ℕ) → x < length g → 0 < slice_index rank x
  pub at_most : (x : ℕ) → slice_index rank x ≤ length nodes
  pub back : (x : ℕ) → 0 < slice_index rank x → slice_index nodes (slice_index rank x - 1) ≡ x

-- a node reads another one
abbrev pub Reads : List (List ℕ) → ℕ → ℕ → Type 0
Reads g b a = (i : ℕ) × (i < length (reads_of g b)) × (slice_index (reads_of g b) i ≡ a)

-- each node of the walk is read by the next one, and the last by the first
pub record IsClosedWalk (g : List (List ℕ)) (walk : List ℕ) : Type 0 where
  pub some : 0 < length walk
  pub nodes : (i : ℕ) → i < length walk → slice_index walk i < length g
  pub each : (i : ℕ) → i + 1 < length walk → Reads g (slice_index walk (i + 1)) (slice_index walk i)
  pub last : Reads g (slice_index walk 0) (slice_index walk (length walk - 1))

-- no node of the walk has a lesser number than its first
abbrev pub IsLeastFirst : List ℕ → Type 0
IsLeastFirst walk = (i : ℕ) → i < length walk → slice_index walk 0 ≤ slice_index walk i

-- no node stands twice on the walk
abbrev pub IsSimple : List ℕ → Type 0
IsSimple walk = (i j : ℕ) → i < length walk → j < length walk → slice_index walk i ≡ slice_index walk j → i ≡ j

abbrev pub RanksOrWalk : List (List ℕ) → Found → Type 0
RanksOrWalk g (Ranks order) = IsRanked g order.rank.items × IsPlaced g order.nodes.items order.rank.items
RanksOrWalk g (Walk walk) = IsClosedWalk g walk.items × IsLeastFirst walk.items × IsSimple walk.items

-- there is a way from this node on which each node is read by the next one
pub data Reaches (g : List (List ℕ)) (start : ℕ) : ℕ → Type 0 where
  begin : Reaches g start start
  on : {a : ℕ} (b : ℕ) → Reaches g start a → Reads g b a → Reaches g start b
