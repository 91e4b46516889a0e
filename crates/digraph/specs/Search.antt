-- A search for ranks, in depth first: what holds of its ranks, marks and path.
use Rattle.std.specs.Prelude.{◌≡◌, ◌≢◌, ℕ, ◌+◌, ◌-◌, ◌<◌, ◌≤◌, List, [], ◌∷◌, ◌++◌, take, slice_set}
use Rattle.std.specs.Prelude.{length, Bool, false, if◌then◌else◌, sum_by, slice_index}
use Rattle.std.specs.Prelude.{slice_index_or}
use Rattle.digraph.specs.declared.search.Search.{Search as State}
use Rattle.digraph.specs.Graph.{reads_of, Reads}

-- a place on a path
abbrev pub IsOn : List ℕ → ℕ → Type 0
IsOn path x = (j : ℕ) × (j < length path) × (slice_index path j ≡ x)

-- ranks from 1 of the nodes that are done; whether a node was never met; the open nodes, each of
-- which waits for the next one, and how many of its reads are done
pub record Searches (g : List (List ℕ)) (rank : List ℕ) (fresh : List Bool) (path next order : List ℕ) : Type 0 where
  pub ranks : length rank ≡ length g
  pub marks : length fresh ≡ length g
  pub nexts : length next ≡ length path
  pub counted : (x : ℕ) → slice_index rank x ≤ length order
  pub placed : (i : ℕ) → i < length order → slice_index rank (slice_index order i) ≡ i + 1
  pub back : (x : ℕ) → 0 < slice_index rank x → slice_index order (slice_index rank x - 1) ≡ x
  pub behind : (b i : ℕ) → 0 < slice_index rank b → i < length (reads_of g b) → 0 < slice_index rank (slice_index (reads_of g b) i)
  pub rising : (b i : ℕ) → 0 < slice_index rank b → i < length (reads_of g b) → slice_index rank (slice_index (reads_of g b) i) < slice_index rank b
  pub nodes : (j : ℕ) → j < length path → slice_index path j < length g
  pub unranked : (j : ℕ) → j < length path → slice_index rank (slice_index path j) ≡ 0
  pub known : (j : ℕ) → j < length path → slice_index_or fresh (slice_index path j) false ≡ false
  pub apart : (i j : ℕ) → i < j → j < length path → slice_index path i ≢ slice_index path j
  pub within : (j : ℕ) → j < length path → slice_index next j ≤ length (reads_of g (slice_index path j))
  pub ready : (j i : ℕ) → j < length path → i < slice_index next j → 0 < slice_index rank (slice_index (reads_of g (slice_index path j)) i)
  pub waits : (j : ℕ) → j + 1 < length path → slice_index next j < length (reads_of g (slice_index path j))
  pub linked : (j : ℕ) → j + 1 < length path → slice_index (reads_of g (slice_index path j)) (slice_index next j) ≡ slice_index path (j + 1)
  pub opened : (x : ℕ) → x < length g → slice_index_or fresh x false ≡ false → slice_index rank x ≡ 0 → IsOn path x

-- what is left to do
abbrev pub weight : Bool → ℕ
weight b = if b then 2 else 0

abbrev pub work : List Bool → List ℕ → ℕ
work fresh path = sum_by weight fresh + length path

-- from this place on, each node of the path reads the next one, and the last one reads the first of them
pub record IsStuck (g : List (List ℕ)) (path : List ℕ) (at : ℕ) : Type 0 where
  pub place : at < length path
  pub nodes : (j : ℕ) → j < length path → slice_index path j < length g
  pub each : (j : ℕ) → j + 1 < length path → Reads g (slice_index path j) (slice_index path (j + 1))
  pub last : Reads g (slice_index path (length path - 1)) (slice_index path at)

-- a node was opened
pub record IsOpened (old new : State) (node : ℕ) : Type 0 where
  pub rank : new.rank.items ≡ old.rank.items
  pub order : new.order.items ≡ old.order.items
  pub fresh : new.fresh.items ≡ slice_set old.fresh.items node false
  pub path : new.path.items ≡ old.path.items ++ node ∷ []
  pub next : new.next.items ≡ old.next.items ++ 0 ∷ []

-- the last node of the path was given its place
pub record IsClosed (old new : State) (node : ℕ) : Type 0 where
  pub order : new.order.items ≡ old.order.items ++ node ∷ []
  pub rank : new.rank.items ≡ slice_set old.rank.items node (length old.order.items + 1)
  pub fresh : new.fresh.items ≡ old.fresh.items
  pub path : new.path.items ≡ take (length old.path.items - 1) old.path.items
  pub next : new.next.items ≡ take (length old.next.items - 1) old.next.items

-- the walk goes from the least node back to this place, and from the end of the path back to the least node
pub record IsTurned (path : List ℕ) (at : ℕ) (walk : List ℕ) : Type 0 where
  pub least : ℕ
  pub from : at ≤ least
  pub within : least < length path
  pub smallest : (j : ℕ) → at ≤ j → j < length path → slice_index path least ≤ slice_index path j
  pub size : length walk ≡ length path - at
  pub first : (i : ℕ) → i ≤ least - at → slice_index walk i ≡ slice_index path (least - i)
  pub after : (i : ℕ) → least - at < i → i < length walk → slice_index walk i ≡ slice_index path (least + length walk - i)
