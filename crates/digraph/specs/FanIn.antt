-- The nodes from which there is a way to a node, and a search for them against the direction of the reads.
use Rattle.std.specs.Prelude.{◌≡◌, ◌≢◌, ◌⊎◌, ℕ, ◌+◌, ◌<◌, ◌≤◌, List, [], ◌∷◌, ◌++◌, slice_set, length, nat_eq, if◌then◌else◌, sum_by, slice_index}
use Rattle.digraph.specs.Graph.{reads_of, Reaches}
use Rattle.digraph.specs.Search.{IsOn}

-- these are the nodes from which there is a way to this one
pub record IsFanIn (g : List (List ℕ)) (end : ℕ) (nodes : List ℕ) : Type 0 where
  pub within : (j : ℕ) → j < length nodes → slice_index nodes j < length g
  pub sound : (j : ℕ) → j < length nodes → Reaches g (slice_index nodes j) end
  pub whole : (x : ℕ) → Reaches g x end → IsOn nodes x

-- a node is met by the search with a number: it was met already, or it is marked and listed
abbrev pub IsMet : ℕ → ℕ → List ℕ → List ℕ → List ℕ → List ℕ → Type 0
IsMet number node seen nodes marked listed =
    ((slice_index seen node ≡ number) × (marked ≡ seen) × (listed ≡ nodes))
    ⊎ ((slice_index seen node ≢ number) × (marked ≡ slice_set seen node number) × (listed ≡ nodes ++ node ∷ []))

-- what is left to be met, and what was
abbrev pub unseen : ℕ → ℕ → ℕ
unseen number mark = if nat_eq mark number then 0 else 1

abbrev pub all_left : ℕ → List ℕ → List ℕ → ℕ
all_left number seen nodes = sum_by (unseen number) seen + length nodes

-- the search with this number has listed nodes, and met all that the first of them read
pub record Collects (g : List (List ℕ)) (end number : ℕ) (seen nodes : List ℕ) (done : ℕ) : Type 0 where
  pub size : length seen ≡ length g
  pub earlier : (x : ℕ) → slice_index seen x ≤ number
  pub marked : (j : ℕ) → j < length nodes → slice_index seen (slice_index nodes j) ≡ number
  pub listed : (x : ℕ) → slice_index seen x ≡ number → IsOn nodes x
  pub within : (j : ℕ) → j < length nodes → slice_index nodes j < length g
  pub sound : (j : ℕ) → j < length nodes → Reaches g (slice_index nodes j) end
  pub ended : slice_index seen end ≡ number
  pub closed :
      (j i : ℕ)
      → j < done
      → i < length (reads_of g (slice_index nodes j))
      → slice_index seen (slice_index (reads_of g (slice_index nodes j)) i) ≡ number
  pub behind : done ≤ length nodes
