-- For how long a node's word waits behind its latency.
use Rattle.std.specs.Prelude.{
  ◌≡◌,
  ◌↔◌,
  ℕ,
  zero,
  suc,
  ◌+◌,
  ◌<◌,
  ◌≤◌,
  pos,
  List,
  [],
  ◌∷◌,
  map,
  length,
  slice_index_or,
  Option,
  Some,
  None,
  Contains,
}
use Rattle.std.specs.List.Sorted.{IsStrictlyIncreasing}
use Rattle.cycle_find.specs.Constraints.{Numbers}
use Rattle.stream_graph.specs.declared.node.Node.{Node}
use Rattle.offset_edges.specs.Edges.{edges_of, edge_at}
use Rattle.fifo_sharing.specs.declared.chain.Chain.{Chain}
use Rattle.kernel_layout.specs.Reads.{behind_of}

-- some operand is read so many advances after the word of node u was computed
abbrev pub IsReadBehind : List Node → Numbers → ℕ → ℕ → Type 0
IsReadBehind nodes s u behind =
    (j : ℕ) × (j < length (edges_of nodes)) × ((edge_at (edges_of nodes) j).from ≡ u)
    × (behind_of s (edge_at (edges_of nodes) j) ≡ pos behind)

-- The waits of node u, in rising order: one for each number of advances, above 0, for which its
-- word waits behind its latency. No word is read before its latency.
pub record AreWaits (nodes : List Node) (ticks : ℕ → ℕ) (s : Numbers) (u : ℕ) (waits : List ℕ) :
    Type 0
  where
    pub rising : IsStrictlyIncreasing waits
    pub each :
        (wait : ℕ) → Contains waits wait ↔ ((0 < wait) × IsReadBehind nodes s u (ticks u + wait))
    pub late : (behind : ℕ) → IsReadBehind nodes s u behind → ticks u ≤ behind

-- the numbers of advances after which the word of a node of this latency is shown: the latency, if
-- it has one, and each wait behind it
abbrev pub stages_by : ℕ → List ℕ → List ℕ
stages_by zero waits = waits
stages_by (suc latency) waits = suc latency ∷ map (λ wait. suc latency + wait) waits

-- what stands past the last chain
abbrev pub no_chain : Chain
no_chain = record { producer = 0; words = 0; taps = [] }

abbrev pub chain_at : List Chain → ℕ → Chain
chain_at chains i = slice_index_or chains i no_chain

-- none of the first so many chains is that of a node
abbrev pub HasNoChain : List Chain → ℕ → ℕ → Type 0
HasNoChain chains count n = (i : ℕ) → i < count → (chain_at chains i).producer ≡ n → ⊥

-- of the first so many chains this is that of a node
pub record IsChainNumber (chains : List Chain) (count n i : ℕ) : Type 0 where
  pub within : i < count
  pub producer : (chain_at chains i).producer ≡ n

abbrev pub IsChainAt : List Chain → ℕ → ℕ → Option ℕ → Type 0
IsChainAt chains count n None = HasNoChain chains count n
IsChainAt chains count n (Some i) = IsChainNumber chains count n i

-- these are the numbers of the chains of so many nodes, among the first so many chains
pub record AreChainNumbers (chains : List Chain) (count nodes : ℕ) (numbers : List (Option ℕ)) :
    Type 0
  where
    pub counted : length numbers ≡ nodes
    pub each : (n : ℕ) → n < nodes → IsChainAt chains count n (slice_index_or numbers n None)

-- the taps of a chain, if there is one
abbrev pub taps_of : List Chain → Option ℕ → List ℕ
taps_of chains None = []
taps_of chains (Some i) = (chain_at chains i).taps

-- the waits of a node are the taps of its chain, if it has one
pub record IsShared (chains : List Chain) (n : ℕ) (waits : List ℕ) : Type 0 where
  pub number : Option ℕ
  pub chain : IsChainAt chains (length chains) n number
  pub is : waits ≡ taps_of chains number

-- so it is for each of the first so many nodes
pub record AreShared (chains : List Chain) (count : ℕ) (waits : List (List ℕ)) : Type 0 where
  pub counted : length waits ≡ count
  pub each : (n : ℕ) → n < count → IsShared chains n (slice_index_or waits n [])
