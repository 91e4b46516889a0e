-- The latencies of nodes and the waits of their words behind these, in numbers of advances.
use Rattle.std.specs.Prelude.{
  ℕ,
  zero,
  suc,
  ◌+◌,
  ◌-◌,
  ◌*◌,
  ◌<◌,
  ◌≤◌,
  ◌^◌,
  List,
  [],
  ◌∷◌,
  ◌++◌,
  length,
  slice_index_or,
  nat_lt,
  if◌then◌else◌,
  sum_by,
  All,
}
use Rattle.std.specs.List.Sorted.{IsStrictlyIncreasing}
use Rattle.std.specs.Int.Count.{count_leading_zeros}

-- the numbers from 1 up to this one
abbrev pub up_to : ℕ → List ℕ
up_to zero = []
up_to (suc n) = up_to n ++ suc n ∷ []

-- the difference of each number to the one before it, and of the first one to `prior`
abbrev pub differences : ℕ → List ℕ → List ℕ
differences prior [] = []
differences prior (stage ∷ stages) = (stage - prior) ∷ differences stage stages

-- the last of these numbers, and `prior` where there are none
abbrev pub last_from : ℕ → List ℕ → ℕ
last_from prior [] = prior
last_from prior (stage ∷ stages) = last_from stage stages

-- The stages rise from above 0, by at most 2^28 each.
pub record AreRising (stages : List ℕ) : Type 0 where
  pub rising : IsStrictlyIncreasing stages
  pub positive : All (λ stage. 0 < stage) stages
  pub near : All (λ advances. advances ≤ 2 ^ 28) (differences 0 stages)

-- the waits of node u, and none past the last node
abbrev pub waits_at : List (List ℕ) → ℕ → List ℕ
waits_at waits u = slice_index_or waits u []

-- The bits of a pointer to one of so many words, at most 2^32: the fewest that hold each number
-- below `words`. One word needs no pointer.
abbrev pub place_bits : ℕ → ℕ
place_bits words = 32 - count_leading_zeros 32 (words - 1)

-- the bits of the pointers of a chain with these stages: a delay of d advances points to one of d
-- words
abbrev pub pointer_bits : List ℕ → ℕ
pointer_bits stages = sum_by place_bits (differences 0 stages)

-- how many of these stages come more than one advance after the one before, and the first one after
-- `prior`: their delays are rings
abbrev pub rings_from : ℕ → List ℕ → ℕ
rings_from prior [] = 0
rings_from prior (stage ∷ stages) =
    (if nat_lt (prior + 1) stage then 1 else 0) + rings_from stage stages

-- how many of the waits of all nodes do
abbrev pub ring_count : List (List ℕ) → ℕ
ring_count [] = 0
ring_count (waits ∷ rest) = rings_from 0 waits + ring_count rest

-- how many waits all nodes have together
abbrev pub wait_count : List (List ℕ) → ℕ
wait_count [] = 0
wait_count (waits ∷ rest) = length waits + wait_count rest

-- how many registers the pipelines of all nodes have, one for each advance of a latency
abbrev pub register_count : List ℕ → ℕ
register_count [] = 0
register_count (latency ∷ latencies) = latency + register_count latencies

-- the bits of these registers: for each node its width times its latency
abbrev pub pipeline_bits : List ℕ → List ℕ → ℕ
pipeline_bits [] latencies = 0
pipeline_bits (width ∷ widths) [] = 0
pipeline_bits (width ∷ widths) (latency ∷ latencies) =
    width * latency + pipeline_bits widths latencies

-- the bits of the pointers of all nodes
abbrev pub all_pointer_bits : List (List ℕ) → ℕ
all_pointer_bits [] = 0
all_pointer_bits (waits ∷ rest) = pointer_bits waits + all_pointer_bits rest

-- The bits of the words that wait, of all nodes: for each node its width times its last wait.
abbrev pub all_word_bits : List ℕ → List (List ℕ) → ℕ
all_word_bits [] waits = 0
all_word_bits (width ∷ widths) [] = 0
all_word_bits (width ∷ widths) (waits ∷ rest) =
    width * last_from 0 waits + all_word_bits widths rest

-- words have 1 to 128 bits
pub record IsWidth (width : ℕ) : Type 0 where
  pub some : 1 ≤ width
  pub at_most : width ≤ 128
