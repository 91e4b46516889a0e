-- Streams of which some words are known already: those on which they hang are known too.
use Rattle.std.specs.Prelude.{◌≡◌, ℕ, suc, ◌<◌, Bool, true, false, if◌then◌else◌, pos, List, length, sum_by, slice_index, Option, Some, None}
use Rattle.stream_graph.specs.declared.node.Kind.TheVariants as K
use Rattle.stream_graph.specs.declared.node.Node.{Node}
use Rattle.stream_graph.specs.LookUps.{kind_at, operands_at, operand_at}
use Rattle.stream_equations.specs.Equations.{enabled, count_before, right_side}
use Rattle.kernel_words.specs.declared.cell.Cell.{Cell}
use Rattle.kernel_words.specs.declared.cell.Cell.TheVariants.{Open, Undefined, Word}
use Rattle.kernel_family.specs.declared.place.Place.{Place}
use Rattle.kernel_words.specs.declared.run.KernelRun.{KernelRun}
use Rattle.kernel_words.specs.declared.streams.Streams.{Streams}
use Rattle.kernel_family.specs.Steps.{IsStep, keeps}
use Rattle.kernel_words.specs.Streams.{given_of, cell_at, values_of, AreWords}

-- ---- one word more

abbrev pub is_open : Cell → Bool
is_open Open = true
is_open _ = false

-- the cell of a word that is known
abbrev pub cell_of : Option ℕ → Cell
cell_of None = Undefined
cell_of (Some bits) = Word bits

-- how many words aren't known
abbrev pub open_count : Streams → ℕ
open_count streams = sum_by (λ c. if is_open c then 1 else 0) streams.cells.items

-- a word became known, and no other one
pub record IsPut (old new : Streams) (place : Place) (word : Option ℕ) : Type 0 where
  pub nodes : new.nodes ≡ old.nodes
  pub ticks : new.ticks ≡ old.ticks
  pub here : cell_at new place.node place.tick ≡ cell_of word
  pub others :
      (n t : ℕ)
      → t < old.ticks
      → (n ≡ place.node → t ≡ place.tick → ⊥)
      → cell_at new n t ≡ cell_at old n t
  pub fewer : is_open (cell_at old place.node place.tick) ≡ true → open_count new < open_count old

-- ---- what is known

-- the place is one of a run of so many ticks
pub record IsPlace (nodes : List Node) (ticks : ℕ) (place : Place) : Type 0 where
  pub node : place.node < length nodes
  pub tick : place.tick < ticks

abbrev pub IsKnown : Streams → Place → Type 0
IsKnown streams place = is_open (cell_at streams place.node place.tick) ≡ false

-- all places of the run one step back are known
abbrev pub AreKnown : List Node → Streams → Place → Type 0
AreKnown nodes streams a =
    (b : Place) → IsStep nodes a b → IsPlace nodes streams.ticks b → IsKnown streams b

-- What is known is right, and hangs on what is known. Of each input the number of words taken is
-- that of the enabled ticks before its first tick that isn't known.
pub record IsFilling (nodes : List Node) (run : KernelRun) (streams : Streams) (taken : List ℕ) : Type 0
  where
    pub sized : streams.nodes ≡ length nodes
    pub timed : streams.ticks ≡ run.ticks
    pub counts : length taken ≡ length nodes
    pub right :
        (a : Place)
        → IsPlace nodes streams.ticks a
        → IsKnown streams a
        → values_of streams a.node (pos a.tick)
        ≡ right_side nodes (given_of run) (values_of streams) a.node a.tick (kind_at nodes a.node)
    pub closed :
        (a : Place) → IsPlace nodes streams.ticks a → IsKnown streams a → AreKnown nodes streams a
    pub words : AreWords nodes (values_of streams)
    pub counted :
        (a : Place)
        → IsPlace nodes streams.ticks a
        → kind_at nodes a.node ≡ K.Input
        → is_open (cell_at streams a.node a.tick) ≡ true
        → ((s : ℕ) → a.tick ≡ suc s → IsKnown streams (record { node = a.node; tick = s }))
        → slice_index taken a.node ≡ count_before (enabled nodes (values_of streams) a.node) a.tick

-- The numbers of words taken after a place: at an enabled tick of an input its number is one more.
pub record IsTaken (nodes : List Node) (streams : Streams) (old new : List ℕ) (a : Place) : Type 0 where
  pub counts : length new ≡ length old
  pub rest : (n : ℕ) → (n ≡ a.node → ⊥) → slice_index new n ≡ slice_index old n
  pub here :
      kind_at nodes a.node ≡ K.Input
      → slice_index new a.node
      ≡ if enabled nodes (values_of streams) a.node a.tick
      then suc (slice_index old a.node)
      else slice_index old a.node

-- What was known stays known.
abbrev pub StayKnown : List Node → Streams → Streams → Type 0
StayKnown nodes old new =
    (b : Place) → IsPlace nodes old.ticks b → IsKnown old b → IsKnown new b

-- ---- what isn't known

-- the place is that of an operand of a node in this tick of the run, and isn't known
pub record IsOpenOperand (nodes : List Node) (streams : Streams) (n t : ℕ) (place : Place) : Type 0 where
  pub operand : ℕ
  pub within : operand < length (operands_at nodes n)
  pub node : place.node ≡ operand_at nodes n operand
  pub tick : place.tick ≡ t
  pub inside : IsPlace nodes streams.ticks place
  pub unknown : is_open (cell_at streams place.node place.tick) ≡ true

-- in this tick, all operands are known
abbrev pub NoOpenOperand : List Node → Streams → ℕ → ℕ → Type 0
NoOpenOperand nodes streams n t =
    (i : ℕ)
    → i < length (operands_at nodes n)
    → t < streams.ticks
    → is_open (cell_at streams (operand_at nodes n i) t) ≡ false

-- the place is that of the same node a tick before, where its word hangs on that, and isn't known
pub record IsOpenBefore (nodes : List Node) (streams : Streams) (place before : Place) : Type 0 where
  pub keeper : keeps (kind_at nodes place.node) ≡ true
  pub node : before.node ≡ place.node
  pub tick : place.tick ≡ suc before.tick
  pub inside : IsPlace nodes streams.ticks before
  pub unknown : is_open (cell_at streams before.node before.tick) ≡ true

-- a tick before, the word is known, where one hangs on that
abbrev pub NoOpenBefore : List Node → Streams → Place → Type 0
NoOpenBefore nodes streams place =
    (s : ℕ)
    → keeps (kind_at nodes place.node) ≡ true
    → place.tick ≡ suc s
    → is_open (cell_at streams place.node s) ≡ false
