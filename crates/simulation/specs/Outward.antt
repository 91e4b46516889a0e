-- What the files of outputs hold in a run.
use Rattle.std.specs.Prelude.{◌≡◌, ℕ, ◌≤◌, ◌<◌, ◌^◌, if◌then◌else◌, List, [], ◌∷◌, ◌++◌, length, take, Some, None, Option, slice_get, slice_index_or}
use Rattle.mx_base.specs.Files.{Name, Held, Holds}
use Rattle.rtl_ir.specs.Value.{Family}
use Rattle.rtl_ir.specs.Run.{Channel, moved}
use Rattle.verilog_sim.specs.declared.offer.Event.{Event}
use Rattle.simulation.specs.Inward.{unmoved}
use Rattle.simulation.specs.Outputs.{lines_of_words}
use Rattle.simulation.specs.declared.output.Output.{Output}

-- the name of an output's file, and the width of its words
abbrev pub output_of : Output → Name × ℕ
output_of o = (o.writer.name, o.width)

-- the lines of these words are in the file, but for those that wait
pub record IsPut (held : Held) (words : List ℕ) (o : Output) : Type 0 where
  pub file : List ℕ
  pub holds : Holds held o.writer.name file
  pub all : file ++ o.writer.waiting.items ≡ lines_of_words o.width words
  pub count : ℕ
  pub counted : count ≤ length words
  pub begun : file ≡ lines_of_words o.width (take count words)

-- the same of all outputs, with the words of each by its number
abbrev pub ArePut : Held → (ℕ → List ℕ) → List Output → Type 0
ArePut held words os = (k : ℕ) (o : Output) → slice_get os k ≡ Some o → IsPut held (words k) o

-- each file holds the lines of all words
abbrev pub AreWhole : Held → (ℕ → List ℕ) → List (Name × ℕ) → Type 0
AreWhole held words named = (k : ℕ) (o : Name × ℕ) → slice_get named k ≡ Some o → Holds held o.0 (lines_of_words o.1 (words k))

-- no two files are the same
abbrev pub DifferInName : List (Name × ℕ) → Type 0
DifferInName named = (j k : ℕ) (a b : Name × ℕ) → slice_get named j ≡ Some a → slice_get named k ≡ Some b → a.0 ≡ b.0 → j ≡ k

-- the words of an output with the one that moved, if one did
abbrev pub with_moved : List ℕ → Event → List ℕ
with_moved ws e = if e.moved then ws ++ e.word ∷ [] else ws

abbrev pub all_with_moved : (ℕ → List ℕ) → List Event → ℕ → List ℕ
all_with_moved words events k = with_moved (words k) (slice_index_or events k unmoved)

-- the words that left an output in these edges, by its number
abbrev pub moved_at : Option Channel → List Family → List ℕ
moved_at None vs = []
moved_at (Some ch) vs = moved ch vs

abbrev pub all_moved : List Channel → List Family → ℕ → List ℕ
all_moved chs vs k = moved_at (slice_get chs k) vs

-- each file is held, with lines of some words
abbrev pub IsBegunAt : Held → List Output → Type 0
IsBegunAt held os = (words : ℕ → List ℕ) × ArePut held words os

-- the words at the outputs are below 2 to the power of these widths
abbrev pub AreOfWidth : List (Name × ℕ) → List Event → Type 0
AreOfWidth named events = (k : ℕ) (o : Name × ℕ) → slice_get named k ≡ Some o → (slice_index_or events k unmoved).word < 2 ^ o.1
