-- Where an input stands in its file, and what it offers.
use Rattle.std.specs.Prelude.{◌≡◌, ◌⊎◌, ℕ, ◌+◌, ◌<◌, ◌≤◌, ◌^◌, Bool, true, false, if◌then◌else◌}
use Rattle.std.specs.Prelude.{List, [], ◌∷◌, length, drop, Option, Some, None, option_and_then}
use Rattle.std.specs.Prelude.{slice_get, slice_index_or, IsSome}
use Rattle.mx_base.specs.Files.{Name, Held, Holds, Lacks}
use Rattle.mx_bits.specs.declared.word.Word.{Word}
use Rattle.verilog_sim.specs.declared.offer.Offer.{Offer}
use Rattle.verilog_sim.specs.declared.offer.Event.{Event}
use Rattle.verilog_sim.specs.Calls.{nothing}
use Rattle.word_files.specs.Lines.{lines_of}
use Rattle.word_files.specs.WordFiles.{Follows, IsUnread}
use Rattle.simulation.specs.Inputs.{InputFile, LineFault, words_in, words_of, fault_behind}
use Rattle.simulation.specs.Inputs as lines
use Rattle.simulation.specs.declared.input.Input.{Input}
use Rattle.simulation.specs.declared.stop.Stop.{Stop}
use Rattle.simulation.specs.declared.stop.Stop.TheVariants.{TooManyCells, BadLine, WordRange, ReadFault, WriteFault, NoMemory}

-- the name of an input's file, and the width of its words
abbrev pub input_of : Input → Name × ℕ
input_of i = (i.reader.name, i.reader.width)

abbrev pub with_waiting : Option Word → List ℕ → List ℕ
with_waiting None ws = ws
with_waiting (Some w) ws = w.bits ∷ ws

-- the words of the lines that are not yet read
abbrev pub words_behind : ℕ → List ℕ → Input → List ℕ
words_behind width file i = words_in width (drop i.reader.lines (lines_of file))

-- an input whose file has these bytes, with so many words left
pub record IsWithin (f : InputFile) (file : List ℕ) (left : List ℕ) (i : Input) : Type 0 where
  pub follows : Follows file i.reader
  pub lines : f.lines ≡ Some (lines_of file)
  pub count : length (words_of f) ≡ i.reader.lines + length (words_behind f.width file i)
  pub left_is : left ≡ with_waiting i.waiting (words_behind f.width file i)

-- an input whose file isn't held
pub record IsLacking (f : InputFile) (left : List ℕ) (i : Input) : Type 0 where
  pub lines : f.lines ≡ None
  pub none_left : left ≡ []
  pub none_waits : i.waiting ≡ None
  pub unread : IsUnread i.reader

-- an input of a run, with so many words left
pub record IsAt (held : Held) (f : InputFile) (left : List ℕ) (i : Input) : Type 0 where
  pub name : i.reader.name ≡ f.name
  pub width : i.reader.width ≡ f.width
  pub unrefused : i.reader.refusal ≡ None
  pub within : (file : List ℕ) → Holds held f.name file → IsWithin f file left i
  pub lacking : Lacks held f.name → IsLacking f left i

-- no word is left, and the end of the file is behind the last one
pub record HasEnded (f : InputFile) (left : List ℕ) : Type 0 where
  pub none_left : left ≡ []
  pub at_end : fault_behind f ≡ None

-- no word is left, and this is behind the last one
pub record IsFaulty (f : InputFile) (left : List ℕ) (fault : LineFault) : Type 0 where
  pub none_left : left ≡ []
  pub behind : fault_behind f ≡ Some fault

-- what stops an input that looks for its next line. The fault of a read is one that is counted, or the file isn't held
abbrev pub Stops : Held → Type 0 → InputFile → List ℕ → Stop → Type 0
Stops held counted f left (TooManyCells n) = ⊥
Stops held counted f left (BadLine file line) = IsSome held → IsFaulty f left (lines.BadLine file line)
Stops held counted f left (WordRange file line) = IsSome held → IsFaulty f left (lines.WordRange file line)
Stops held counted f left ReadFault = counted ⊎ (IsSome held × IsFaulty f left lines.Missing)
Stops held counted f left WriteFault = ⊥
Stops held counted f left NoMemory = Unit {0}

abbrev pub offer_of : Option Word → Offer
offer_of None = nothing
offer_of (Some w) = record { valid = true; word = w.bits }

-- the inputs of these files, with so many words left of each
pub record AreAt (held : Held) (fs : List InputFile) (lefts : List (List ℕ)) (is : List Input) : Type 0 where
  pub files : length fs ≡ length is
  pub lists : length lefts ≡ length is
  pub each :
      (k : ℕ) (f : InputFile) (left : List ℕ) (i : Input)
      → slice_get fs k ≡ Some f
      → slice_get lefts k ≡ Some left
      → slice_get is k ≡ Some i
      → IsAt held f left i

-- an input that was looked at before an edge, and what it offers in it
pub record IsReady (held : Held) (stalled : Bool) (f : InputFile) (left : List ℕ) (i : Input) (offer : Offer) : Type 0 where
  pub offer_is : offer ≡ (if stalled then nothing else offer_of i.waiting)
  pub looked : IsSome held → stalled ≡ false → i.waiting ≡ None → HasEnded f left

-- the first n inputs were looked at
abbrev pub AreReady : Held → List Bool → List InputFile → List (List ℕ) → List Input → List Offer → ℕ → Type 0
AreReady held stalled fs lefts is offers n =
    (k : ℕ) (f : InputFile) (left : List ℕ) (i : Input)
    → k < n
    → slice_get fs k ≡ Some f
    → slice_get lefts k ≡ Some left
    → slice_get is k ≡ Some i
    → IsReady held (slice_index_or stalled k false) f left i (slice_index_or offers k nothing)

-- an input that stops the run, the first that looks for a line and can't read it
pub record IsFirstStop (held : Held) (counted : Type 0) (stalled : List Bool) (fs : List InputFile) (lefts : List (List ℕ)) (stop : Stop) : Type 0 where
  pub input : ℕ
  pub file : InputFile
  pub left : List ℕ
  pub is : slice_get fs input ≡ Some file
  pub has : slice_get lefts input ≡ Some left
  pub free : slice_index_or stalled input false ≡ false
  pub stops : Stops held counted file left stop
  pub earlier :
      IsSome held
      → (j : ℕ)
      → j < input
      → slice_index_or stalled j false ≡ false
      → slice_get lefts j ≡ Some []
      → option_and_then fault_behind (slice_get fs j) ≡ None

-- the words that are offered are below 2 to the power of these widths
abbrev pub AreOfWidths : List (Name × ℕ) → List Offer → Type 0
AreOfWidths named offers = (k : ℕ) (i : Name × ℕ) → slice_get named k ≡ Some i → (slice_index_or offers k nothing).word < 2 ^ i.1

abbrev pub unmoved : Event
unmoved = record { moved = false; word = 0 }

-- the word that waited was taken where its event says that it moved
pub record IsTaken (moved : Bool) (old new : Input) : Type 0 where
  pub reader : new.reader ≡ old.reader
  pub waiting : new.waiting ≡ (if moved then None else old.waiting)

abbrev pub AreTaken : List Event → List Input → List Input → ℕ → Type 0
AreTaken events old new n =
    (k : ℕ) (i j : Input)
    → k < n
    → slice_get old k ≡ Some i
    → slice_get new k ≡ Some j
    → IsTaken (slice_index_or events k unmoved).moved i j

-- nothing is read of the file of an input
pub record IsBegun (i : Input) : Type 0 where
  pub follows : (file : List ℕ) → Follows file i.reader
  pub lines : i.reader.lines ≡ 0
  pub unread : IsUnread i.reader
  pub none_waits : i.waiting ≡ None

abbrev pub AreBegun : List Input → Type 0
AreBegun is = (k : ℕ) (i : Input) → slice_get is k ≡ Some i → IsBegun i

-- words have 1 to 128 bits
abbrev pub HaveWidths : List (Name × ℕ) → Type 0
HaveWidths named = (k : ℕ) (i : Name × ℕ) → slice_get named k ≡ Some i → (1 ≤ i.1) × (i.1 ≤ 128)

-- no reader has refused anything
abbrev pub AreUnrefused : List Input → Type 0
AreUnrefused is = (k : ℕ) (i : Input) → slice_get is k ≡ Some i → i.reader.refusal ≡ None
