-- Reading files of words: one word a line.
use Rattle.std.specs.Prelude.{ℕ, ◌≡◌, ◌≤◌, ◌^◌, ◌⊎◌, true, false, List, [], drop, slice_get, Option, Some, None, option_map, Result, Ok, Err}
use Rattle.mx_bits.specs.declared.word.Word.{Word}
use Rattle.word_files.specs.Ahead.{IsAhead}
use Rattle.word_files.specs.Hex.{word_of}
use Rattle.word_files.specs.Lines.{lines_from, lines_of}
use Rattle.word_files.specs.declared.refusal.Refusal.{Refusal}
use Rattle.word_files.specs.declared.refusal.Refusal.TheVariants as kept
use Rattle.word_files.specs.declared.reader.WordReader.{WordReader}
use Rattle.word_files.specs.declared.error.WordError.{WordError}
use Rattle.word_files.specs.declared.error.WordError.TheVariants.{BadLine, WordRange, ReadFault, WriteFault, NoMemory}

-- the next line of the file is the one after so many lines, and there is none where the reader met the end; it has refused
-- nothing
pub record Follows (file : List ℕ) (reader : WordReader) : Type 0 where
  pub unrefused : reader.refusal ≡ None
  pub ahead : IsAhead file reader.bytes
  pub left : drop reader.lines (lines_of file) ≡ lines_from [] (drop reader.bytes.place file)
  pub ended : reader.ended ≡ true → slice_get (lines_of file) reader.lines ≡ None

-- no byte is read ahead, nothing was refused, and the end wasn't met
pub record IsUnread (reader : WordReader) : Type 0 where
  pub unrefused : reader.refusal ≡ None
  pub not_ended : reader.ended ≡ false
  pub none_ahead : reader.bytes.filled ≡ reader.bytes.from

-- what the line of this number says, if there is one: a word of the width, or its refusal
abbrev pub IsOfLine : List ℕ → ℕ → ℕ → Option (List ℕ) → Result (Option Word) WordError → Type 0
IsOfLine name width number line (Ok None) = line ≡ None
IsOfLine name width number line (Ok (Some word)) = (option_map word_of line ≡ Some (Some word.bits)) × (word.width ≡ width)
IsOfLine name width number line (Err (BadLine file at)) = (file ≡ name) × (at ≡ number) × (option_map word_of line ≡ Some None)
IsOfLine name width number line (Err (WordRange file at)) = (file ≡ name) × (at ≡ number)
    × ((value : ℕ) × (option_map word_of line ≡ Some (Some value)) × (2 ^ width ≤ value))
IsOfLine name width number line (Err ReadFault) = Unit {0}
IsOfLine name width number line (Err WriteFault) = ⊥
IsOfLine name width number line (Err NoMemory) = Unit {0}

-- the same, with the refusal as the reader keeps it
abbrev pub Judges : ℕ → ℕ → Option (List ℕ) → Result (Option Word) Refusal → Type 0
Judges width number line (Ok None) = line ≡ None
Judges width number line (Ok (Some word)) = (option_map word_of line ≡ Some (Some word.bits)) × (word.width ≡ width)
Judges width number line (Err (kept.BadLine at)) = (at ≡ number) × (option_map word_of line ≡ Some None)
Judges width number line (Err (kept.WordRange at)) = (at ≡ number) × ((value : ℕ) × (option_map word_of line ≡ Some (Some value)) × (2 ^ width ≤ value))
Judges width number line (Err kept.ReadFault) = Unit {0}
Judges width number line (Err kept.NoMemory) = Unit {0}

-- a refusal, with the file's name
abbrev pub refusal_of : List ℕ → Refusal → WordError
refusal_of name (kept.BadLine line) = BadLine name line
refusal_of name (kept.WordRange line) = WordRange name line
refusal_of name kept.ReadFault = ReadFault
refusal_of name kept.NoMemory = NoMemory

-- this error is answered, or want of memory is
abbrev pub Answers : WordError → Result (Option Word) WordError → Type 0
Answers error result = (result ≡ Err error) ⊎ (result ≡ Err NoMemory)

-- a reader keeps a refusal exactly where it answers it
abbrev pub Keeps : List ℕ → Option Refusal → Result (Option Word) WordError → Type 0
Keeps name refusal (Ok word) = refusal ≡ None
Keeps name refusal (Err e) = (option_map (refusal_of name) refusal ≡ Some e) ⊎ (e ≡ NoMemory)
