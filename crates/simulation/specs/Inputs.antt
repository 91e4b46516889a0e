-- The words that the inputs of a run offer: those of the lines of their files.
use Rattle.std.specs.Prelude.{ℕ, ◌+◌, ◌^◌, nat_lt, List, [], ◌∷◌, length, map, Option, Some, None}
use Rattle.std.specs.Prelude.{is_some, unwrap_or, option_map, option_and_then, slice_get}
use Rattle.std.specs.Prelude.{if◌then◌else◌}
use Rattle.mx_base.specs.Files.{Name, Held, file_of}
use Rattle.word_files.specs.Hex.{word_of}
use Rattle.word_files.specs.Lines.{lines_of}

-- the file of an input, the width of its words, and its lines, where it is held
pub record InputFile : Type 0 where
  pub name : Name
  pub width : ℕ
  pub lines : Option (List (List ℕ))

-- the word of this width that a line says, if it says one
abbrev pub word_in : ℕ → List ℕ → Option ℕ
word_in width line = option_and_then (λ w. if nat_lt w (2 ^ width) then Some w else None) (word_of line)

abbrev pub before_words : Option ℕ → List ℕ → List ℕ
before_words None ws = []
before_words (Some w) ws = w ∷ ws

-- the words of the first lines, up to one that says none
abbrev pub words_in : ℕ → List (List ℕ) → List ℕ
words_in width [] = []
words_in width (line ∷ lines) = before_words (word_in width line) (words_in width lines)

abbrev pub words_of : InputFile → List ℕ
words_of f = words_in f.width (unwrap_or f.lines [])

-- why the line behind these words isn't read
pub data LineFault : Type 0 where
  Missing : LineFault  -- the file isn't held
  BadLine : Name → ℕ → LineFault  -- U3: the line of this number, from 1, isn't 1 to 32 hexadecimal digits
  WordRange : Name → ℕ → LineFault  -- U4: it says a number past the width

abbrev pub fault_of_line : Name → ℕ → Option (List ℕ) → Option LineFault
fault_of_line name number None = None
fault_of_line name number (Some line) = Some (if is_some (word_of line) then WordRange name number else BadLine name number)

abbrev pub fault_in : Name → ℕ → Option (List (List ℕ)) → Option LineFault
fault_in name read None = Some Missing
fault_in name read (Some lines) = fault_of_line name (read + 1) (slice_get lines read)

-- what is met behind the words of an input, if it isn't the end of its file
abbrev pub fault_behind : InputFile → Option LineFault
fault_behind f = fault_in f.name (length (words_of f)) f.lines

-- the input files, of which these are the names and widths
abbrev pub input_files : Held → List (Name × ℕ) → List InputFile
input_files held inputs = map (λ (i : Name × ℕ). record { name = i.0; width = i.1; lines = option_map lines_of (unwrap_or (file_of held i.0) None) }) inputs
