-- Reading words from the first lines of a file, one a line.
use Rattle.std.specs.Prelude.{ℕ, ◌≡◌, ◌≤◌, ◌<◌, ◌+◌, ◌^◌, List, ◌∷◌, ◌++◌, length, map, All, Option, Some, None, Result, Ok, Err}
use Rattle.word_files.specs.Hex.{word_of}
use Rattle.word_files.specs.Lines.{lines_of}
use Rattle.word_files.specs.declared.error.WordError.{WordError}
use Rattle.word_files.specs.declared.error.WordError.TheVariants.{BadLine, WordRange, ReadFault, WriteFault, NoMemory}

-- what each line of a file says: a number, or none where it isn't 1 to 32 hexadecimal digits
abbrev pub said_by : List ℕ → List (Option ℕ)
said_by file = map word_of (lines_of file)

-- lines say these words of a width, one a line
pub record AreWords (width : ℕ) (said : List (Option ℕ)) (words : List ℕ) : Type 0 where
  pub are : said ≡ map Some words
  pub fit : All (λ w. w < 2 ^ width) words

-- the line of this number, from 1, is the first that says no word of the width, but this
pub record IsFirstWrong (width : ℕ) (said : List (Option ℕ)) (number : ℕ) (line : Option ℕ) : Type 0
  where
    pub words : List ℕ
    pub behind : List (Option ℕ)
    pub are : said ≡ map Some words ++ line ∷ behind
    pub fit : All (λ w. w < 2 ^ width) words
    pub at : number ≡ length words + 1

-- what is read of lines that say this, in the file of this name: all words, or the first line that
-- says none
abbrev pub Reads : List ℕ → ℕ → List (Option ℕ) → Result (List ℕ) WordError → Type 0
Reads name width said (Ok words) = AreWords width said words
Reads name width said (Err (BadLine file number)) =
    (file ≡ name) × IsFirstWrong width said number None
Reads name width said (Err (WordRange file number)) =
    (file ≡ name)
    × ((value : ℕ) × (2 ^ width ≤ value) × IsFirstWrong width said number (Some value))
Reads name width said (Err ReadFault) = Unit {0}
Reads name width said (Err WriteFault) = ⊥
Reads name width said (Err NoMemory) = Unit {0}
