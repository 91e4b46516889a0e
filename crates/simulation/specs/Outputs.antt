-- What the output files of a run hold.
use Rattle.std.specs.Prelude.{◌≡◌, ◌≢◌, ◌⊎◌, ◌<◌, ℕ, List, [], ◌∷◌, ◌++◌, take, Some, slice_get, is_some}
use Rattle.mx_base.specs.Files.{Name, Held, Holds, file_of}
use Rattle.rtl_ir.specs.Value.{Family}
use Rattle.rtl_ir.specs.Run.{Channel, moved}
use Rattle.word_files.specs.Written.{lower_digits, digit_count}

-- the lines of words of a width
abbrev pub lines_of_words : ℕ → List ℕ → List ℕ
lines_of_words width [] = []
lines_of_words width (w ∷ ws) = (lower_digits (digit_count width) w ++ 10 ∷ []) ++ lines_of_words width ws

-- each output file holds the lines of the words that left its output in these edges
abbrev pub AreWritten : Held → List Family → List Channel → List (Name × ℕ) → Type 0
AreWritten held vs chs outputs =
    (k : ℕ) (ch : Channel) (o : Name × ℕ)
    → slice_get chs k ≡ Some ch
    → slice_get outputs k ≡ Some o
    → Holds held o.0 (lines_of_words o.1 (moved ch vs))

-- each holds the lines of the first of these words
abbrev pub AreBegun : Held → List Family → List Channel → List (Name × ℕ) → Type 0
AreBegun held vs chs outputs =
    (k : ℕ) (ch : Channel) (o : Name × ℕ)
    → slice_get chs k ≡ Some ch
    → slice_get outputs k ≡ Some o
    → (n : ℕ) × Holds held o.0 (lines_of_words o.1 (take n (moved ch vs)))

-- only these files may have changed
pub record ChangesOnlyOutputs (outputs : List (Name × ℕ)) (old new : Held) : Type 0 where
  pub told : is_some new ≡ is_some old
  pub others : (q : Name) → ((k : ℕ) (o : Name × ℕ) → slice_get outputs k ≡ Some o → q ≢ o.0) → file_of new q ≡ file_of old q

-- the output files before this one were made empty, and those behind it are as they were
pub record AreCreatedTo (n : ℕ) (outputs : List (Name × ℕ)) (old new : Held) : Type 0 where
  pub created : (k : ℕ) (o : Name × ℕ) → k < n → slice_get outputs k ≡ Some o → Holds new o.0 []
  pub behind : (k : ℕ) (o : Name × ℕ) → n < k → slice_get outputs k ≡ Some o → file_of new o.0 ≡ file_of old o.0

-- each output file but this one holds the lines of some words
abbrev pub HoldLinesBut : ℕ → List (Name × ℕ) → Held → Type 0
HoldLinesBut n outputs held =
    (k : ℕ) (o : Name × ℕ) → k ≢ n → slice_get outputs k ≡ Some o → (words : List ℕ) × Holds held o.0 (lines_of_words o.1 words)

-- what a run that stops leaves in the output files: it stopped where one was to be created, or when all were there
abbrev pub Leaves : List (Name × ℕ) → Held → Held → Type 0
Leaves outputs old new = ((n : ℕ) × AreCreatedTo n outputs old new) ⊎ ((n : ℕ) × HoldLinesBut n outputs new)
