-- The words that the kernels of a run read of input files.
use Rattle.std.specs.Prelude.{ℕ, ◌≡◌, ◌<◌, ◌≤◌, ◌^◌, List, [], ◌∷◌, Some, None, take, slice_index}
use Rattle.std.specs.List.{AllZip}
use Rattle.manager_links.specs.declared.hosts.HostPort.{HostPort}
use Rattle.mx_base.specs.Files.{Name, Held, Holds, Lacks}
use Rattle.word_lists.specs.Read.{said_by, AreWords, IsFirstWrong}
use Rattle.maxjc_core.specs.CauseLines.{Cause, BadLine, WordRange}

-- a file whose lines are read: the width of its words, and how many lines are read at most
pub record Reading : Type 0 where
  pub name : Name
  pub width : ℕ
  pub most : ℕ

-- so many lines of a file, of which these are the name and the width
abbrev pub reading_of : Name × ℕ → ℕ → Reading
reading_of file most = record { name = file.0; width = file.1; most = most }

-- The readings of files, of each its name and its width, whose words go to the ports of these
-- streams, where the kernels run so many ticks each: of each file as many lines as the kernel has
-- ticks that reads it.
abbrev pub readings_of : List ℕ → List HostPort → List (Name × ℕ) → List Reading
readings_of ticks (host ∷ hosts) (file ∷ files) =
    reading_of file (slice_index ticks host.port.kernel)
    ∷ readings_of ticks hosts files
readings_of ticks hosts files = []

-- The words that a reading gives: those of the first lines of the file, each of which says one, or
-- none where no line is to be read.
pub data HasWords (held : Held) (r : Reading) : List ℕ → Type 0 where
  unread : r.most ≡ 0 → HasWords held r []
  read :
      (file words : List ℕ)
      → Holds held r.name file
      → AreWords r.width (take r.most (said_by file)) words
      → HasWords held r words

-- those of all readings, in their order
abbrev pub HaveWords : Held → List Reading → List (List ℕ) → Type 0
HaveWords held readings lists = AllZip (HasWords held) readings lists

-- the cause for which a reading gives no words: the first of the lines to be read that says none
pub data IsLineFault (held : Held) (r : Reading) : Cause → Type 0 where
  bad_line :
      (file : List ℕ) (line : ℕ)
      → Holds held r.name file
      → IsFirstWrong r.width (take r.most (said_by file)) line None
      → IsLineFault held r (BadLine r.name line)
  word_range :
      (file : List ℕ) (line value : ℕ)
      → Holds held r.name file
      → 2 ^ r.width ≤ value
      → IsFirstWrong r.width (take r.most (said_by file)) line (Some value)
      → IsLineFault held r (WordRange r.name line)

-- the cause of the first reading that has one, where those before it give words
pub data IsFirstLineFault (held : Held) : List Reading → Cause → Type 0 where
  here :
      (r : Reading) (rs : List Reading) (cause : Cause)
      → IsLineFault held r cause
      → IsFirstLineFault held (r ∷ rs) cause
  later :
      (r : Reading) (rs : List Reading) (words : List ℕ) (cause : Cause)
      → HasWords held r words
      → IsFirstLineFault held rs cause
      → IsFirstLineFault held (r ∷ rs) cause

-- a line is to be read of a file that isn't held
pub record LacksLine (held : Held) (r : Reading) : Type 0 where
  pub some : 0 < r.most
  pub lacks : Lacks held r.name

-- so it is of one of these readings, where those before it give words
pub data LacksWords (held : Held) : List Reading → Type 0 where
  here : (r : Reading) (rs : List Reading) → LacksLine held r → LacksWords held (r ∷ rs)
  later :
      (r : Reading) (rs : List Reading) (words : List ℕ)
      → HasWords held r words
      → LacksWords held rs
      → LacksWords held (r ∷ rs)
