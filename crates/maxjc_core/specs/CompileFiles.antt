-- What `compile` leaves of the two files that it writes, the output and then the report.
use Rattle.std.specs.Prelude.{ℕ, ◌≡◌, ◌≢◌, ◌⊎◌, List, is_some}
use Rattle.mx_base.specs.Files.{Held, Holds, file_of}
use Rattle.maxjc_core.specs.Command.{Name, Names}
use Rattle.maxjc_core.specs.CompileCauses.{IsReadable}
use Rattle.maxjc_core.specs.Compiling.{Compiles}

-- only the files of these two names may have changed
pub record ChangesBoth (output report : Name) (old new : Held) : Type 0 where
  pub told : is_some new ≡ is_some old
  pub others : (q : Name) → q ≢ output → q ≢ report → file_of new q ≡ file_of old q

-- the report's file is as before, or the output holds the whole text: the report is created when the output has been written
abbrev pub LeavesInOrder : Name → Name → List ℕ → Held → Held → Type 0
LeavesInOrder output report text before now =
    (file_of now report ≡ file_of before report) ⊎ Holds now output text

-- what a fault leaves of a project that is compiled: what was to be written
pub record IsCutShort (names : Names) (before now : Held) : Type 0 where
  pub files : IsReadable names.source names.table before
  pub text : List ℕ
  pub report : List ℕ
  pub line : List ℕ
  pub compiles : Compiles files.source files.table text report line
  pub in_order : LeavesInOrder names.output names.report text before now

-- What a fault of writing or saying leaves: the files as before, where a refusal could not be said, or what a project that is
-- compiled leaves.
abbrev pub LeavesCutOff : Names → Held → Held → Type 0
LeavesCutOff names before now = (now ≡ before) ⊎ IsCutShort names before now
