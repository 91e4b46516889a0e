-- Lines put into a file.
use Rattle.std.proofs.Common.{◌≡◌, ℕ, List, ◌++◌}
use Rattle.mx_base.specs.Files.{Name, Held, Holds}

-- the lines so far are those that the file holds, and those that wait
pub record IsPut (held : Held) (name : Name) (waiting lines : List ℕ) : Type 0 where
  pub file : List ℕ
  pub holds : Holds held name file
  pub are : file ++ waiting ≡ lines
