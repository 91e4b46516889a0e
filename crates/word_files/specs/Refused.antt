-- The line that a run file says that is refused.
use Rattle.std.specs.Prelude.{ℕ, List, [], ◌∷◌, Option, Some, None, codes}
use Rattle.refusal_line.specs.Lines.{refused}
use Rattle.word_files.specs.declared.error.RunFileError.{RunFileError}
use Rattle.word_files.specs.declared.error.RunFileError.TheVariants.{NotJson, Shape, NoMemory}

-- the line of the fault. Want of memory is none
abbrev pub said : RunFileError → Option (List ℕ)
said NotJson = Some (refused (codes "U1") [])
said (Shape key) = Some (refused (codes "U2") (key ∷ []))
said NoMemory = None
