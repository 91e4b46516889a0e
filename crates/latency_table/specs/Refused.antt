-- The line that a table says that is refused.
use Rattle.std.specs.Prelude.{ℕ, List, [], ◌∷◌, Option, Some, None, codes}
use Rattle.refusal_line.specs.Lines.{refused}
use Rattle.latency_table.specs.Names.{name_of}
use Rattle.latency_table.specs.declared.error.TableError.{TableError}
use Rattle.latency_table.specs.declared.error.TableError.TheVariants.{NotJson, Shape, Range, NoMemory}

-- the line of the fault. Want of memory is none
abbrev pub said : TableError → Option (List ℕ)
said NotJson = Some (refused (codes "T1") [])
said (Shape key) = Some (refused (codes "T2") (key ∷ []))
said (Range op) = Some (refused (codes "T3") (name_of op ∷ []))
said NoMemory = None
