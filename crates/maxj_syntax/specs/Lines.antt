-- The line that a fault of a source says.
use Rattle.std.specs.Prelude.{◌≡◌, List, [], ◌∷◌, ℕ, Option, Some, None, codes}
use Rattle.std.specs.Fmt.{decimal}
use Rattle.refusal_line.specs.Lines.{refused}
use Rattle.maxj_syntax.specs.Source.{Fault}
use Rattle.maxj_syntax.specs.declared.source.SourceError.{SourceError}
use Rattle.maxj_syntax.specs.declared.source.SourceError.TheVariants as E

abbrev pub fault_line : Fault → List ℕ
fault_line (Fault.StrayByte place) = refused (codes "S1") (decimal place ∷ [])
fault_line (Fault.NoToken place) = refused (codes "S2") (decimal place ∷ [])
fault_line (Fault.Misplaced place) = refused (codes "S3") (decimal place ∷ [])
fault_line (Fault.Outside place) = refused (codes "S4") (decimal place ∷ [])
fault_line (Fault.Excess place) = refused (codes "S5") (decimal place ∷ [])
fault_line Fault.NoProject = refused (codes "S6") []

-- the fault that an error names. Want of memory is none
abbrev pub fault_of : SourceError → Option Fault
fault_of (E.StrayByte place) = Some (Fault.StrayByte place)
fault_of (E.NoToken place) = Some (Fault.NoToken place)
fault_of (E.Misplaced place) = Some (Fault.Misplaced place)
fault_of (E.Outside place) = Some (Fault.Outside place)
fault_of (E.Excess place) = Some (Fault.Excess place)
fault_of E.NoProject = Some Fault.NoProject
fault_of E.NoMemory = None

-- the line is that of the fault
abbrev pub IsLineOf : Option Fault → List ℕ → Type 0
IsLineOf (Some fault) line = line ≡ fault_line fault
IsLineOf None line = ⊥
