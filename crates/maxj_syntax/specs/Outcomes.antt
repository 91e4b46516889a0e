-- What the reader of a source tells of its bytes.
use Rattle.std.specs.Prelude.{◌≡◌, ℕ, List}
use Rattle.maxj_syntax.specs.declared.tree.Program.{Program}
use Rattle.maxj_tokens.specs.declared.scanner.ScanError.{ScanError}
use Rattle.maxj_tokens.specs.declared.scanner.ScanError.TheVariants as S
use Rattle.maxj_syntax.specs.declared.parser.ParseError.{ParseError}
use Rattle.maxj_syntax.specs.declared.parser.ParseError.TheVariants as P
use Rattle.maxj_syntax.specs.declared.source.SourceError.{SourceError}
use Rattle.maxj_syntax.specs.declared.source.SourceError.TheVariants as E
use Rattle.maxj_syntax.specs.Tree.{ClassTree, ProgramIs}
use Rattle.maxj_syntax.specs.Source.{IsSourceOf, Fault, HasFirst}

-- the bytes are a source and the program is its tree, and they have no other tree and no fault
pub record IsTheSource (bytes : List ℕ) (p : Program) : Type 0 where
  pub classes : List ClassTree
  pub source : IsSourceOf bytes classes
  pub program : ProgramIs p classes
  pub only : (others : List ClassTree) → IsSourceOf bytes others → others ≡ classes
  pub sound : (f : Fault) → HasFirst bytes f → ⊥

-- the fault is the first of the bytes and the only one that is first, and they are no source
pub record IsTheFault (bytes : List ℕ) (f : Fault) : Type 0 where
  pub first : HasFirst bytes f
  pub only : (g : Fault) → HasFirst bytes g → g ≡ f
  pub none : (classes : List ClassTree) → IsSourceOf bytes classes → ⊥

-- the error tells the fault
abbrev pub FailsToRead : List ℕ → SourceError → Type 0
FailsToRead bytes E.NoMemory = Unit {0}
FailsToRead bytes (E.StrayByte place) = IsTheFault bytes (Fault.StrayByte place)
FailsToRead bytes (E.NoToken place) = IsTheFault bytes (Fault.NoToken place)
FailsToRead bytes (E.Outside place) = IsTheFault bytes (Fault.Outside place)
FailsToRead bytes (E.Excess place) = IsTheFault bytes (Fault.Excess place)
FailsToRead bytes (E.Misplaced place) = IsTheFault bytes (Fault.Misplaced place)
FailsToRead bytes E.NoProject = IsTheFault bytes Fault.NoProject

abbrev pub of_scan : ScanError → SourceError
of_scan S.NoMemory = E.NoMemory
of_scan (S.StrayByte place) = E.StrayByte place
of_scan (S.NoToken place) = E.NoToken place

abbrev pub of_parse : ParseError → SourceError
of_parse P.NoMemory = E.NoMemory
of_parse (P.Misplaced place) = E.Misplaced place
