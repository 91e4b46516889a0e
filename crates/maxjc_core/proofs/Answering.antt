-- What compiling answers, from what is made of the bytes of the source.
use Rattle.std.proofs.Common.{ℕ, List, Result, Ok, Err}
use Rattle.std.specs.Prelude.{IsSome, IfOk, IfErr}
use Rattle.mx_base.specs.Files.{Held}
use Rattle.maxjc_core.specs.Command.{Name, Names}
use Rattle.maxjc_core.specs.CompileCauses.{IsReadable, IsTooLarge, Stands, IsOfFiles}
use Rattle.maxjc_core.specs.Compiling.{Compiles}
use Rattle.maxjc_core.specs.ErrorCauses.{cause_told}
use Rattle.maxjc_core.specs.CompileStops.{IfRefused, AreBytes, Answers}
use Rattle.maxjc_core.specs.declared.compile.Compiled.{Compiled}
use Rattle.maxjc_core.specs.declared.stop.Stop.{Stop}
use Rattle.maxjc_core.specs.declared.stop.Stop.TheVariants as stops
use Rattle.maxjc_core.proofs.Refusing.{if_cause_so, refused-so}

-- the bytes of a project that was read are those of its files
abbrev pub readable : (source_name table_name : Name) (held : Held) (source table : List ℕ)
    → AreBytes source_name table_name held source table → IsReadable source_name table_name held
readable source_name table_name held source table are = record {
  source = source;
  source_is = are.source_is;
  table = table;
  table_is = are.table_is;
}

pub answers_of : (names : Names) (held : Held) (source table : List ℕ) (r : Result Compiled Stop)
    → (IsSome held → AreBytes names.source names.table held source table)
    → IfOk r (λ c. Compiles source table c.text.items c.report.items c.summary.items)
    → IfErr r (λ s. IfRefused s (IsOfFiles source table)) → Answers names held r
answers_of names held source table (Ok c) are made refused = λ told. record {
  files = readable names.source names.table held source table (are told);
  compiles = made;
}
answers_of names held source table (Err (stops.Refused refusal)) are made refused =
    if_cause_so (cause_told refusal) (IsOfFiles source table) (λ cause. IsSome held
    → Stands names held cause)
    (λ cause is told.
    Stands.of_files (readable names.source names.table held source table (are told)) cause is)
    refused
answers_of names held source table (Err stops.ReadFault) are made refused = tt
answers_of names held source table (Err stops.NoMemory) are made refused = tt

-- what stops reading a project stops compiling it
pub answers_unread : (names : Names) (held : Held) (stop : Stop)
    → IfRefused stop (λ cause. IsSome held → IsTooLarge names.source names.table held cause)
    → IfRefused stop (λ cause. IsSome held → Stands names held cause)
answers_unread names held stop refused =
    refused-so stop (λ cause. IsSome held → IsTooLarge names.source names.table held cause)
    (λ cause. IsSome held → Stands names held cause)
    (λ cause is told. Stands.too_large cause (is told)) refused
