-- What compiling answers before anything is written, as the code has it.
use Rattle.std.specs.Prelude.{ℕ, List, IsSome, Result, Ok, Err}
use Rattle.mx_base.specs.Files.{Held}
use Rattle.maxjc_core.specs.Command.{Name, Names}
use Rattle.maxjc_core.specs.CompileCauses.{file_limit, IsWithin, IsReadable, Stands}
use Rattle.maxjc_core.specs.CauseLines.{Cause}
use Rattle.maxjc_core.specs.ErrorCauses.{cause_told, IfCause}
use Rattle.maxjc_core.specs.Compiling.{Compiles}
use Rattle.maxjc_core.specs.declared.stop.Stop.{Stop}
use Rattle.maxjc_core.specs.declared.stop.Stop.TheVariants as stops
use Rattle.maxjc_core.specs.declared.compile.Compiled.{Compiled}

-- a refusal has a cause, and this holds of it
abbrev pub IfRefused : Stop → (Cause → Type 0) → Type 0
IfRefused (stops.Refused refusal) P = IfCause (cause_told refusal) P
IfRefused stops.ReadFault P = Unit {0}
IfRefused stops.NoMemory P = Unit {0}

-- the files of a project are held and within the limit, with these bytes
pub record AreBytes (source_name table_name : Name) (held : Held) (source table : List ℕ) : Type 0 where
  pub source_is : IsWithin file_limit held source_name source
  pub table_is : IsWithin file_limit held table_name table

-- the files that are read, and what is made of them
pub record IsCompiled (names : Names) (held : Held) (text report line : List ℕ) : Type 0 where
  pub files : IsReadable names.source names.table held
  pub compiles : Compiles files.source files.table text report line

-- of what the files hold, where they are told: what is made of them, or why they are refused
abbrev pub Answers : Names → Held → Result Compiled Stop → Type 0
Answers names held (Ok c) = IsSome held → IsCompiled names held c.text.items c.report.items c.summary.items
Answers names held (Err stop) = IfRefused stop (λ cause. IsSome held → Stands names held cause)
