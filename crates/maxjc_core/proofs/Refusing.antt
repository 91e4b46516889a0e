-- What holds of the cause of a refusal.
use Rattle.std.proofs.Common.{◌≡◌, ◌⊎◌, ℕ, List, Option, Some, None, Err, inl, inr, refl, sym, subst}
use Rattle.maxj_syntax.specs.Source.{Fault}
use Rattle.maxj_syntax.specs.Outcomes.{FailsToRead}
use Rattle.maxj_syntax.specs.declared.source.SourceError.{SourceError}
use Rattle.maxj_syntax.specs.declared.source.SourceError.TheVariants as source_errors
use Rattle.rtl_ir.specs.declared.error.RtlError.{RtlError}
use Rattle.rtl_ir.specs.declared.error.RtlError.TheVariants as rules
use Rattle.verilog_read.specs.Refused.{Refuses, IsRtlFault}
use Rattle.verilog_read.specs.declared.error.VerilogError.{VerilogError}
use Rattle.verilog_read.specs.declared.error.VerilogError.TheVariants as errors
use Rattle.word_files.specs.RunFiles.{Reads, Fits}
use Rattle.word_files.specs.declared.error.RunFileError.{RunFileError}
use Rattle.word_files.specs.declared.error.RunFileError.TheVariants as run_errors
use Rattle.word_files.specs.declared.run_file.RunFile.{RunFile}
use Rattle.rtl_ir.specs.declared.interface.Interface.{Interface}
use Rattle.maxjc_core.specs.CauseLines.{Cause}
use Rattle.maxjc_core.specs.RunFiles.{IsRunFault, IsUnfitFor}
use Rattle.maxjc_core.specs.Projects.{MakesNoProject}
use Rattle.maxjc_core.specs.ErrorCauses.{IfCause, cause_told, source_cause, run_file_cause}
use Rattle.maxjc_core.specs.SimulateCauses.{rule_cause, text_cause}
use Rattle.maxjc_core.specs.CommandEnds.{IsCutOff}
use Rattle.maxjc_core.specs.CompileStops.{IfRefused}
use Rattle.maxjc_core.specs.declared.refusal.Refusal.{Refusal}
use Rattle.maxjc_core.specs.declared.status.Status.{Status}
use Rattle.maxjc_core.specs.declared.status.Status.TheVariants.{Done, Refused, ReadFault, WriteFault, NoMemory, EdgeLimit}
use Rattle.maxjc_core.specs.declared.stop.Stop.{Stop}
use Rattle.maxjc_core.specs.declared.stop.Stop.TheVariants as stops

-- a further property that it has
pub if_cause_so : (o : Option Cause) (P Q : Cause → Type 0) → ((cause : Cause) → P cause → Q cause) → IfCause o P → IfCause o Q
if_cause_so (Some cause) P Q f p = f cause p
if_cause_so None P Q f p = p

-- there is one
pub cause_of : (o : Option Cause) (P : Cause → Type 0) → IfCause o P → (cause : Cause) × P cause
cause_of (Some cause) P p = (cause, p)
cause_of None P p = absurd p

-- there is one with both properties
pub both_of : (o : Option Cause) (P Q : Cause → Type 0) → IfCause o P → IfCause o Q → (cause : Cause) × P cause × Q cause
both_of (Some cause) P Q p q = (cause, p, q)
both_of None P Q p q = absurd p

-- what holds of all causes holds where there is one
pub of_cause : (o : Option Cause) (A : Type 0) → IfCause o (λ _. A) → A
of_cause (Some cause) A a = a
of_cause None A a = absurd a

-- what is refused for causes of which something follows
pub refused-so : (stop : Stop) (P Q : Cause → Type 0) → ((cause : Cause) → P cause → Q cause)
    → IfRefused stop P → IfRefused stop Q
refused-so (stops.Refused refusal) P Q f h = if_cause_so (cause_told refusal) P Q f h
refused-so stops.ReadFault P Q f h = tt
refused-so stops.NoMemory P Q f h = tt

-- and what was said of a refusal is said of a cause of which it follows
pub said-cause : (stop : Stop) (P Q : Cause → Type 0) → IfRefused stop P
    → (refusal : Refusal) × (stop ≡ stops.Refused refusal) × IfCause (cause_told refusal) Q
    → (cause : Cause) × P cause × Q cause
said-cause stop P Q p r =
    both_of (cause_told r.0) P Q (subst (λ (s : Stop). IfRefused s P) r.1 p) r.2

-- how a command ends that a stop ended
abbrev pub IsStopEnd : Status → Type 0
IsStopEnd status =
    (status ≡ Refused) ⊎ ((status ≡ ReadFault) ⊎ ((status ≡ WriteFault) ⊎ (status ≡ NoMemory)))

pub not-done : (status : Status) → IsStopEnd status → status ≡ Done → ⊥
not-done status (inl e) done = cc
not-done status (inr (inl e)) done = cc
not-done status (inr (inr (inl e))) done = cc
not-done status (inr (inr (inr e))) done = cc

pub not-limited : (status : Status) → IsStopEnd status → status ≡ EdgeLimit → ⊥
not-limited status (inl e) limited = cc
not-limited status (inr (inl e)) limited = cc
not-limited status (inr (inr (inl e))) limited = cc
not-limited status (inr (inr (inr e))) limited = cc

pub refused-or-cut-off : (status : Status) → IsStopEnd status → (status ≡ Refused) ⊎ IsCutOff status
refused-or-cut-off status (inl e) = inl e
refused-or-cut-off status (inr (inl e)) = inr (subst IsCutOff (sym e) tt)
refused-or-cut-off status (inr (inr (inl e))) = inr (subst IsCutOff (sym e) tt)
refused-or-cut-off status (inr (inr (inr e))) = inr (subst IsCutOff (sym e) tt)

pub some-same : {a b : Cause} → Some a ≡ Some b → a ≡ b
some-same e = cc

-- a source that isn't read, but for want of memory, has its first fault
pub of_source : (bytes table : List ℕ) (e : SourceError) → (e ≡ source_errors.NoMemory → ⊥)
    → FailsToRead bytes e → IfCause (source_cause e) (MakesNoProject bytes table)
of_source bytes table (source_errors.StrayByte place) memory h = MakesNoProject.fault (Fault.StrayByte place) h.first
of_source bytes table (source_errors.NoToken place) memory h = MakesNoProject.fault (Fault.NoToken place) h.first
of_source bytes table (source_errors.Misplaced place) memory h = MakesNoProject.fault (Fault.Misplaced place) h.first
of_source bytes table (source_errors.Outside place) memory h = MakesNoProject.fault (Fault.Outside place) h.first
of_source bytes table (source_errors.Excess place) memory h = MakesNoProject.fault (Fault.Excess place) h.first
of_source bytes table source_errors.NoProject memory h = MakesNoProject.fault Fault.NoProject h.first
of_source bytes table source_errors.NoMemory memory h = memory refl

-- so has a text
abbrev pub IsTextFault : List ℕ → Cause → Type 0
IsTextFault text cause = (e : VerilogError) × Refuses text e × (text_cause e ≡ Some cause)

of_rule : (text : List ℕ) (e : RtlError) → IsRtlFault text e → IfCause (rule_cause e) (IsTextFault text)
of_rule text (rules.Unknown name) h = (errors.Rtl (rules.Unknown name), h, refl)
of_rule text (rules.Width name) h = (errors.Rtl (rules.Width name), h, refl)
of_rule text (rules.TwoDrivers name) h = (errors.Rtl (rules.TwoDrivers name), h, refl)
of_rule text (rules.CombLoop names) h = (errors.Rtl (rules.CombLoop names), h, refl)
of_rule text (rules.NoDriver name) h = (errors.Rtl (rules.NoDriver name), h, refl)
of_rule text (rules.SameName name) h = (errors.Rtl (rules.SameName name), h, refl)
of_rule text rules.NoMemory h = h

of_refused : (text : List ℕ) (e : VerilogError) → Refuses text e → IfCause (text_cause e) (IsTextFault text)
of_refused text (errors.NoToken place) h = (errors.NoToken place, h, refl)
of_refused text (errors.Syntax place) h = (errors.Syntax place, h, refl)
of_refused text (errors.Rtl e) h = of_rule text e h
of_refused text (errors.PortShape name) h = (errors.PortShape name, h, refl)
of_refused text errors.NoMemory h = h

pub of_text : (text : List ℕ) (e : VerilogError) → (e ≡ errors.NoMemory → ⊥) → (e ≡ errors.NoMemory) ⊎ Refuses text e → IfCause (text_cause e) (IsTextFault text)
of_text text e memory (inl same) = absurd (memory same)
of_text text e memory (inr h) = of_refused text e h

-- and a run file, of its own and beside ports
pub of_run_file : (bytes : List ℕ) (e : RunFileError) → (e ≡ run_errors.NoMemory → ⊥) → Reads bytes (Err e) → IfCause (run_file_cause e) (IsRunFault bytes)
of_run_file bytes run_errors.NotJson memory h = IsRunFault.not_json h
of_run_file bytes (run_errors.Shape key) memory h = IsRunFault.shape key h
of_run_file bytes run_errors.NoMemory memory h = memory refl

pub of_ports : (run : RunFile) (ports : Interface) (e : RunFileError) → (e ≡ run_errors.NoMemory → ⊥) → Fits run ports (Err e) → IfCause (run_file_cause e) (IsUnfitFor run ports)
of_ports run ports run_errors.NotJson memory h = absurd h
of_ports run ports (run_errors.Shape key) memory h = IsUnfitFor.at_key key h
of_ports run ports run_errors.NoMemory memory h = memory refl
