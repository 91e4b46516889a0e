-- Where a file of `expect` isn't held.
use Rattle.std.proofs.Common.{◌≡◌, ◌⊎◌, inl, inr, ℕ, List, refl}
use Rattle.std.specs.Prelude.{IsSome}
use Rattle.mx_base.specs.Files.{Held, Lacks}
use Rattle.maxjc_core.specs.CheckCauses.{IsInputTooLarge, LacksChecked}
use Rattle.maxjc_core.specs.CheckStops.{AreInputs}
use Rattle.maxjc_core.specs.Command.{ExpectNames}
use Rattle.maxjc_core.specs.ExpectCauses.{IsFileTooLarge, LacksFile}
use Rattle.maxjc_core.specs.Expecting.{CanBegin}
use Rattle.maxjc_core.specs.CauseLines.{Cause}
use Rattle.maxjc_core.specs.ErrorCauses.{cause_told}
use Rattle.maxjc_core.specs.CompileStops.{IfRefused}
use Rattle.maxjc_core.specs.declared.stop.Stop.{Stop}
use Rattle.maxjc_core.specs.declared.stop.Stop.TheVariants as stops
use Rattle.maxjc_core.proofs.CheckExclusion.{no-large-input, told_lacks}
use Rattle.maxjc_core.proofs.Checking.{checkable}
use Rattle.maxjc_core.proofs.Exclusion.{told, not_past}
use Rattle.maxjc_core.proofs.Refusing.{cause_of}

-- a stop that has no cause is a read fault or want of memory
pub no-cause-left : (stop : Stop) (P : Cause → Type 0) → ((cause : Cause) → P cause → ⊥) → IfRefused stop P
    → (stop ≡ stops.ReadFault) ⊎ (stop ≡ stops.NoMemory)
no-cause-left (stops.Refused r) P none refused =
    let some = cause_of (cause_told r) P refused in absurd (none some.0 some.1)
no-cause-left stops.ReadFault P none refused = inl refl
no-cause-left stops.NoMemory P none refused = inr refl

-- where one of the four files isn't held, reading those of a check stops with a read fault or want
-- of memory
pub missing-run-inputs : (names : ExpectNames) (held : Held) (stop : Stop)
    → (LacksChecked names.check held → (stop ≡ stops.ReadFault) ⊎ (stop ≡ stops.NoMemory))
    → IfRefused stop (λ cause. IsSome held → IsInputTooLarge names.check held cause)
    → LacksFile names held → (stop ≡ stops.ReadFault) ⊎ (stop ≡ stops.NoMemory)
missing-run-inputs names held stop missing refused (inl lacks) = missing lacks
missing-run-inputs names held stop missing refused (inr after) =
    let files = after.check in
    no-cause-left stop (λ cause. IsSome held → IsInputTooLarge names.check held cause)
    (λ cause is. no-large-input names.check held cause
    (is (told held names.check.source files.project.source files.project.source_is.holds)) files)
    refused

-- where reading the run file stops with a fault, the fault is counted or the run file isn't held
pub run-fault : {Rises : Type 0} {source table report : List ℕ} (names : ExpectNames) (held : Held)
    → (IsSome held → AreInputs names.check held source table report)
    → Rises ⊎ Lacks held names.run → Rises ⊎ LacksFile names held
run-fault names held read (inl rises) = inl rises
run-fault {Rises} {source} {table} {report} names held read (inr l) =
    inr (inr (record {
      check = checkable names.check held source table report (read (told_lacks held names.run l));
      then_run = l;
    }))

-- files that begin a run have no cause of their bytes
pub no-file-cause : (names : ExpectNames) (held : Held) (begun : CanBegin names held) (cause : Cause)
    → IsFileTooLarge names held cause → ⊥
no-file-cause names held begun cause (IsFileTooLarge.input _ large) =
    no-large-input names.check held cause large begun.files.check
no-file-cause names held begun _ (IsFileTooLarge.run after) =
    not_past held names.run _ after.then_run begun.files.run_is
