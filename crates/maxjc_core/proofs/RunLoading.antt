-- What loading a text and a run file answers, by what its parts answered.
use Rattle.std.proofs.Common.{◌≡◌, ◌⊎◌, ◌<◌, ℕ, List, Result, Ok, Err, inl, inr, length, arith, refl}
use Rattle.std.specs.Prelude.{IsSome, IfOk, IfErr}
use Rattle.mx_base.specs.Files.{Held, Name, Holds, Lacks}
use Rattle.maxjc_core.specs.Command.{RunNames}
use Rattle.maxjc_core.specs.CauseLines.{Cause}
use Rattle.maxjc_core.specs.CompileCauses.{file_limit, IsWithin}
use Rattle.maxjc_core.specs.Loading.{text_limit, FitTogether, AreRead, IsLoaded}
use Rattle.maxjc_core.specs.LoadStops.{FitAs, LoadAnswers}
use Rattle.maxjc_core.specs.SimulateCauses.{BreaksForm, IsFaulty, LacksFile}
use Rattle.maxjc_core.specs.ErrorCauses.{cause_told}
use Rattle.maxjc_core.specs.CompileStops.{IfRefused}
use Rattle.maxjc_core.specs.declared.stop.Stop.{Stop}
use Rattle.maxjc_core.specs.declared.stop.Stop.TheVariants as stops
use Rattle.maxjc_core.specs.declared.load.Loaded.{Loaded}
use Rattle.maxjc_core.proofs.Exclusion.{told}
use Rattle.maxjc_core.proofs.Refusing.{of_cause}
use Rattle.maxjc_core.proofs.RunReading.{refused_so}
use Rattle.maxjc_core.proofs.RunExclusion.{moved, read_faulty}

-- where a file is missing, the first read that stops is a read fault or want of memory
pub missing_stops : (names : RunNames) (held : Held) (stop : Stop)
    → ((file : List ℕ) → Holds held names.text file
    → IfRefused stop (λ _. text_limit < length file)) → (Lacks held names.text
    → stop ≡ stops.ReadFault) → LacksFile names held → (stop ≡ stops.ReadFault)
    ⊎ (stop ≡ stops.NoMemory)
missing_stops names held stop large lacks (inl l) = inl (lacks l)
missing_stops names held (stops.Refused r) large lacks (inr a) = absurd
    (let h = of_cause (cause_told r) (text_limit < length a.text)
    (large a.text a.text_is.holds) in let k = a.text_is.within in omega arith)
missing_stops names held stops.ReadFault large lacks (inr a) = inl refl
missing_stops names held stops.NoMemory large lacks (inr a) = inr refl

-- a file within its limit isn't refused
pub within_read : (limit : ℕ) (held : Held) (name : Name) (bytes : List ℕ) (stop : Stop)
    → IsWithin limit held name bytes → ((file : List ℕ) → Holds held name file
    → IfRefused stop (λ _. limit < length file)) → IfRefused stop (λ _. ⊥)
within_read limit held name bytes (stops.Refused r) within large = absurd (let h = of_cause (cause_told r) (limit < length bytes) (large bytes within.holds) in let k = within.within in omega arith)
within_read limit held name bytes stops.ReadFault within large = tt
within_read limit held name bytes stops.NoMemory within large = tt

-- the bytes that were read
pub record Read (names : RunNames) (held : Held) (text run : List ℕ) : Type 0 where
  pub text_is : IsWithin text_limit held names.text text
  pub run_is : IsWithin file_limit held names.run run

files_of : {names : RunNames} {held : Held} {text run : List ℕ} → Read names held text run → AreRead names held
files_of {names} {held} {text} {run} r = record { text = text; text_is = r.text_is; run = run; run_is = r.run_is }

pub load_answers : (names : RunNames) (held : Held) (text run : List ℕ) (r : Result Loaded Stop)
    → (IsSome held → Read names held text run) → IfOk r (λ l. FitAs text run l.design l.plan)
    → IfErr r (λ stop. IfRefused stop (BreaksForm text run)) → LoadAnswers names held r
load_answers names held text run (Ok l) read fit breaks = λ is. record { files = record { text = text; text_is = (read is).text_is; run = run; run_is = (read is).run_is }; is = fit }
load_answers names held text run (Err stop) read fit breaks =
    refused_so stop (BreaksForm text run) (λ cause. IsSome held → IsFaulty names held cause)
    (λ cause b is. IsFaulty.of_form (record { text = text; text_is = (read is).text_is; run = run; run_is = (read is).run_is }) cause b) breaks

told_faulty : (names : RunNames) (held : Held) (cause : Cause) → IsFaulty names held cause → IsSome held
told_faulty names held cause (IsFaulty.text_too_large past) = told held names.text past.bytes past.holds
told_faulty names held cause (IsFaulty.run_too_large after) = told held names.text after.text after.text_is.holds
told_faulty names held cause (IsFaulty.of_form files c b) = told held names.text files.text files.text_is.holds

pub faulty_loads_not : (names : RunNames) (held : Held) (text run : List ℕ)
    (r : Result Loaded Stop) → (IsSome held → Read names held text run)
    → ((cause : Cause) → BreaksForm text run cause → IfOk r (λ _. ⊥)) → (cause : Cause)
    → IsFaulty names held cause → IfOk r (λ _. ⊥)
faulty_loads_not names held text run r read not cause faulty =
    let is = read (told_faulty names held cause faulty) in
    not cause (read_faulty names held cause (record { text = text; text_is = is.text_is; run = run; run_is = is.run_is }) faulty)

pub loaded_refused_not : (names : RunNames) (held : Held) (text run : List ℕ)
    (r : Result Loaded Stop) → (IsSome held → Read names held text run)
    → (FitTogether text run → IfErr r (λ stop. IfRefused stop (λ _. ⊥))) → IsLoaded names held
    → IfErr r (λ stop. IfRefused stop (λ _. ⊥))
loaded_refused_not names held text run r read not loaded =
    let is = read (told held names.text loaded.files.text loaded.files.text_is.holds) in
    not (moved names held loaded.files (record { text = text; text_is = is.text_is; run = run; run_is = is.run_is }) loaded.fit)
