-- What reading the files of a project says of what they hold.
use Rattle.std.proofs.Common.{◌≡◌, ◌⊎◌, inl, inr, ◌<◌, ◌≤◌, ℕ, List, Option, Some, None, length, arith, refl, sym, subst}
use Rattle.std.specs.Prelude.{IsSome}
use Rattle.std.specs.FinMap.{get}
use Rattle.mx_base.specs.Files.{Held, Name, Holds, Lacks}
use Rattle.maxjc_core.specs.CompileCauses.{file_limit, IsWithin, IsPast, IsMissing}
use Rattle.maxjc_core.specs.CauseLines.{Cause, TooLarge}
use Rattle.maxjc_core.specs.ErrorCauses.{cause_told}
use Rattle.maxjc_core.specs.CompileStops.{IfRefused}
use Rattle.maxjc_core.specs.declared.stop.Stop.{Stop}
use Rattle.maxjc_core.specs.declared.stop.Stop.TheVariants as stops
use Rattle.maxjc_core.proofs.Refusing.{if_cause_so, of_cause}

-- a file that is told is held or not
found_in : (held : Held) (name : Name) (f : Option (List ℕ)) → IsSome held
    → (Lacks held name → ⊥) → Some f ≡ (let told : Option
    (Option (List ℕ)) = elim held [ None ↦ None | Some m ↦ Some (get m name) ] in told)
    → (bytes : List ℕ) × Holds held name bytes
found_in None name f told held e = absurd (cc)
found_in (Some m) name None told held e = absurd (held (sym e))
found_in (Some m) name (Some bytes) told held e = (bytes, sym e)

pub found : (held : Held) (name : Name) → IsSome held → (Lacks held name → ⊥) → (bytes : List ℕ) × Holds held name bytes
found None name told held = absurd (cc)
found (Some m) name told held = found_in (Some m) name (get m name) told held refl

-- a file that was read is within the limit
pub within : {limit : ℕ} (held : Held) (name : Name) (bytes : List ℕ) → IsSome held
    → (Lacks held name → ⊥) → ((file : List ℕ) → Holds held name file → bytes ≡ file)
    → length bytes ≤ limit → IsWithin limit held name bytes
within {limit} held name bytes told lacks whole fits =
    let f = found held name told lacks in
    record { holds = subst (λ b. Holds held name b) (sym (whole f.0 f.1)) f.1; within = fits }

-- a file past the limit is held
past : (limit : ℕ) (held : Held) (name : Name) → IsSome held → (Lacks held name → ⊥) → ((file : List ℕ) → Holds held name file → limit < length file) → IsPast limit held name
past limit held name told lacks large =
    let f = found held name told lacks in
    record { bytes = f.0; holds = f.1; past = large f.0 f.1 }

-- a read that stops, by what it stops with
pub read_stops : (limit : ℕ) (held : Held) (name : Name) (stop : Stop) (G : Cause → Type 0)
    → IfRefused stop (λ c. c ≡ TooLarge name) → ((file : List ℕ) → Holds held name file
    → IfRefused stop (λ _. limit < length file)) → (Lacks held name → stop ≡ stops.ReadFault)
    → (IsSome held → IsPast limit held name → G (TooLarge name)) → IfRefused stop (λ c. IsSome held → G c)
read_stops limit held name (stops.Refused r) G named large lacks g =
    if_cause_so (cause_told r) (λ c. c ≡ TooLarge name) (λ c. IsSome held → G c)
    (λ c same told. subst G (sym same) (g told (past limit held name told (λ l. let e = lacks l in cc) (λ file holds. of_cause (cause_told r) (limit < length file) (large file holds)))))
    named
read_stops limit held name stops.ReadFault G named large lacks g = tt
read_stops limit held name stops.NoMemory G named large lacks g = tt

-- where a file is missing, the first read that stops is a read fault or want of memory
pub missing_stops : (source_name table_name : Name) (held : Held) (stop : Stop)
    → ((file : List ℕ) → Holds held source_name file
    → IfRefused stop (λ _. file_limit < length file)) → (Lacks held source_name
    → stop ≡ stops.ReadFault) → IsMissing source_name table_name held → (stop ≡ stops.ReadFault)
    ⊎ (stop ≡ stops.NoMemory)
missing_stops source_name table_name held stop large lacks (inl l) = inl (lacks l)
missing_stops source_name table_name held (stops.Refused r) large lacks (inr a) = absurd
    (let h = of_cause (cause_told r) (file_limit < length a.source)
    (large a.source a.source_is.holds) in let k = a.source_is.within in omega arith)
missing_stops source_name table_name held stops.ReadFault large lacks (inr a) = inl refl
missing_stops source_name table_name held stops.NoMemory large lacks (inr a) = inr refl
