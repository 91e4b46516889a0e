-- What is known of a call that failed: for want of memory, or for a cause.
use Rattle.std.specs.Prelude.{◌≡◌, Result, IfErr, Err, ⊤}
use Rattle.mx_base.specs.declared.fail.Fail.{Fail}
use Rattle.mx_base.specs.declared.fail.Fail.TheVariants.{NoMemory, Because}

-- P of the cause, where there is one
abbrev pub IfCause : {E : Type 0} → Fail E → (E → Type 0) → Type 0
IfCause NoMemory P = ⊤
IfCause (Because cause) P = P cause

-- P of the cause, where the call failed for one
abbrev pub IfBecause : {T E : Type 0} → Result T (Fail E) → (E → Type 0) → Type 0
IfBecause result P = IfErr result (λ fail. IfCause fail P)

-- P, where the call failed for a cause
abbrev pub OnBecause : {T E : Type 0} → Result T (Fail E) → Type 0 → Type 0
OnBecause result P = IfBecause result (λ _. P)

-- the call failed for this cause
abbrev pub IsBecause : {T E : Type 0} → Result T (Fail E) → E → Type 0
IsBecause result cause = result ≡ Err (Because cause)

-- the same failure, of whose cause R makes the new one
abbrev pub IsMapped : {E C : Type 0} → (E → C → Type 0) → Fail E → Fail C → Type 0
IsMapped R NoMemory NoMemory = ⊤
IsMapped R NoMemory (Because new) = ⊥
IsMapped R (Because old) NoMemory = ⊥
IsMapped R (Because old) (Because new) = R old new

-- the failure with f of its cause
abbrev pub map_fail : {E C : Type 0} → (E → C) → Fail E → Fail C
map_fail f NoMemory = NoMemory
map_fail f (Because cause) = Because (f cause)
