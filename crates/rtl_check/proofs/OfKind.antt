-- Errors by kind.
use Rattle.std.proofs.Common.{◌≡◌, ◌⊎◌, List, ℕ, sym, subst, inl, inr, ⊎_elim}
use Rattle.rtl_ir.specs.declared.error.RtlError.{RtlError}
use Rattle.rtl_ir.specs.declared.error.RtlError.TheVariants.{NoMemory}
use Rattle.rtl_check.specs.Checked.{IsNoMemoryOr}

-- an error of one kind is a fault where its name's property makes it one
pub of_kind : (kind : List ℕ → RtlError) (P : List ℕ → Type 0) (Q : RtlError → Type 0) (e : RtlError) → ((name : List ℕ) → P name → Q (kind name)) → IsNoMemoryOr kind P e → (e ≡ NoMemory) ⊎ Q e
of_kind kind P Q e to h = ⊎_elim (λ n. inl n) (λ w. inr (subst Q (sym w.1) (to w.0 w.2))) h
