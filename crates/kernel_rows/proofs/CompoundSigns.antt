-- A compound assignment is the row of its operator.
use Rattle.std.proofs.Common.{◌≡◌, ℕ, List, [], ◌∷◌, refl, ap, sym, subst, Some, None}
use Rattle.std.specs.Prelude.{Option, Result}
use Rattle.kernel_meaning.specs.declared.value.Value.{Value}
use Rattle.kernel_meaning.specs.declared.state.State.{State}
use Rattle.kernel_meaning.specs.declared.row.Row.TheVariants as R
use Rattle.kernel_meaning.specs.declared.row.Sign.{Sign}
use Rattle.kernel_meaning.specs.declared.error.EvalError.{EvalError}
use Rattle.kernel_meaning.specs.Outcomes.{wrong}
use Rattle.kernel_meaning.specs.Rows
use Rattle.kernel_meaning.specs.Signs.{sign_of}
use Rattle.kernel_meaning.specs.Ways.{combined_by, first_byte}
use Rattle.kernel_rows.specs.declared.done.Done.{Done}
use Rattle.kernel_rows.specs.Given.{IsDone}
use Rattle.kernel_rows.specs.Kept.{combined_pair}

of_pair : (sign : List ℕ) (at : ℕ) (a b : Value) (s : State) (found : Option Sign)
    → sign_of (first_byte sign) ≡ found
    → combined_pair sign at (a ∷ b ∷ []) s ≡ combined_by found at a b s
of_pair sign at a b s found e = ap (λ (x : Option Sign). combined_by x at a b s) e

combined_is : (sign : List ℕ) (at : ℕ) (values : List Value) (s : State) (operator : Sign)
    → sign_of (first_byte sign) ≡ Some operator
    → combined_pair sign at values s ≡ Rows.row_of (R.Binary operator) at values s
unfolding Rows.row_of
combined_is sign at [] s operator e = refl
combined_is sign at (a ∷ []) s operator e = refl
combined_is sign at (a ∷ b ∷ []) s operator e = of_pair sign at a b s (Some operator) e
combined_is sign at (a ∷ b ∷ c ∷ values) s operator e = refl

pub no_operator : (sign : List ℕ) (at : ℕ) (values : List Value) (s : State)
    → sign_of (first_byte sign) ≡ None → combined_pair sign at values s ≡ wrong at
no_operator sign at [] s e = refl
no_operator sign at (a ∷ []) s e = refl
no_operator sign at (a ∷ b ∷ []) s e = of_pair sign at a b s None e
no_operator sign at (a ∷ b ∷ c ∷ values) s e = refl

pub combined_done : (sign : List ℕ) (at : ℕ) (values : List Value) (old new : State)
    (operator : Sign) (result : Result Done EvalError) → sign_of (first_byte sign) ≡ Some operator
    → IsDone new (Rows.row_of (R.Binary operator) at values old) result
    → IsDone new (combined_pair sign at values old) result
combined_done sign at values old new operator result e d =
    subst (λ o. IsDone new o result) (sym (combined_is sign at values old operator e)) d
