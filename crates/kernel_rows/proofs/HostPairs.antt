-- A sign between two values is an operation of which one is a stream, or one of the host.
use Rattle.std.proofs.Common.{◌≡◌, ℕ, List, [], ◌∷◌, refl, sym, subst, length, true, false}
use Rattle.std.specs.Option.{is_some}
use Rattle.std.specs.Result.{IsErr, IsErrAnd}
use Rattle.std.specs.Prelude.{ℤ, Result}
use Rattle.kernel_meaning.specs.declared.value.Value.{Value}
use Rattle.kernel_meaning.specs.declared.value.Value.TheVariants as V
use Rattle.kernel_meaning.specs.declared.state.State.{State}
use Rattle.kernel_meaning.specs.declared.row.Sign.{Sign}
use Rattle.kernel_meaning.specs.SignRows.{between_two}
use Rattle.kernel_meaning.specs.Outcomes.{wrong}
use Rattle.kernel_meaning.specs.StreamRows as Rows
use Rattle.kernel_meaning.specs.declared.error.EvalError.{EvalError}
use Rattle.kernel_meaning.specs.HostRows.{whole_between, texts_between}
use Rattle.kernel_rows.specs.Given.{IsGiven, IsDone, IsRefused}
use Rattle.kernel_rows.specs.declared.done.Done.{Done}
use Rattle.kernel_meaning.specs.Answer.{Outcome}
use Rattle.std.specs.Prelude.{Ok, Err}
use Rattle.kernel_rows.specs.Operation.{stream_pair, host_values}

pub pair_of_stream : (sign : Sign) (at : ℕ) (values : List Value) (s : State)
    → is_some (Rows.first_stream values) ≡ true → between_two sign at values s ≡ stream_pair sign at values s
pair_of_stream sign at [] s e = absurd (cc)
pair_of_stream sign at (a ∷ []) s e = refl
pair_of_stream sign at (V.Stream n u feed ∷ b ∷ []) s e = refl
pair_of_stream sign at (_ ∷ V.Stream n u feed ∷ []) s e = refl
pair_of_stream sign at (_ ∷ _ ∷ []) s e = absurd (cc)
pair_of_stream sign at (a ∷ b ∷ c ∷ values) s e = refl

pub pair_of_host : (sign : Sign) (at : ℕ) (a b : Value) (s : State)
    → is_some (Rows.first_stream (a ∷ b ∷ [])) ≡ false
    → between_two sign at (a ∷ b ∷ []) s ≡ host_values sign at a b s
pair_of_host sign at (V.Stream n u feed) b s e = absurd (cc)
pair_of_host sign at _ (V.Stream n u feed) s e = absurd (cc)
pair_of_host sign at _ _ s e = refl

-- so many values are wrong
pub not_two : (sign : Sign) (at : ℕ) (values : List Value) (s : State) → (length values ≡ 2 → ⊥)
    → between_two sign at values s ≡ wrong at
not_two sign at [] s n = refl
not_two sign at (a ∷ []) s n = refl
not_two sign at (a ∷ b ∷ []) s n = absurd (n refl)
not_two sign at (a ∷ b ∷ c ∷ values) s n = refl

-- what is given for values that are others
pub given_values : (sign : Sign) (at : ℕ) (a b a' b' : Value) (s : State) (r : Result Value EvalError)
    → a ≡ a' → b ≡ b' → IsGiven s (host_values sign at a' b' s) r
    → IsGiven s (host_values sign at a b s) r
given_values sign at a b a' b' s r e f g =
    subst (λ v. IsGiven s (host_values sign at v b s) r) (sym e)
    (subst (λ v. IsGiven s (host_values sign at a' v s) r) (sym f) g)

pub given_numbers : (sign : Sign) (at : ℕ) (x y x' y' : ℤ) (s : State) (r : Result Value EvalError)
    → x ≡ x' → y ≡ y' → IsGiven s (whole_between sign at x y s) r
    → IsGiven s (whole_between sign at x' y' s) r
given_numbers sign at x y x' y' s r e f g =
    subst (λ v. IsGiven s (whole_between sign at v y' s) r) e
    (subst (λ v. IsGiven s (whole_between sign at x v s) r) f g)

pub given_texts : (sign : Sign) (at : ℕ) (x y x' y' : List ℕ) (s : State)
    (r : Result Value EvalError)
    → x ≡ x' → y ≡ y' → IsGiven s (texts_between sign at x y s) r
    → IsGiven s (texts_between sign at x' y' s) r
given_texts sign at x y x' y' s r e f g =
    subst (λ v. IsGiven s (texts_between sign at v y' s) r) e
    (subst (λ v. IsGiven s (texts_between sign at x v s) r) f g)

-- the refusal is handed on
pub refused_on : (s : State) (outcome other : Outcome) (r : Result Done EvalError) (e : EvalError)
    → IsErr r → IsErrAnd r (λ x. x ≡ e) → outcome ≡ other → IsRefused other e → IsDone s outcome r
refused_on s outcome other (Ok done) e n h o f = absurd (cc)
refused_on s outcome other (Err x) e n h o f =
    subst (λ y. IsRefused outcome y) (sym h) (subst (λ p. IsRefused p e) (sym o) f)
