-- The calls that give types of streams.
use Rattle.std.specs.Prelude.{◌&&◌, ℕ, ◌+◌, suc, nat_le, List, [], ◌∷◌, Bool, ℤ, pos, nat_lt}
use Rattle.fix_arith.specs.declared.types.StreamType.{StreamType}
use Rattle.fix_arith.specs.declared.types.StreamType.TheVariants as T
use Rattle.kernel_meaning.specs.declared.value.Value.{Value}
use Rattle.kernel_meaning.specs.declared.state.State.{State}
use Rattle.kernel_meaning.specs.declared.error.EvalError.TheVariants as E
use Rattle.kernel_meaning.specs.declared.value.Value.TheVariants as V
use Rattle.kernel_meaning.specs.Answer.{Outcome, Fails}
use Rattle.kernel_meaning.specs.Outcomes.{gives, wrong, where_so}

abbrev pub of_width : ℕ → ℤ → (ℕ → StreamType) → State → Outcome
of_width at (pos (suc n)) type state =
    where_so (nat_lt n 128) (E.TypeRange at) (gives (V.«Type» (type (suc n))) state)
of_width at _ type state = Fails (E.TypeRange at)

abbrev pub width_type : ℕ → (ℕ → StreamType) → List Value → State → Outcome
width_type at type (V.Int n ∷ []) state = of_width at n type state
width_type at type _ state = wrong at

abbrev pub fix_of : ℕ → ℤ → ℤ → Bool → State → Outcome
fix_of at (pos whole) (pos frac) signed state =
    where_so (nat_le 1 (whole + frac) && nat_le (whole + frac) 128) (E.TypeRange at)
    (gives (V.«Type» (T.Fix whole frac signed)) state)
fix_of at _ _ signed state = Fails (E.TypeRange at)

abbrev pub fix_type : ℕ → Bool → List Value → State → Outcome
fix_type at signed (V.Int whole ∷ V.Int frac ∷ []) state = fix_of at whole frac signed state
fix_type at signed _ state = wrong at
