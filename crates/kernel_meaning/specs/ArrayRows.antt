-- Elements, lengths and new arrays.
use Rattle.std.specs.Prelude.{
  ℕ,
  ◌-◌,
  nat_le,
  List,
  [],
  ◌∷◌,
  length,
  Bool,
  true,
  false,
  Option,
  Some,
  None,
  ℤ,
  pos,
  negsuc,
  map,
  unsigned_abs,
}
use Rattle.std.specs.List.{list_all}
use Rattle.kernel_meaning.specs.declared.value.Value.{Value}
use Rattle.kernel_meaning.specs.declared.state.State.{State}
use Rattle.kernel_meaning.specs.declared.value.Declared.{Declared}
use Rattle.kernel_meaning.specs.declared.error.EvalError.TheVariants as E
use Rattle.kernel_meaning.specs.declared.value.Value.TheVariants as V
use Rattle.kernel_meaning.specs.Arrays.{array_of, element, nested, new_array}
use Rattle.kernel_meaning.specs.Answer.{Outcome, Fails, Does}
use Rattle.kernel_meaning.specs.Outcomes.{gives, wrong, where_so}

abbrev pub read : ℕ → Option Value → State → Outcome
read at None state = Fails (E.ArrayRange at)
read at (Some V.Nothing) state = Fails (E.Unset at)
read at (Some value) state = gives value state

abbrev pub indexed : ℕ → List Value → State → Outcome
indexed at (V.Array n of ∷ V.Int place ∷ []) state = read at (element state.arrays n place) state
indexed at _ state = wrong at

abbrev pub long : ℕ → List Value → State → Outcome
long at (V.Array n of ∷ []) state = gives (V.Int (pos (length (array_of state.arrays n)))) state
long at _ state = wrong at

-- the sizes, where all are numbers
abbrev pub with_size : ℤ → Option (List ℤ) → Option (List ℤ)
with_size n None = None
with_size n (Some sizes) = Some (n ∷ sizes)

abbrev pub sizes_of : List Value → Option (List ℤ)
sizes_of [] = Some []
sizes_of (V.Int n ∷ values) = with_size n (sizes_of values)
sizes_of (_ ∷ values) = None

abbrev pub is_size : ℤ → Bool
is_size (pos n) = nat_le n 65536
is_size (negsuc n) = false

abbrev pub first_of_all : List Value → Value
first_of_all [] = V.Nothing
first_of_all (value ∷ values) = value

-- one step for each element
abbrev pub new_arrays : Declared → List ℕ → State → Outcome
new_arrays of sizes state =
    where_so (nat_le (nested sizes) state.left) E.StepLimit
    (Does [] (first_of_all (new_array of sizes state.arrays).values)
    (record state {
      arrays = (new_array of sizes state.arrays).arrays;
      left =
          state.left - nested sizes;
    }))

abbrev pub arrays_by : ℕ → Declared → Option (List ℤ) → State → Outcome
arrays_by at of None state = wrong at
arrays_by at of (Some sizes) state =
    elim (list_all is_size sizes) [
      | true ↦ new_arrays of (map unsigned_abs sizes) state
      | false ↦
          Fails (E.ArrayRange at)
    ]
