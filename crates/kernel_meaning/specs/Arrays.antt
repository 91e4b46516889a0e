-- Arrays.
use Rattle.std.specs.Prelude.{
  ℕ,
  ◌+◌,
  zero,
  suc,
  List,
  [],
  ◌∷◌,
  ◌++◌,
  length,
  Option,
  Some,
  None,
  ℤ,
  pos,
  negsuc,
  slice_get,
  ◌*◌,
  slice_set,
}
use Rattle.kernel_meaning.specs.declared.value.Spot.TheVariants.{Variable, Field, Element}
use Rattle.kernel_meaning.specs.declared.value.Value.{Value}
use Rattle.kernel_meaning.specs.declared.value.Spot.{Spot}
use Rattle.kernel_meaning.specs.declared.state.State.{State}
use Rattle.kernel_meaning.specs.declared.state.Binding.{Binding}
use Rattle.kernel_meaning.specs.declared.value.Declared.{Declared}
use Rattle.kernel_meaning.specs.declared.value.Value.TheVariants as V
use Rattle.kernel_meaning.specs.Names.{variable, with_variable}
use Rattle.kernel_meaning.specs.Places.{bound_at, assigned_at}

-- the elements of the array of this number
abbrev pub array_of : List (List Value) → ℕ → List Value
array_of arrays n = elim (slice_get arrays n) [ None ↦ [] | Some values ↦ values ]

-- the element at a place, where there is one
abbrev pub element : List (List Value) → ℕ → ℤ → Option Value
element arrays n (pos place) = slice_get (array_of arrays n) place
element arrays n (negsuc place) = None

abbrev pub with_element : List (List Value) → ℕ → ℕ → Value → List (List Value)
with_element arrays n place value = slice_set arrays n (slice_set (array_of arrays n) place value)

-- what is at a spot, and its type
abbrev pub value_of : Option Binding → Value
value_of None = V.Nothing
value_of (Some b) = b.value

abbrev pub content : Spot → State → Value
content (Variable name) state = value_of (variable name state)
content (Field place) state = value_of (bound_at place state.fields)
content (Element n place of) state =
    elim (slice_get (array_of state.arrays n) place) [ None ↦ V.Nothing | Some value ↦ value ]

abbrev pub with_content : Spot → Value → State → State
with_content (Variable name) value state = with_variable name value state
with_content (Field place) value state =
    record state { fields = assigned_at place value state.fields }
with_content (Element n place of) value state =
    record state { arrays = with_element state.arrays n place value }

-- how many elements arrays in arrays of these sizes have
abbrev pub nested : List ℕ → ℕ
nested [] = 0
nested (size ∷ sizes) = size + size * nested sizes

pub record Grown : Type 0 where
  pub values : List Value
  pub arrays : List (List Value)

-- the array of such elements is added
abbrev pub added : Declared → Grown → Grown
added of g = record {
  values = V.Array (length g.arrays) of ∷ [];
  arrays =
      g.arrays ++ g.values ∷ [];
}

abbrev pub many : ℕ → (List (List Value) → Grown) → List (List Value) → Grown
many zero one arrays = record { values = []; arrays = arrays }
many (suc n) one arrays =
    let rest = many n one (one arrays).arrays in
    record { values = (one arrays).values ++ rest.values; arrays = rest.arrays }

-- an array of these sizes, with nothing in it
abbrev pub new_array : Declared → List ℕ → List (List Value) → Grown
new_array of [] arrays = record { values = V.Nothing ∷ []; arrays = arrays }
new_array of (size ∷ sizes) arrays =
    added (record { base = of.base; rank = of.rank + length sizes })
    (many size (new_array of sizes) arrays)
