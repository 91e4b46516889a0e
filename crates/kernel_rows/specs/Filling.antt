-- New arrays while they are filled, the innermost first.
use Rattle.std.specs.Prelude.{◌≡◌, ◌<◌, ◌+◌, ◌-◌, ℕ, suc, List, [], ◌∷◌, ◌++◌, length, Option, Some, None, Result, Ok, Err, drop, take, slice_index, ℤ}
use Rattle.kernel_meaning.specs.declared.value.Declared.{Declared}
use Rattle.kernel_meaning.specs.declared.value.Value.{Value}
use Rattle.kernel_meaning.specs.declared.value.Value.TheVariants as V
use Rattle.kernel_meaning.specs.declared.error.EvalError.{EvalError}
use Rattle.kernel_meaning.specs.declared.error.EvalError.TheVariants as E
use Rattle.kernel_meaning.specs.Arrays.{Grown, added, many, new_array}
use Rattle.kernel_rows.specs.declared.filling.Filling.{Filling}
use Rattle.mx_base.specs.declared.error.NoMemory.{NoMemory}

-- an array of this size that has some elements gets those that it lacks, arrays of the inner sizes
abbrev pub filled : Declared → ℕ → List ℕ → List Value → List (List Value) → Grown
filled of size inner elements arrays =
    let rest = many (size - length elements) (new_array of inner) arrays in
    added (record { base = of.base; rank = of.rank + length inner })
    (record { values = elements ++ rest.values; arrays = rest.arrays })

-- the same of an array so deep below the outermost one
abbrev pub filled_at : Declared → List ℕ → ℕ → List Value → List (List Value) → Grown
filled_at of sizes depth elements arrays =
    filled of (slice_index sizes depth) (drop (suc depth) sizes) elements arrays

-- the arrays around, the innermost first, get what is made as their next elements
abbrev pub around : Declared → List ℕ → List (List Value) → Grown → Grown
around of sizes [] g = g
around of sizes (elements ∷ outer) g =
    around of sizes outer
    (filled_at of sizes (length outer) (elements ++ g.values) g.arrays)

-- what is made where filling goes on to its end
abbrev pub completed : Declared → List ℕ → Filling → Grown
completed of sizes f =
    around of sizes f.outer (filled_at of sizes (length f.outer) f.elements f.arrays)

-- the array that is filled is one of those of the sizes
abbrev pub IsWithin : List ℕ → Filling → Type 0
IsWithin sizes f = length f.outer < length sizes

-- more arrays may have come
abbrev pub Extends : List (List Value) → List (List Value) → Type 0
Extends old new = take (length old) new ≡ old

-- a turn leaves the same to be made, or everything is made
abbrev pub IsTurn : Declared → List ℕ → Filling → Filling → Result (Option Value) NoMemory → Type 0
IsTurn of sizes old new (Ok None) =
    (completed of sizes new ≡ completed of sizes old) × IsWithin sizes new
IsTurn of sizes old new (Ok (Some value)) =
    completed of sizes old ≡ record { values = value ∷ []; arrays = new.arrays }
IsTurn of sizes old new (Err e) = Unit {0}

-- new arrays are this value, and stand behind the arrays before
abbrev pub IsGrown : Declared → List ℕ → List (List Value) → List (List Value)
    → Result Value NoMemory → Type 0
IsGrown of sizes old new (Ok value) =
    new_array of sizes old ≡ record { values = value ∷ []; arrays = new }
IsGrown of sizes old new (Err e) = Unit {0}

-- the numbers are these, or a value is none; want of memory says nothing of it
abbrev pub AreNumbers : ℕ → Option (List ℤ) → Result (List ℤ) EvalError → Type 0
AreNumbers at numbers (Ok found) = numbers ≡ Some found
AreNumbers at numbers (Err E.NoMemory) = Unit {0}
AreNumbers at numbers (Err (E.WrongKind place)) = (place ≡ at) × (numbers ≡ None)
AreNumbers at numbers (Err _) = ⊥

-- the value of the array that is full, where so many sizes stand below
abbrev pub full_value : Declared → ℕ → Filling → Value
full_value of below f =
    V.Array (length f.arrays) (record { base = of.base; rank = of.rank + below })

-- the array that was filled is full: it stands behind the others, and is the next element of the
-- one around it, where there is one
abbrev pub IsClosed : Filling → Filling → Value → Result (Option Value) NoMemory → Type 0
IsClosed old new full (Ok (Some value)) =
    (value ≡ full) × (old.outer ≡ []) × (new.arrays ≡ old.arrays ++ old.elements ∷ [])
IsClosed old new full (Ok None) =
    (elements : List Value) × (old.outer ≡ elements ∷ new.outer)
    × (new.elements ≡ elements ++ full ∷ []) × (new.arrays ≡ old.arrays ++ old.elements ∷ [])
IsClosed old new full (Err e) = Unit {0}

-- everything is made, and this is the value of the outermost array
abbrev pub IsCompleted : Declared → List ℕ → Filling → Filling → Result Value NoMemory → Type 0
IsCompleted of sizes old new (Ok value) =
    completed of sizes old ≡ record { values = value ∷ []; arrays = new.arrays }
IsCompleted of sizes old new (Err e) = Unit {0}
