-- Where bindings stand, counted from the oldest, from 0.
use Rattle.std.specs.Prelude.{
  ℕ,
  List,
  [],
  ◌∷◌,
  Option,
  Some,
  None,
  length,
  nat_eq,
  if◌then◌else◌,
}
use Rattle.std.specs.Str.{bytes_eq}
use Rattle.kernel_meaning.specs.declared.state.Binding.{Binding}
use Rattle.kernel_meaning.specs.declared.value.Value.{Value}

-- the place of the binding of a name, of the first in the list
abbrev pub place_in : List ℕ → List Binding → Option ℕ
place_in name [] = None
place_in name (b ∷ bs) = if bytes_eq b.name name then Some (length bs) else place_in name bs

-- the binding at a place
abbrev pub bound_at : ℕ → List Binding → Option Binding
bound_at place [] = None
bound_at place (b ∷ bs) = if nat_eq (length bs) place then Some b else bound_at place bs

-- the binding at a place has the value
abbrev pub assigned_at : ℕ → Value → List Binding → List Binding
assigned_at place value [] = []
assigned_at place value (b ∷ bs) = if nat_eq (length bs) place
    then record { name = b.name; of = b.of; value = value } ∷ bs else b ∷ assigned_at place value bs
