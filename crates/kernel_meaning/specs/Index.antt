-- How bindings are kept so that they are found by their names.
use Rattle.std.specs.Prelude.{◌≡◌, ℕ, List, [], ◌∷◌, Option, nat_eq, map, reverse}
use Rattle.std.specs.Cmp.Lexicographic.{pointwise}
use Rattle.std.specs.Global.{Vec}
use Rattle.std.specs.HashMap.{HashMap, get_by}
use Rattle.kernel_meaning.specs.declared.state.Binding.{Binding}
use Rattle.kernel_meaning.specs.declared.bindings.Entry.{Entry}
use Rattle.kernel_meaning.specs.Places.{place_in}

-- the bindings of entries
abbrev pub plain : List Entry → List Binding
plain entries = map (λ e. e.binding) entries

-- the bindings of entries that stand the oldest first, the newest first
abbrev pub bindings_of : List Entry → List Binding
bindings_of entries = plain (reverse entries)

-- the place that a table has for a name
abbrev pub found_in : {S : Type 0} → HashMap (Vec ℕ) ℕ S → List ℕ → Option ℕ
found_in places name = get_by (λ key. pointwise nat_eq name key.items) places

-- each entry, the newest first, has the place of the binding that it hides
abbrev pub HaveHidden : List Entry → Type 0
HaveHidden [] = Unit {0}
HaveHidden (e ∷ es) = (e.hidden ≡ place_in e.binding.name (plain es)) × HaveHidden es

-- the table has the place of the newest binding of each name
pub record IsIndex {S : Type 0} (entries : List Entry) (places : HashMap (Vec ℕ) ℕ S)
    : Type 0 where
  pub newest : (name : List ℕ) → found_in places name ≡ place_in name (bindings_of entries)
  pub hidden : HaveHidden (reverse entries)
