-- Nets that have an assignment, and those that have none yet.
use Rattle.std.specs.Prelude.{◌≡◌, ℕ, ◌<◌, Bool, false, ◌||◌, nat_eq, List, [], ◌∷◌, length}
use Rattle.rtl_ir.specs.declared.design.Module.{Module}
use Rattle.rtl_ir.specs.declared.design.Assign.{Assign}

-- whether one of these assignments is to a net
abbrev pub is_driven : ℕ → List Assign → Bool
is_driven n [] = false
is_driven n (a ∷ rest) = nat_eq a.target n || is_driven n rest

-- of the nets that stood, those that had no assignment have none
abbrev pub KeepsUndriven : Module → Module → Type 0
KeepsUndriven old new =
    (n : ℕ)
    → n < length old.nets
    → is_driven n old.assigns ≡ false
    → is_driven n new.assigns ≡ false

-- of the nets that stood, those that had no assignment have none, but for net k
abbrev pub LeavesUndriven : Module → Module → ℕ → Type 0
LeavesUndriven old new k =
    (n : ℕ)
    → n < length old.nets
    → is_driven n old.assigns ≡ false
    → nat_eq k n ≡ false
    → is_driven n new.assigns ≡ false
