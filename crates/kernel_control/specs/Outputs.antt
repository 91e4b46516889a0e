-- Outputs that a call gives their values.
use Rattle.std.specs.Prelude.{◌≡◌, ℕ, ◌<◌, Bool, true, false, ◌||◌, nat_eq, List, [], ◌∷◌, length}
use Rattle.rtl_ir.specs.declared.design.Module.{Module}
use Rattle.rtl_delays.specs.Driven.{is_driven}

-- whether a net is one of these
abbrev pub is_one_of : List ℕ → ℕ → Bool
is_one_of [] n = false
is_one_of (k ∷ ks) n = nat_eq k n || is_one_of ks n

-- these nets have no assignment yet, and no two are the same
abbrev pub AreUndriven : Module → List ℕ → Type 0
AreUndriven m [] = Unit {0}
AreUndriven m (n ∷ ns) =
    (is_driven n m.assigns ≡ false) × (is_one_of ns n ≡ false) × AreUndriven m ns

-- each of these nets has an assignment
abbrev pub AreDriven : Module → List ℕ → Type 0
AreDriven m [] = Unit {0}
AreDriven m (n ∷ ns) = (is_driven n m.assigns ≡ true) × AreDriven m ns

-- of the nets that stood, those that had no assignment and are none of these have none
abbrev pub DrivesAtMost : Module → Module → List ℕ → Type 0
DrivesAtMost old new ns =
    (n : ℕ)
    → n < length old.nets
    → is_driven n old.assigns ≡ false
    → is_one_of ns n ≡ false
    → is_driven n new.assigns ≡ false
