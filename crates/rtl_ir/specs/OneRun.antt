-- A run is fixed by the contents before it and by the values of the inputs in each of its edges.
use Rattle.std.specs.Prelude.{◌≡◌, ℕ, ◌<◌, ◌^◌, true, List, [], ◌∷◌, Some}
use Rattle.rtl_ir.specs.declared.design.Design.{Design}
use Rattle.rtl_ir.specs.declared.design.Module.{Module}
use Rattle.rtl_ir.specs.Value.{Family, width_of}
use Rattle.rtl_ir.specs.Flat.{Path, AllContents, Families, EdgesFlat, module_at}
use Rattle.rtl_ir.specs.Typed.{is_input}

-- the inputs of a module have values of their widths, in each of these edges
abbrev pub InputsFit : Module → List Family → Type 0
InputsFit m [] = Unit {0}
InputsFit m (x ∷ xs) = ((n : ℕ) → is_input m.ports n ≡ true → x n < 2 ^ width_of m n) × InputsFit m xs

-- the inputs of the module have these values, edge by edge
abbrev pub AllGiven : Module → List Family → List Families → Type 0
AllGiven m [] [] = Unit {0}
AllGiven m (x ∷ xs) (v ∷ vs) = ((n : ℕ) → is_input m.ports n ≡ true → v [] n ≡ x n) × AllGiven m xs vs
AllGiven m [] (v ∷ vs) = ⊥
AllGiven m (x ∷ xs) [] = ⊥

-- the same on all parts that there are
abbrev pub SameOnParts : {A : Type 0} → Design → Module → (Path → A) → (Path → A) → Type 0
SameOnParts d m f g = (p : Path) (part : Module) → module_at d m p ≡ Some part → f p ≡ g p

abbrev pub AllSame : Design → Module → List Families → List Families → Type 0
AllSame d m [] [] = Unit {0}
AllSame d m (v ∷ vs) (w ∷ ws) = SameOnParts d m v w × AllSame d m vs ws
AllSame d m [] (w ∷ ws) = ⊥
AllSame d m (v ∷ vs) [] = ⊥

-- there is one run from these contents with these inputs
pub record HasOneRun (d : Design) (m : Module) (c : AllContents) (inputs : List Family) : Type 0 where
  pub run : List Families
  pub edges : EdgesFlat d m c run
  pub given : AllGiven m inputs run
  pub only : (vs : List Families) → EdgesFlat d m c vs → AllGiven m inputs vs → AllSame d m vs run
