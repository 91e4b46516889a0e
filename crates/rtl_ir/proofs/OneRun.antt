-- Edge after edge there is one family, and so there is one run.
use Rattle.std.proofs.Common.{◌≡◌, ℕ, List, [], ◌∷◌, Some, ap, subst}
use Rattle.std.specs.Prelude.{slice_get}
use Rattle.rtl_ir.specs.declared.design.Design.{Design}
use Rattle.rtl_ir.specs.declared.design.Module.{Module}
use Rattle.rtl_ir.specs.Value.{Family, Contents}
use Rattle.rtl_ir.specs.Edge.{Fits}
use Rattle.rtl_ir.specs.Flat.{AllContents, Families, FitsFlat, EdgesFlat, module_at, after_part, after_flat}
use Rattle.rtl_ir.specs.Rules.{IsAccepted, AllHold, HasOneFamily}
use Rattle.rtl_ir.specs.OneRun.{InputsFit, AllGiven, SameOnParts, AllSame, HasOneRun}
use Rattle.rtl_ir.proofs.Exists.{one_family}
use Rattle.rtl_ir.proofs.Kept.{words_kept}

-- a run sees the contents of its parts alone
fits_along : (d : Design) (m : Module) (c c' : AllContents) (v : Families) → SameOnParts d m c c' → FitsFlat d m c v → FitsFlat d m c' v
fits_along d m c c' v same f = record {
  each = λ p part at. let P : Contents → Type 0 = λ x. Fits part x (v p) in subst P (same p part at) (f.each p part at);
  joined = f.joined;
}

edges_along : (d : Design) (m : Module) (c c' : AllContents) (vs : List Families) → SameOnParts d m c c' → EdgesFlat d m c vs → EdgesFlat d m c' vs
edges_along d m c c' [] same h = tt
edges_along d m c c' (v ∷ vs) same h = (
  fits_along d m c c' v same h.0,
  edges_along d m (after_flat d m c v) (after_flat d m c' v) vs (λ p part at. ap (λ (x : Contents). after_part (module_at d m p) x (v p)) (same p part at)) h.1,
)

none_else : (d : Design) (m : Module) (vs : List Families) → AllGiven m [] vs → AllSame d m vs []
none_else d m [] g = tt
none_else d m (v ∷ vs) g = g

goes_on : (d : Design) (m : Module) (c : AllContents) (x : Family) (xs : List Family) (one : HasOneFamily d m c x) → HasOneRun d m (after_flat d m c one.family) xs → HasOneRun d m c (x ∷ xs)
goes_on d m c x xs one rest = record {
  run = one.family ∷ rest.run;
  edges = (one.solves.fits, rest.edges);
  given = (one.solves.given, rest.given);
  only = only;
}
  where
    only : (vs : List Families) → EdgesFlat d m c vs → AllGiven m (x ∷ xs) vs → AllSame d m vs (one.family ∷ rest.run)
    only [] h g = g
    only (v ∷ vs) h g =
        let same = one.only v (record { fits = h.0; given = g.0 }) in
        (same, rest.only vs (edges_along d m (after_flat d m c v) (after_flat d m c one.family) vs (λ p part at. ap (λ (f : Family). after_part (module_at d m p) (c p) f) (same p part at)) h.1) g.1)

pub one_run : (d : Design) → IsAccepted d → (number : ℕ) (m : Module)
    → slice_get d.modules number ≡ Some m → (c : AllContents) → AllHold d m c
    → (inputs : List Family) → InputsFit m inputs → HasOneRun d m c inputs
one_run d h number m e c held [] fit = record { run = []; edges = tt; given = tt; only = λ vs f g. none_else d m vs g }
one_run d h number m e c held (x ∷ xs) fit =
    let one = one_family d h number m e c held x fit.0 in
    goes_on d m c x xs one (one_run d h number m e (after_flat d m c one.family) (words_kept d h number m e c held one.family one.solves.fits) xs fit.1)
