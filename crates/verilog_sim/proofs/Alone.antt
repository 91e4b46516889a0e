-- A module without instances is its whole flat design.
use Rattle.std.proofs.Common.{◌≡◌, ℕ, [], ◌∷◌, length, Some, None, sym, ap, ◌∙◌, subst, arith}
use Rattle.std.specs.Prelude.{slice_get, option_and_then}
use mathlib.Core.Path.{fun_ext}
use Rattle.std.proofs.lemmas.Option.{slice_get_past}
use Rattle.rtl_ir.specs.declared.design.Design.{Design}
use Rattle.rtl_ir.specs.declared.design.Module.{Module}
use Rattle.rtl_ir.specs.declared.design.Instance.{Instance}
use Rattle.rtl_ir.specs.Value.{Family}
use Rattle.rtl_ir.specs.Edge.{Fits, after_edge}
use Rattle.rtl_ir.specs.Flat.{Path, AllContents, FitsFlat, module_at, after_part, after_flat}
use Rattle.verilog_sim.proofs.ByPath.{alone}

no_instance : (m : Module) (k : ℕ) → length m.instances ≡ 0 → slice_get m.instances k ≡ None
no_instance m k e = slice_get_past m.instances k (omega (arith, e))

pub no_part : (d : Design) (m : Module) (k : ℕ) (p : Path) → length m.instances ≡ 0 → module_at d m (k ∷ p) ≡ None
no_part d m k p e = ap (λ o. option_and_then (λ inner. module_at d inner p) (option_and_then (λ (i : Instance). slice_get d.modules i.module) o)) (no_instance m k e)

pub fits_alone : (d : Design) (m : Module) (c : AllContents) (v : Family) → length m.instances ≡ 0 → Fits m (c []) v → FitsFlat d m c (alone v)
fits_alone d m c v e f = record { each = each; joined = λ p part k i inner at is in'. absurd (none p part at k i is) }
  where
    each : (p : Path) (part : Module) → module_at d m p ≡ Some part → Fits part (c p) (alone v p)
    each [] part at = let q : m ≡ part = cc in subst (λ (x : Module). Fits x (c []) v) q f
    each (k ∷ p) part at = absurd (let n = no_part d m k p e in cc)

    none : (p : Path) (part : Module) → module_at d m p ≡ Some part → (k : ℕ) (i : Instance) → slice_get part.instances k ≡ Some i → ⊥
    none [] part at k i is = let q : m ≡ part = cc in let n : slice_get part.instances k ≡ None = subst (λ (x : Module). slice_get x.instances k ≡ None) q (no_instance m k e) in cc
    none (j ∷ p) part at k i is = let n = no_part d m j p e in cc

-- after an edge the top module holds what the edge leaves, and there is no other part
pub after_alone : (d : Design) (m : Module) (old new : AllContents) (v : Family)
    → length m.instances ≡ 0 → new [] ≡ after_edge m (old []) v
    → ((k : ℕ) (p : Path) → new (k ∷ p) ≡ old (k ∷ p)) → new ≡ after_flat d m old (alone v)
after_alone d m old new v e here below = fun_ext at
  where
    at : (p : Path) → new p ≡ after_flat d m old (alone v) p
    at [] = here
    at (k ∷ p) = below k p ∙ ap (λ o. after_part o (old (k ∷ p)) (alone v (k ∷ p))) (sym (no_part d m k p e))
