-- The updates of a module that can be simulated name nets and memories that there are.
use Rattle.std.proofs.Common.{◌≡◌, ℕ, suc, ◌<◌, cond, eqb, ltb, List, [], ◌∷◌, length, get_or, Some, refl, ap, ◌∙◌, arith, subst}
use Rattle.std.specs.Prelude.{slice_get}
use Rattle.std.specs.List.{All}
use Rattle.std.proofs.lemmas.Option.{slice_get-get_or}
use Rattle.rtl_ir.specs.declared.design.Module.{Module}
use Rattle.rtl_ir.specs.declared.design.Update.{Update}
use Rattle.rtl_ir.specs.declared.design.Target.{Target}
use Rattle.rtl_ir.specs.declared.design.Target.TheVariants.{Reg, Cell}
use Rattle.rtl_ir.specs.Operands.{target_net, target_mem}
use Rattle.rtl_ir.specs.Value.{Family, Contents, depth_of}
use Rattle.rtl_ir.specs.Edge.{with_cell, written, updated, updated_all}
use Rattle.verilog_sim.specs.Updates.{IsTargetSafe, IsRegSafe, IsUpdateSafe, IsLoadSafe}
use Rattle.verilog_sim.specs.Runnable.{IsRunnable}

reg_safe : (nets : ℕ) (t : Target) → target_net t < nets → IsRegSafe nets t
reg_safe nets (Reg n) lt = lt
reg_safe nets (Cell k a) lt = tt

target_safe : (nets mems : ℕ) (t : Target) → target_net t < nets → ((k : ℕ) → target_mem t ≡ Some k → k < mems) → IsTargetSafe nets mems t
target_safe nets mems (Reg n) lt mem = lt
target_safe nets mems (Cell k a) lt mem = (mem k Rattle.std.proofs.Common.refl, lt)

pub load_safe : (m : Module) (nets : ℕ) (updates : List Update) → IsRunnable m → nets ≡ length m.nets → updates ≡ m.updates → All (IsLoadSafe nets) updates
load_safe m nets updates r e same k d lt =
    let at : slice_get m.updates k ≡ Some (get_or updates k d) = subst (λ (l : List Update). slice_get l k ≡ Some (get_or updates k d)) same (slice_get-get_or updates k d lt) in
    let f = (r.updates k (get_or updates k d) at).net in
    reg_safe nets (get_or updates k d).target (omega (arith, f, e))

pub update_safe : (m : Module) (nets mems : ℕ) (updates : List Update) → IsRunnable m → nets ≡ length m.nets → mems ≡ length m.mems → updates ≡ m.updates → All (IsUpdateSafe nets mems) updates
update_safe m nets mems updates r e em same k d lt =
    let at : slice_get m.updates k ≡ Some (get_or updates k d) = subst (λ (l : List Update). slice_get l k ≡ Some (get_or updates k d)) same (slice_get-get_or updates k d lt) in
    let f = r.updates k (get_or updates k d) at in
    record {
      enable = omega (arith, f.enable, e);
      value = omega (arith, f.value, e);
      target = target_safe nets mems (get_or updates k d).target (omega (arith, f.net, e)) (λ j q. let x = f.mem j q in omega (arith, x, em));
    }

-- what updates write, by two families that agree at the nets that they name
written_agrees : (m : Module) (v w : Family) (t : Target) (x : ℕ) (c : Contents) → v (target_net t) ≡ w (target_net t) → written m v t x c ≡ written m w t x c
written_agrees m v w (Reg n) x c e = refl
written_agrees m v w (Cell k a) x c e = ap (λ y. cond (ltb y (depth_of m k)) (with_cell k y x c) c) e

update_agrees : (m : Module) (v w : Family) (u : Update) (c : Contents)
    → v u.enable ≡ w u.enable → v u.value ≡ w u.value
    → v (target_net u.target) ≡ w (target_net u.target) → updated m v u c ≡ updated m w u c
update_agrees m v w u c enable value net =
    ap (λ y. cond (eqb y 1) (written m v u.target (v u.value) c) c) enable
    ∙ ap (λ y. cond (eqb (w u.enable) 1) (written m v u.target y c) c) value
    ∙ ap (λ y. cond (eqb (w u.enable) 1) y c) (written_agrees m v w u.target (w u.value) c net)

pub updates_agree :
    (m : Module) (v w : Family) (us : List Update) (c : Contents)
    → ((j : ℕ) (u : Update) → slice_get us j ≡ Some u → (v u.enable ≡ w u.enable) × (v u.value ≡ w u.value) × (v (target_net u.target) ≡ w (target_net u.target)))
    → updated_all m v us c ≡ updated_all m w us c
updates_agree m v w [] c h = refl
updates_agree m v w (u ∷ us) c h =
    let s = h 0 u refl in
    ap (updated_all m v us) (update_agrees m v w u c s.0 s.1 s.2)
    ∙ updates_agree m v w us (updated m w u c) (λ j x e. h (suc j) x e)
