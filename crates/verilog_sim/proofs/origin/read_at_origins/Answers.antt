use Rattle.std.proofs.Common.{◌≡◌, ℕ, List, Some, length, map, refl, sym, subst, ap, ◌∙◌, arith}
use Rattle.std.specs.Prelude.{slice_get}
use Rattle.rtl_ir.specs.declared.design.Assign.{Assign}
use Rattle.rtl_ir.specs.declared.design.Update.{Update}
use Rattle.verilog_sim.specs.Origins.{update_at, AreAtOrigins, StandFor}
use Rattle.verilog_sim.proofs.Origins.{stand_for}
use Rattle.verilog_sim.proofs.origin.read_at_origins.Goals as goal

pub updates_at-requires : goal.updates_at-requires
updates_at-requires c = λ i u at.
    let f = c.requires.runnable.updates i u (subst (λ (l : List Update). slice_get l i ≡ Some u) c.as_slice-2.ensures at) in
    let size : length c.as_slice-origins.result.now ≡ length c.args.module.now.nets = ap length c.as_slice-origins.ensures.value ∙ c.in_ok-traced.ensures.nets in
    record { enable = omega (arith, f.enable, size); value = omega (arith, f.value, size); net = omega (arith, f.net, size) }

pub returns : goal.returns
returns c =
    let m = c.args.module.now in
    let order = c.in_ok-order.order.items in
    let os = c.in_ok-traced.traced.origins.items in
    let new = c.in_ok-traced.traced.assigns.items in
    let p : AreAtOrigins m order os new (length order) = subst (λ (l : List Assign). AreAtOrigins m l os new (length l)) c.as_slice.ensures.value c.in_ok-traced.ensures in
    let updates : c.in_ok-updates.updates.items ≡ map
    (update_at os) m.updates = c.in_ok-updates.ensures ∙ ap
    (λ (l : List ℕ). map (update_at l) c.as_slice-2.result.now)
    c.as_slice-origins.ensures.value ∙ ap (map (update_at os)) c.as_slice-2.ensures in
    record {
      lists = refl;
      stand = subst (λ (l : List Assign). StandFor m os l c.from_vec-2.result) (sym c.from_vec.ensures)
          (subst (StandFor m os new) (sym (c.from_vec-2.ensures ∙ updates)) (stand_for m order os new c.requires.runnable c.in_ok-order.ensures p));
    }
