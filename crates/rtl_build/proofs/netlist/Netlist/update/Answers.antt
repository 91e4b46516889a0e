use Rattle.std.proofs.Common.{subst}
use Rattle.rtl_ir.specs.declared.design.Module.{Module}
use Rattle.rtl_ir.specs.declared.design.Update.{Update}
use Rattle.rtl_ir.specs.declared.design.Target.TheVariants as targets
use Rattle.rtl_build.specs.Storage.{AddsUpdate}
use Rattle.rtl_build.proofs.Storing.{adds_update, stored}
use Rattle.rtl_build.proofs.netlist.Netlist.update.Goals as goal

pub returns : goal.returns
returns c =
    let m = c.self.inside.built in
    let u : Update = record { enable = c.net-enable.result; target = targets.Reg c.net.result; value = c.net-value.result } in
    rw (← c.net-enable.ensures, ← c.net.ensures, ← c.net-value.ensures)
    (subst (λ (k : Module). AddsUpdate k (stored m m.mems c.push.new.self) u) c.self.view_is (adds_update m c.push.new.self u c.self.invariant c.in_ok-push.ensures.ok))
