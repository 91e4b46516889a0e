use Rattle.std.proofs.Common.{subst}
use Rattle.rtl_ir.specs.declared.design.Module.{Module}
use Rattle.rtl_ir.specs.declared.design.Instance.{Instance}
use Rattle.rtl_build.specs.Storage.{AddsInstance}
use Rattle.rtl_build.proofs.Storing.{adds_instance, housed}
use Rattle.rtl_build.proofs.netlist.Netlist.instance.Goals as goal

pub returns : goal.returns
returns c =
    let m = c.self.inside.built in
    let i : Instance = record { «module» = c.args.inner; name = c.args.name; nets = c.args.nets } in
    subst (λ (k : Module). AddsInstance k (housed m c.push.new.self) i) c.self.view_is (adds_instance m c.push.new.self i c.in_ok-push.ensures.ok)
