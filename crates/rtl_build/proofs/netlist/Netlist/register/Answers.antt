use Rattle.std.proofs.Common.{sym, subst, ◌∙◌}
use Rattle.rtl_ir.specs.declared.design.Module.{Module}
use Rattle.rtl_build.specs.declared.signal.Signal.{Signal}
use Rattle.rtl_build.specs.Storage.{AddsRegister}
use Rattle.rtl_build.proofs.Growing.{open_net, larger, signal}
use Rattle.rtl_build.proofs.Storing.{adds_register, register}
use Rattle.rtl_build.proofs.netlist.Netlist.register.Goals as goal

pub invariant_of-self-2 : goal.invariant_of-self-2
invariant_of-self-2 c = open_net c.self.inside.built c.push.new.self (register c.args.name c.args.width) c.self.invariant c.in_ok-push.ensures.ok

pub returns : goal.returns
returns c =
    let m = c.self.inside.built in
    let name = c.args.name in
    let w = c.args.width in
    let P : Module → Signal → Type 0 = λ k s. AddsRegister k (larger m c.push.new.self m.assigns) name w s in
    subst (P c.args.self.now) (sym c.new.ensures) (subst (λ k. P k (signal c.in_ok-net.net w)) c.self.view_is
    (adds_register m c.push.new.self name w c.in_ok-net.net c.self.invariant c.requires.some c.requires.at_most (c.in_ok-net.ensures ∙ c.len.ensures) c.in_ok-push.ensures.ok))
