use Rattle.std.proofs.Common.{sym, subst, ◌∙◌}
use Rattle.rtl_ir.specs.declared.design.Module.{Module}
use Rattle.rtl_build.specs.declared.signal.Signal.{Signal}
use Rattle.rtl_build.specs.Wires.{IsOpen}
use Rattle.rtl_build.specs.Ports.{AddsPort}
use Rattle.rtl_build.proofs.Growing.{open_net, wire, signal}
use Rattle.rtl_build.proofs.Porting.{open_port, adds_port, ported}
use Rattle.rtl_build.proofs.netlist.Netlist.port.Goals as goal

pub invariant_of-self-in_err-push-2 : goal.invariant_of-self-in_err-push-2
invariant_of-self-in_err-push-2 c =
    let m = c.self.inside.built in
    let more = open_net m c.push.new.self (wire c.args.name c.args.width) c.self.invariant c.in_ok-push.ensures.ok in
    subst (λ ports. IsOpen (ported m c.push.new.self ports)) (sym c.in_err-push-2.ensures.err) (record { range = more.range; ports = more.ports })

pub invariant_of-self-2 : goal.invariant_of-self-2
invariant_of-self-2 c =
    open_port c.self.inside.built c.push.new.self c.push-2.new.self
    (wire c.args.name c.args.width) c.in_ok-net.net c.args.output c.self.invariant
    (c.in_ok-net.ensures ∙ c.len.ensures) c.in_ok-push.ensures.ok c.in_ok-push-2.ensures.ok

pub returns : goal.returns
returns c =
    let m = c.self.inside.built in
    let name = c.args.name in
    let w = c.args.width in
    let P : Module → Signal → Type 0 = λ k s. AddsPort k (ported m c.push.new.self c.push-2.new.self) name w c.args.output s in
    subst (P c.args.self.now) (sym c.new.ensures) (subst (λ k. P k (signal c.in_ok-net.net w)) c.self.view_is
    (adds_port m c.push.new.self c.push-2.new.self name w c.in_ok-net.net c.args.output c.self.invariant (c.in_ok-net.ensures ∙ c.len.ensures) c.in_ok-push.ensures.ok c.in_ok-push-2.ensures.ok))
