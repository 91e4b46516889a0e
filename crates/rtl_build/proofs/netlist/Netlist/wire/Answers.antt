use Rattle.std.proofs.Common.{ℕ, sym, subst, ◌∙◌}
use Rattle.rtl_ir.specs.declared.design.Module.{Module}
use Rattle.rtl_ir.specs.declared.design.Net.{Net}
use Rattle.rtl_ir.specs.Value.{Family, value}
use Rattle.rtl_build.specs.declared.signal.Signal.{Signal}
use Rattle.rtl_build.specs.Wires.{IsOpen, MayBeWire}
use Rattle.rtl_build.specs.Signals.{Makes, no_contents}
use Rattle.rtl_build.proofs.Growing.{one_wire, open_net, open_wire, larger, signal, wire}
use Rattle.rtl_build.proofs.netlist.Netlist.wire.Goals as goal

pub invariant_of-self-in_err-push-2 : goal.invariant_of-self-in_err-push-2
invariant_of-self-in_err-push-2 c =
    let m = c.self.inside.built in
    subst (λ assigns. IsOpen (larger m c.push.new.self assigns))
    (sym c.in_err-push-2.ensures.err) (open_net m c.push.new.self
    (wire c.in_ok-name.name c.args.width) c.self.invariant c.in_ok-push.ensures.ok)

pub invariant_of-self-2 : goal.invariant_of-self-2
invariant_of-self-2 c =
    let w = c.args.width in
    let e = c.args.expr in
    let m = c.self.inside.built in
    let may = subst (λ (k : Module). MayBeWire k w e) (sym c.self.view_is) c.requires in
    open_wire m c.push.new.self c.push-2.new.self c.in_ok-name.name w c.in_ok-net.net e c.self.invariant may (c.in_ok-net.ensures ∙ c.len.ensures) c.in_ok-push.ensures.ok c.in_ok-push-2.ensures.ok

pub returns : goal.returns
returns c =
    let w = c.args.width in
    let e = c.args.expr in
    let m = c.self.inside.built in
    let may = subst (λ (k : Module). MayBeWire k w e) (sym c.self.view_is) c.requires in
    let P : Module → Signal → Type 0 = λ k s. Makes k (larger m c.push.new.self c.push-2.new.self) 1 w (λ v. value k no_contents v w e) s in
    subst (P c.args.self.now) (sym c.new.ensures) (subst
    (λ k. P k (signal c.in_ok-net.net w)) c.self.view_is
    (one_wire m c.push.new.self c.push-2.new.self c.in_ok-name.name w c.in_ok-net.net e
    c.self.invariant may (c.in_ok-net.ensures ∙ c.len.ensures) c.in_ok-name.ensures
    c.in_ok-push.ensures.ok c.in_ok-push-2.ensures.ok))
