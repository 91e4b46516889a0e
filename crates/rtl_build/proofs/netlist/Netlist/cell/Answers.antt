use Rattle.std.proofs.Common.{◌≡◌, ◌<◌, ◌∙◌, ◌++◌, ◌∷◌, [], ℕ, ap, sym, subst, length}
use Rattle.rtl_ir.specs.declared.design.Module.{Module}
use Rattle.rtl_ir.specs.declared.design.Expr.TheVariants.{Cell}
use Rattle.rtl_build.specs.declared.signal.Signal.{Signal}
use Rattle.rtl_build.specs.Wires.{IsOpen}
use Rattle.rtl_build.specs.Storage.{HasMemory, ReadsCell}
use Rattle.rtl_build.proofs.Growing.{open_net, larger, signal, wire, gets}
use Rattle.rtl_build.proofs.Storing.{open_cell, reads_cell}
use Rattle.rtl_build.proofs.netlist.Netlist.cell.Goals as goal

pub invariant_of-self-in_err-push-2 : goal.invariant_of-self-in_err-push-2
invariant_of-self-in_err-push-2 c =
    let m = c.self.inside.built in
    subst (λ assigns. IsOpen (larger m c.push.new.self assigns))
    (sym c.in_err-push-2.ensures.err) (open_net m c.push.new.self
    (wire c.in_ok-name.name c.word_width-width.result) c.self.invariant c.in_ok-push.ensures.ok)

pub invariant_of-self-2 : goal.invariant_of-self-2
invariant_of-self-2 c =
    let m = c.self.inside.built in
    let has = subst (λ (k : Module). HasMemory k c.args.memory) (sym c.self.view_is) c.requires.memory in
    let within : c.args.address.net < length m.nets = subst (λ (k : Module). c.args.address.net < length k.nets) (sym c.self.view_is) c.requires.address.net in
    let is = c.in_ok-push-2.ensures.ok ∙ ap (λ a. m.assigns ++ gets c.in_ok-net.net (Cell c.args.memory a) ∷ []) c.net.ensures in
    open_cell m c.push.new.self c.push-2.new.self c.in_ok-name.name c.word_width-width.result
    c.in_ok-net.net c.args.memory c.args.address.net c.self.invariant has.within within
    (c.in_ok-net.ensures ∙ c.len.ensures) c.in_ok-push.ensures.ok is

pub returns : goal.returns
returns c =
    let m = c.self.inside.built in
    let has = subst (λ (k : Module). HasMemory k c.args.memory) (sym c.self.view_is) c.requires.memory in
    let is = c.in_ok-push-2.ensures.ok ∙ ap (λ a. m.assigns ++ gets c.in_ok-net.net (Cell c.args.memory a) ∷ []) c.net.ensures in
    let P : Module → Signal → Type 0 = λ k s. ReadsCell k (larger m c.push.new.self c.push-2.new.self) c.args.memory c.args.address s in
    subst (P c.args.self.now) (sym c.new.ensures) (subst (λ k. P k (signal c.in_ok-net.net c.word_width-width.result)) c.self.view_is
    (reads_cell m c.push.new.self c.push-2.new.self c.in_ok-name.name c.word_width-width.result
    c.in_ok-net.net c.args.memory c.args.address c.self.invariant has
    c.word_width-width.ensures
    (c.in_ok-net.ensures ∙ c.len.ensures) c.in_ok-name.ensures c.in_ok-push.ensures.ok is))
