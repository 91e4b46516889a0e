use Rattle.std.proofs.Common.{◌≡◌, ◌<◌, ◌∙◌, ◌++◌, ◌∷◌, [], ap, sym, subst, length}
use Rattle.rtl_ir.specs.declared.design.Module.{Module}
use Rattle.rtl_ir.specs.declared.design.Expr.TheVariants.{Net as Plain}
use Rattle.rtl_build.specs.Signals.{HasSignal}
use Rattle.rtl_build.specs.Ports.{HasOutput, Drives}
use Rattle.rtl_build.proofs.Growing.{open_assign, gets, larger}
use Rattle.rtl_build.proofs.Porting.{drives}
use Rattle.rtl_build.proofs.netlist.Netlist.drive.Goals as goal

pub invariant_of-self-2 : goal.invariant_of-self-2
invariant_of-self-2 c =
    let m = c.self.inside.built in
    let target : c.args.output.net < length m.nets = subst (λ (k : Module). c.args.output.net < length k.nets) (sym c.self.view_is) c.requires.output.net in
    let within : c.args.source.net < length m.nets = subst (λ (k : Module). c.args.source.net < length k.nets) (sym c.self.view_is) c.requires.source.net in
    let is : c.push.new.self ≡ m.assigns ++ gets c.args.output.net (Plain c.args.source.net) ∷ [] =
    c.in_ok-push.ensures.ok ∙ ap (λ n. m.assigns ++ gets n (Plain c.net.result) ∷ []) c.net-target.ensures ∙ ap (λ n. m.assigns ++ gets c.args.output.net (Plain n) ∷ []) c.net.ensures in
    open_assign m c.push.new.self (gets c.args.output.net (Plain c.args.source.net)) c.self.invariant target within is

pub returns : goal.returns
returns c =
    let m = c.self.inside.built in
    let is : c.push.new.self ≡ m.assigns ++ gets c.args.output.net (Plain c.args.source.net) ∷ [] =
    c.in_ok-push.ensures.ok ∙ ap (λ n. m.assigns ++ gets n (Plain c.net.result) ∷ []) c.net-target.ensures ∙ ap (λ n. m.assigns ++ gets c.args.output.net (Plain n) ∷ []) c.net.ensures in
    subst (λ (k : Module). Drives k (larger m m.nets c.push.new.self) c.args.output c.args.source) c.self.view_is (drives m c.push.new.self c.args.output c.args.source c.self.invariant is)
