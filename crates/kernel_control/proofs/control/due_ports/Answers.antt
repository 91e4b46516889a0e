use Rattle.std.proofs.Common.{◌≡◌, ℕ, ◌*◌, ◌&&◌, ◌++◌, ◌∷◌, [], eqb, take, get_or, length, refl, sym, ap, ◌∙◌, subst, arith}
use Rattle.rtl_ir.specs.declared.design.Module.{Module}
use Rattle.rtl_ir.specs.Value.{bit}
use Rattle.rtl_build.specs.declared.signal.Signal.{Signal}
use Rattle.rtl_build.specs.Signals.{Makes}
use Rattle.rtl_build.proofs.Growing.{adds_none, adds_on, adds_more, goes_on}
use Rattle.kernel_control.specs.declared.handshakes.Handshake.{Handshake}
use Rattle.kernel_control.specs.declared.serving.DuePort.{DuePort}
use Rattle.kernel_control.specs.Nets.{net_of}
use Rattle.kernel_control.specs.Due.{is_in_ticks, is_let, is_due, AreDuePorts}
use Rattle.kernel_control.proofs.Bits.{test_bit}
use Rattle.kernel_control.proofs.Kept.{has_width_kept}
use Rattle.kernel_control.proofs.Listing.{no_handshake, due_ports_on, due_ports_more, take_next, take_whole}
use Rattle.kernel_control.proofs.control.due_ports.Goals as goal

-- one port's bit: where it is active, and its control lets it
due_made :
    {l m n : Module} {a s : Signal} (h : Handshake) (position ticks : ℕ) → Makes l m 6 1 (λ v. bit (is_in_ticks (v position) (v ticks) h.time)) a
    → Makes m n 1 1 (λ v. bit (eqb (v a.net) 1 && is_let (net_of h.enable) v)) s → Makes l n 7 1 (λ v. bit (is_due v (v position) (v ticks) h)) s
due_made {a = a} h position ticks active due = goes_on 7 1 _ active due (omega arith) refl (λ c v q e.
    let same : eqb (v a.net) 1 ≡ is_in_ticks (v position) (v ticks) h.time = ap (λ n. eqb n 1) e ∙ test_bit (is_in_ticks (v position) (v ticks) h.time) in
    ap (λ b. bit (b && is_let (net_of h.enable) v)) same)

pub active-requires-clause-position : goal.active-requires-clause-position
active-requires-clause-position c = has_width_kept c.loop-port.invariant.adds.grows c.requires.position

pub active-requires-clause-ticks : goal.active-requires-clause-ticks
active-requires-clause-ticks c = has_width_kept c.loop-port.invariant.adds.grows c.requires.ticks

pub active-requires-clause-small : goal.active-requires-clause-small
active-requires-clause-small c = let a = (c.requires.ports c.loop-port.port-index no_handshake c.loop-port-test.true).small in omega (arith, a)

pub loop-port-init : goal.loop-port-init
loop-port-init c =
    let m = c.args.netlist.now in
    record {
      adds = adds_none m 0;
      due = subst (AreDuePorts m c.args.position.net c.args.ticks.net []) (sym c.new-made.ensures.items) tt;
      keeps = λ t h. h;
      before = λ d v h. h;
    }

pub loop-port-preserved : goal.loop-port-preserved
loop-port-preserved c =
    let i = c.loop-port.invariant in
    let k = c.loop-port.port-index in
    let ports = c.args.ports.now in
    let old = c.loop-port.netlist in
    let new = c.enabled.new.netlist in
    let p = c.args.position.net in
    let t = c.args.ticks.net in
    let x = get_or ports k no_handshake in
    let made = due_made x c.args.position.net c.args.ticks.net c.in_ok-active.ensures c.in_ok-due.ensures in
    let s : DuePort = record { due = c.in_ok-due.due; waits_for = x.waits_for; answer = x.answer } in
    let due = due_ports_more new p t (take k ports) c.loop-port.made.items x s
    (due_ports_on old new p t made.adds.grows made.before (take k ports) c.loop-port.made.items i.due)
    (record { due = record { signal = made.signal; width = made.width }; waits_for = refl; answer = refl; value = made.value }) in
    record {
      adds = adds_on c.args.netlist.now old new (7 * k) 7 _ i.adds made.adds (omega arith);
      due =
          subst (λ xs. AreDuePorts new p t xs c.push.new.self.items) (sym (take_next ports k no_handshake c.loop-port-test.true))
          (subst (λ ss. AreDuePorts new p t (take k ports ++ x ∷ []) ss) (sym c.in_ok-push.ensures.items) due);
      keeps = λ s h. made.keeps s (i.keeps s h);
      before = λ d v h. i.before d v (made.before d v h);
    }

pub returns : goal.returns
returns c =
    let i = c.loop-port.invariant in
    let ports = c.args.ports.now in
    let done : c.loop-port.port-index ≡ length ports = let a = c.loop-port.auto.port-index-end in let b = c.loop-port-test.false in omega (arith, a, b) in
    record {
      adds = adds_more (7 * length ports) i.adds (omega (arith, done));
      due = subst (λ xs. AreDuePorts c.loop-port.netlist c.args.position.net c.args.ticks.net xs c.loop-port.made.items)
          (take_whole ports c.loop-port.port-index c.loop-port-test.false) i.due;
      keeps = i.keeps;
      before = i.before;
    }
