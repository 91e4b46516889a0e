use Rattle.std.proofs.Common.{◌≡◌, ◌*◌, ◌+◌, ◌&&◌, eqb, drop, get_or, length, refl, sym, ap, ◌∙◌, arith}
use Rattle.rtl_ir.specs.Value.{bit}
use Rattle.rtl_build.proofs.Growing.{adds_none, adds_on, adds_more}
use Rattle.kernel_control.specs.Serving.{serves, all_serve}
use Rattle.kernel_control.proofs.Bits.{as_bit, test_bit, bit_fits}
use Rattle.kernel_control.proofs.Listing.{no_port, drop_front, none_left}
use Rattle.kernel_control.proofs.Kept.{due_port_kept}
use Rattle.kernel_control.proofs.serving.all_served.Goals as goal

pub loop-port-init : goal.loop-port-init
loop-port-init c = record {
  adds = adds_none c.args.netlist.now 0;
  all = c.requires.test;
  value = λ d v h. refl;
  keeps = λ t h. h;
  before = λ d v h. h;
}

pub served-requires-clause-port : goal.served-requires-clause-port
served-requires-clause-port c =
    let i = c.loop-port.invariant in
    due_port_kept i.adds.grows (c.requires.ports c.loop-port.port-index no_port c.loop-port-test.true)

pub loop-port-preserved : goal.loop-port-preserved
loop-port-preserved c =
    let i = c.loop-port.invariant in
    let k = c.loop-port.port-index in
    let ports = c.args.ports.now in
    let made = c.in_ok-all.ensures in
    record {
      adds = adds_on c.args.netlist.now c.loop-port.netlist c.served.new.netlist (3 * k) 3 _ i.adds made.adds (omega arith);
      all = record { signal = made.signal; width = made.width };
      value = λ d v h.
          ap (λ b. all_serve b (drop (k + 1) ports) v)
          (ap (λ x. eqb x 1) (made.value d v h) ∙ test_bit (eqb (v c.loop-port.all.net) 1 && serves v (get_or ports k no_port)))
          ∙ ap (λ ss. all_serve (eqb (v c.loop-port.all.net) 1) ss v) (sym (drop_front ports k no_port c.loop-port-test.true))
          ∙ i.value d v (made.before d v h);
      keeps = λ t h. made.keeps t (i.keeps t h);
      before = λ d v h. i.before d v (made.before d v h);
    }

pub returns : goal.returns
returns c =
    let i = c.loop-port.invariant in
    let ports = c.args.ports.now in
    let done : c.loop-port.port-index ≡ length ports = let a = c.loop-port.auto.port-index-end in let b = c.loop-port-test.false in omega (arith, a, b) in
    record {
      adds = adds_more (3 * length ports) i.adds (omega (arith, done));
      signal = i.all.signal;
      width = i.all.width;
      value = λ d v h.
          as_bit (v c.loop-port.all.net) (bit_fits i.all h)
          ∙ ap bit (sym (none_left (eqb (v c.loop-port.all.net) 1) v c.loop-port.port-index ports c.loop-port-test.false) ∙ i.value d v h);
      keeps = i.keeps;
      before = i.before;
    }
