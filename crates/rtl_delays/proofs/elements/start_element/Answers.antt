use Rattle.std.proofs.Common.{◌≡◌, ◌+◌, ◌*◌, length, sym, ap, ◌∙◌, subst, arith, length-append}
use Rattle.rtl_ir.specs.declared.design.Module.{Module}
use Rattle.rtl_delays.specs.Steps.{writes_reg}
use Rattle.rtl_delays.specs.Stored.{stored_bits}
use Rattle.rtl_delays.proofs.Targets.{free_reg}
use Rattle.rtl_delays.proofs.Undriven.{register_undriven}
use Rattle.rtl_delays.proofs.Kept.{register_one}
use Rattle.rtl_delays.proofs.elements.start_element.Goals as goal

pub returns-in_ok-start_register : goal.returns-in_ok-start_register
returns-in_ok-start_register c =
    let q = c.requires in
    let m = c.args.netlist.now in
    let n = c.start_register.new.netlist in
    let s = c.in_ok-start_register.field-0 in
    let a = c.in_ok-start_register.ensures.register in
    let one : c.args.advances ≡ 1 = c.if-advances-eq1.true in
    let updates : n.updates ≡ m.updates = ap (λ (x : Module). x.updates) a.is in
    let nets : length n.nets ≡ length m.nets + 1 = ap (λ (x : Module). length x.nets) a.is ∙ length-append m.nets _ in
    let mems : length n.mems ≡ length m.mems = ap (λ (x : Module). length x.mems) a.is in
    record {
      extends = c.in_ok-start_register.ensures.extends;
      has = (a.signal, a.register);
      free = ap (writes_reg s.net) updates ∙ free_reg (length m.nets) (length m.mems) s.net m.updates q.sound.updates (let e = a.net in omega (arith, e));
      late = sym one;
      wide = a.width;
      lean = tt;
      reg = a.net;
      mem = tt;
      nets = omega (arith, nets);
      mems = omega (arith, mems);
      updates = updates;
      only = register_one a;
      undriven = register_undriven a;
      stored = subst (λ d. stored_bits n ≡ stored_bits m + c.args.width * d + 0) (sym one) (let x = c.in_ok-start_register.ensures.stored in omega (arith, x));
    }
