use Rattle.std.proofs.Common.{◌≡◌, ◌+◌, ◌<◌, length, cond, refl, sym, ap, ◌∙◌, subst, arith, length-append}
use Rattle.std.proofs.lemmas.Bool.{lt-ltb}
use Rattle.rtl_ir.specs.declared.design.Module.{Module}
use Rattle.rtl_ir.specs.Value.{depth_of}
use Rattle.rtl_build.specs.Storage.{HasMemory}
use Rattle.rtl_delays.specs.Names.{memory_name}
use Rattle.rtl_delays.specs.Rings.{IsPointerWidth}
use Rattle.rtl_delays.specs.Steps.{writes_reg, writes_mem}
use Rattle.rtl_delays.proofs.Targets.{free_reg, free_mem}
use Rattle.rtl_delays.proofs.Extends.{extends_on, memory_extends, cell_extends}
use Rattle.rtl_delays.proofs.Undriven.{register_undriven, memory_undriven, cell_undriven, undriven_on}
use Rattle.rtl_delays.proofs.Kept.{register_one, memory_no_register, cell_no_register, no_register_on, one_register_on}
use Rattle.rtl_delays.proofs.Stored.{memory_stored, cell_stored}
use Rattle.rtl_delays.proofs.Pointers.{narrow}
use Rattle.rtl_delays.proofs.rings.start_ring.Goals as goal

pub start_register-requires-clause-at_most : goal.start_register-requires-clause-at_most
start_register-requires-clause-at_most c = narrow c.args.words c.pointer_width.result c.pointer_width.ensures c.requires.few

pub returns : goal.returns
returns c =
    let q = c.requires in
    let m = c.args.netlist.now in
    let l = c.start_register.new.netlist in
    let n = c.memory.new.self in
    let last = c.cell.new.self in
    let pointer = c.in_ok-pointer.pointer in
    let k = c.in_ok-memory.memory in
    let a = c.in_ok-pointer.ensures.register in
    let b = c.in_ok-memory.ensures in
    let d = c.in_ok-word.ensures in
    let named = c.in_ok-name.ensures ∙ ap memory_name (c.len.ensures ∙ ap (λ (x : Module). length x.mems) c.module.ensures.whole) in
    let first = c.in_ok-pointer.ensures.extends in
    let second = memory_extends first.sound named q.some q.at_most (let w = q.words in omega (arith, w)) q.few b in
    let has : HasMemory n k = record {
      within = b.within;
      some = let e = b.width in let s = q.some in omega (arith, e, s);
      at_most = let e = b.width in let s = q.at_most in omega (arith, e, s);
    } in
    let third = cell_extends second.sound has (second.keeps pointer a.signal) d in
    let deep : depth_of last k ≡ c.args.words = third.depths k b.within ∙ b.depth in
    let updates : last.updates ≡ m.updates = ap (λ (x : Module). x.updates) d.is ∙ ap (λ (x : Module). x.updates) b.is ∙ ap (λ (x : Module). x.updates) a.is in
    let one : length l.nets ≡ length m.nets + 1 = ap (λ (x : Module). length x.nets) a.is ∙ length-append m.nets _ in
    let two : length n.nets ≡ length l.nets = ap (λ (x : Module). length x.nets) b.is in
    let three : length last.nets ≡ length n.nets + 1 = ap (λ (x : Module). length x.nets) d.is ∙ length-append n.nets _ in
    let first_mems : length l.mems ≡ length m.mems = ap (λ (x : Module). length x.mems) a.is in
    let second_mems : length n.mems ≡ length l.mems + 1 = ap (λ (x : Module). length x.mems) b.is ∙ length-append l.mems _ in
    let third_mems : length last.mems ≡ length n.mems = ap (λ (x : Module). length x.mems) d.is in
    record {
      extends = extends_on first (extends_on second third);
      has = record {
        pointer = third.keeps pointer (second.keeps pointer a.signal);
        register = third.registers pointer (second.registers pointer a.register);
        memory = let w = b.within in omega (arith, third_mems, w);
        depth = deep;
        width = third.widths k b.within ∙ sym d.width;
        word = d.signal;
        some = q.words;
        fits = subst (IsPointerWidth c.args.words) (sym a.width) c.pointer_width.ensures;
        shows = λ x v h lt.
            let within : v pointer.net < depth_of n k = let e = b.depth in omega (arith, e, lt) in
            d.value x v h ∙ ap (λ t. cond t (x.cells k (v pointer.net)) 0) (lt-ltb (v pointer.net) (depth_of n k) within);
      };
      free = record {
        pointer = ap (writes_reg pointer.net) updates ∙ free_reg (length m.nets) (length m.mems) pointer.net m.updates q.sound.updates (let e = a.net in omega (arith, e));
        memory = ap (writes_mem k) updates ∙ free_mem (length m.nets) (length m.mems) k m.updates q.sound.updates (let e = b.number in omega (arith, e, first_mems));
      };
      long = refl;
      wide = d.width ∙ b.width;
      pointer = a.net;
      memory = b.number ∙ first_mems;
      nets = omega (arith, one, two, three);
      mems = omega (arith, first_mems, second_mems, third_mems);
      updates = updates;
      only = one_register_on m l last pointer.net (register_one a) (no_register_on l n last (memory_no_register b) (cell_no_register d));
      undriven = undriven_on m l last first.grows (register_undriven a) (undriven_on l n last second.grows (memory_undriven b) (cell_undriven d));
      stored = let x = c.in_ok-pointer.ensures.stored in let y = memory_stored b in let z = cell_stored d in let e = a.width in omega (arith, x, y, z, e);
    }
