use Rattle.std.proofs.Common.{◌≡◌, ◌+◌, ◌++◌, ◌∷◌, [], drop, get_or, refl, sym, ap, ◌∙◌, subst, arith}
use Rattle.std.specs.Prelude.{All}
use Rattle.rtl_delays.specs.Elements.{AreFree}
use Rattle.rtl_delays.proofs.Extends.{extends_same, extends_on, still_same, still_on}
use Rattle.rtl_delays.proofs.Undriven.{same_undriven, undriven_on}
use Rattle.rtl_delays.proofs.Kept.{no_register_on}
use Rattle.kernel_stages.specs.Chains.{elements_of, no_delays, delays_at, joined, ring_delays, word_at, AreFreeIn}
use Rattle.kernel_stages.specs.Closing.{MayFollow, LeavesOthers, AreWritten, IsFollowed}
use Rattle.kernel_stages.proofs.Lists.{drop_front, drop_all, same_item, each_more}
use Rattle.kernel_stages.proofs.Climbing.{rings_both}
use Rattle.kernel_stages.proofs.Chaining.{Linked, linked_kept, linked_delays}
use Rattle.kernel_stages.proofs.Freeing.{reg_end, mem_end, frees_first, frees_last, frees_after}
use Rattle.kernel_stages.proofs.Freeing.{frees_some, no_register, no_memory, leaves_same}
use Rattle.kernel_stages.proofs.Freeing.{leaves_node, none_written, written_both, written_on}
use Rattle.kernel_stages.proofs.Freeing.{may_kept}
use Rattle.kernel_stages.proofs.closing.close_stages.Goals as goal

pub loop-node-init : goal.loop-node-init
loop-node-init c =
    let m = c.args.netlist.now in
    let q = c.requires in
    record {
      extends = extends_same q.sound;
      still = still_same m m c.args.run.net c.args.reset.net refl;
      others = leaves_same m (joined c.args.delays.now);
      written = λ p e h. h;
      registers = λ n h. h;
      undriven = same_undriven m m refl;
      stored = refl;
      nets = omega arith;
      free = q.free;
      linked = λ u lt. absurd (omega arith);
    }

pub close_node-requires-clause-free : goal.close_node-requires-clause-free
close_node-requires-clause-free c =
    let m = c.loop-node.netlist in
    let k = c.loop-node.node in
    let delays = c.args.delays.now in
    let lt = c.loop-node-test.true in
    let it = c.index-delays-node.result in
    let given : it ≡ delays_at delays k = c.index-delays-node.is ∙ same_item delays k it no_delays lt in
    let d = delays_at delays k in
    let rest = drop (k + 1) delays in
    let f = c.loop-node.invariant.free in
    let front : drop k delays ≡ d ∷ rest = drop_front delays k no_delays lt in
    let free : AreFree m f.reg f.mem (elements_of d ++ joined rest) f.nets f.mems = subst (λ ds. AreFree m f.reg f.mem (joined ds) f.nets f.mems) front f.free in
    subst (λ x. AreFreeIn m (elements_of x)) (sym given) (record {
      reg = f.reg;
      mem = f.mem;
      nets = reg_end f.reg (elements_of d);
      mems = mem_end f.mem (elements_of d);
      free = frees_first m f.reg f.mem (elements_of d) (joined rest) f.nets f.mems free;
    })

pub close_node-requires-clause-word : goal.close_node-requires-clause-word
close_node-requires-clause-word c =
    let m = c.loop-node.netlist in
    let k = c.loop-node.node in
    let delays = c.args.delays.now in
    let lt = c.loop-node-test.true in
    let it = c.index-delays-node.result in
    let given : it ≡ delays_at delays k = c.index-delays-node.is ∙ same_item delays k it no_delays lt in
    let word = word_at c.args.words.now k in
    let x = c.loop-node.invariant.extends in
    subst (λ y. All (MayFollow m word) (elements_of y)) (sym given)
    (λ j e l. may_kept c.args.netlist.now m word (get_or (elements_of (delays_at delays k)) j e) x (c.requires.words k lt j e l))

pub loop-node-preserved : goal.loop-node-preserved
loop-node-preserved c =
    let l = c.args.netlist.now in
    let m = c.loop-node.netlist in
    let n = c.close_node.new.netlist in
    let i = c.loop-node.invariant in
    let k = c.loop-node.node in
    let delays = c.args.delays.now in
    let words = c.args.words.now in
    let run = c.args.run.net in
    let reset = c.args.reset.net in
    let lt = c.loop-node-test.true in
    let it = c.index-delays-node.result in
    let given : it ≡ delays_at delays k = c.index-delays-node.is ∙ same_item delays k it no_delays lt in
    let d = delays_at delays k in
    let chain = elements_of d in
    let rest = drop (k + 1) delays in
    let front : drop k delays ≡ d ∷ rest = drop_front delays k no_delays lt in
    let x = c.in_ok-close_node.ensures in
    let left : LeavesOthers m n chain = subst (λ y. LeavesOthers m n (elements_of y)) given x.others in
    let written : AreWritten n chain = subst (λ y. AreWritten n (elements_of y)) given x.written in
    let follows : IsFollowed n run reset (word_at words k) d = subst (IsFollowed n run reset (word_at words k)) given x.follows in
    let f = i.free in
    let free : AreFree m f.reg f.mem (chain ++ joined rest) f.nets f.mems = subst (λ cs. AreFree m f.reg f.mem (joined cs) f.nets f.mems) front f.free in
    let a = reg_end f.reg chain in
    let b = mem_end f.mem chain in
    let first : AreFree m f.reg f.mem chain a b = frees_first m f.reg f.mem chain (joined rest) f.nets f.mems free in
    record {
      extends = extends_on i.extends x.extends;
      still = still_on l m n run reset i.still x.still x.extends;
      others = leaves_node l m n delays k i.others left;
      written = λ p ext h.
          i.written p (extends_on x.extends ext)
          (subst (λ cs. AreWritten p (joined cs)) (sym front) (written_both p chain (joined rest) (written_on n p chain ext.grows written) h));
      registers = no_register_on l m n i.registers x.registers;
      undriven = undriven_on l m n i.extends.grows i.undriven x.undriven;
      stored = x.stored ∙ i.stored;
      nets =
          let size = ap (λ cs. ring_delays (joined cs)) front in
          let both = rings_both chain (joined rest) in
          let long = ap (λ y. ring_delays (elements_of y)) given in
          let was = i.nets in
          let grown = x.nets in
          omega (arith, size, both, long, was, grown);
      free = record {
        reg = a;
        mem = b;
        nets = f.nets;
        mems = f.mems;
        free =
            frees_after m n chain a b x.extends left (no_register m f.reg f.mem chain a b first)
            (no_memory m f.reg f.mem chain a b first) (joined rest) f.nets f.mems
            (frees_last m f.reg f.mem chain (joined rest) f.nets f.mems free);
      };
      linked =
          each_more (λ u. Linked n run reset (word_at words u) (delays_at delays u)) k
          (λ u lu. linked_kept m n run reset (word_at words u) (delays_at delays u) x.extends.grows i.extends.sound (i.linked u lu))
          (record { follows = follows; some = frees_some m f.reg f.mem chain a b first });
    }

pub returns-clause-written : goal.returns-clause-written
returns-clause-written c =
    let m = c.loop-node.netlist in
    let i = c.loop-node.invariant in
    let end = drop_all c.args.delays.now c.loop-node.node c.loop-node-test.false in
    i.written m (extends_same i.extends.sound) (subst (λ cs. AreWritten m (joined cs)) (sym end) (none_written m))

pub returns-clause-delays : goal.returns-clause-delays
returns-clause-delays c = λ latencies waits h u lu.
    let m = c.loop-node.netlist in
    let delays = c.args.delays.now in
    let le = c.loop-node-test.false in
    linked_delays m c.args.run.net c.args.reset.net (word_at c.args.words.now u) (get_or latencies u 0) (get_or waits u []) (delays_at delays u)
    (c.loop-node.invariant.linked u (omega (arith, le, lu))) (h.each u lu)

pub returns-clause-nets : goal.returns-clause-nets
returns-clause-nets c = let was = c.loop-node.invariant.nets in omega (arith, was)
