use Rattle.std.proofs.Common.{◌≡◌, get_or, sym, ap, ◌∙◌, subst, arith}
use Rattle.std.specs.Prelude.{All}
use Rattle.rtl_build.specs.declared.signal.Signal.{Signal}
use Rattle.rtl_delays.specs.Elements.{HasElement, AreFree}
use Rattle.rtl_delays.proofs.Extends.{extends_on, still_on}
use Rattle.rtl_delays.proofs.Undriven.{undriven_on}
use Rattle.rtl_delays.proofs.Kept.{no_register_on}
use Rattle.rtl_delays.proofs.Started.{element_kept}
use Rattle.kernel_stages.specs.Chains.{elements_of, last_shown, ring_delays, AreFreeIn}
use Rattle.kernel_stages.specs.Closing.{MayFollow, LeavesOthers, AreWritten, Follows}
use Rattle.kernel_stages.proofs.Climbing.{rings_both}
use Rattle.kernel_stages.proofs.Chaining.{all_first, all_last, follows_kept}
use Rattle.kernel_stages.proofs.Freeing.{reg_end, mem_end, frees_first, frees_last, frees_after, frees_stand, no_register, no_memory, leaves_both, written_both, written_on, may_kept, end_may_be}
use Rattle.kernel_stages.proofs.closing.close_node.Goals as goal

pub close_chain-requires-clause-free : goal.close_chain-requires-clause-free
close_chain-requires-clause-free c =
    let l = c.args.netlist.now in
    let d = c.args.delays.now in
    let f = c.requires.free in
    subst (AreFreeIn l) (sym c.as_slice.ensures) (record {
      reg = f.reg;
      mem = f.mem;
      nets = reg_end f.reg d.pipeline;
      mems = mem_end f.mem d.pipeline;
      free = frees_first l f.reg f.mem d.pipeline d.waits f.nets f.mems f.free;
    })

pub close_chain-requires-clause-word : goal.close_chain-requires-clause-word
close_chain-requires-clause-word c =
    let d = c.args.delays.now in
    subst (All (MayFollow c.args.netlist.now c.args.word)) (sym c.as_slice.ensures)
    (all_first (MayFollow c.args.netlist.now c.args.word) d.pipeline d.waits c.requires.word)

pub close_chain-requires-2-clause-free : goal.close_chain-requires-2-clause-free
close_chain-requires-2-clause-free c =
    let l = c.args.netlist.now in
    let m = c.close_chain.new.netlist in
    let d = c.args.delays.now in
    let f = c.requires.free in
    let x = c.in_ok-end.ensures in
    let a = reg_end f.reg d.pipeline in
    let b = mem_end f.mem d.pipeline in
    let first : AreFree l f.reg f.mem d.pipeline a b = frees_first l f.reg f.mem d.pipeline d.waits f.nets f.mems f.free in
    let left : LeavesOthers l m d.pipeline = subst (LeavesOthers l m) c.as_slice.ensures x.others in
    subst (AreFreeIn m) (sym c.as_slice-2.ensures) (record {
      reg = a;
      mem = b;
      nets = f.nets;
      mems = f.mems;
      free =
          frees_after l m d.pipeline a b x.extends left (no_register l f.reg f.mem d.pipeline a b first) (no_memory l f.reg f.mem d.pipeline a b first)
          d.waits f.nets f.mems (frees_last l f.reg f.mem d.pipeline d.waits f.nets f.mems f.free);
    })

pub close_chain-requires-2-clause-word : goal.close_chain-requires-2-clause-word
close_chain-requires-2-clause-word c =
    let l = c.args.netlist.now in
    let m = c.close_chain.new.netlist in
    let d = c.args.delays.now in
    let f = c.requires.free in
    let x = c.in_ok-end.ensures in
    let word = c.args.word in
    let stand : All (HasElement m) d.pipeline = λ k e lt.
    element_kept l m x.extends (get_or d.pipeline k e)
    (frees_stand l f.reg f.mem d.pipeline (reg_end f.reg d.pipeline) (mem_end f.mem d.pipeline)
    (frees_first l f.reg f.mem d.pipeline d.waits f.nets f.mems f.free) k e lt) in
    let may : All (MayFollow m word) (elements_of d) = λ k e lt.
    may_kept l m word (get_or (elements_of d) k e) x.extends (c.requires.word k e lt) in
    let end : c.in_ok-end.end ≡ last_shown word d.pipeline = x.last ∙ ap (last_shown word) c.as_slice.ensures in
    subst (All (MayFollow m c.in_ok-end.end)) (sym c.as_slice-2.ensures)
    (subst (λ s. All (MayFollow m s) d.waits) (sym end)
    (end_may_be m word d.pipeline d.waits stand (all_first (MayFollow m word) d.pipeline d.waits may) (all_last (MayFollow m word) d.pipeline d.waits may)))

pub returns : goal.returns
returns c =
    let l = c.args.netlist.now in
    let m = c.close_chain.new.netlist in
    let n = c.close_chain-2.new.netlist in
    let d = c.args.delays.now in
    let word = c.args.word in
    let run = c.args.run.net in
    let reset = c.args.reset.net in
    let x = c.in_ok-end.ensures in
    let y = c.in_ok-close_chain.ensures in
    let end : c.in_ok-end.end ≡ last_shown word d.pipeline = x.last ∙ ap (last_shown word) c.as_slice.ensures in
    let first : LeavesOthers l m d.pipeline = subst (LeavesOthers l m) c.as_slice.ensures x.others in
    let second : LeavesOthers m n d.waits = subst (LeavesOthers m n) c.as_slice-2.ensures y.others in
    let pipeline : Follows m run reset word.net d.pipeline = subst (Follows m run reset word.net) c.as_slice.ensures x.follows in
    let waits : Follows n run reset c.in_ok-end.end.net d.waits = subst (Follows n run reset c.in_ok-end.end.net) c.as_slice-2.ensures y.follows in
    record {
      extends = extends_on x.extends y.extends;
      still = still_on l m n run reset x.still y.still y.extends;
      others = leaves_both l m n d.pipeline d.waits first second;
      written =
          written_both n d.pipeline d.waits (written_on m n d.pipeline y.extends.grows (subst (AreWritten m) c.as_slice.ensures x.written))
          (subst (AreWritten n) c.as_slice-2.ensures y.written);
      registers = no_register_on l m n x.registers y.registers;
      undriven = undriven_on l m n x.extends.grows x.undriven y.undriven;
      stored = y.stored ∙ x.stored;
      nets =
          let both = rings_both d.pipeline d.waits in
          let one = ap ring_delays c.as_slice.ensures in
          let two = ap ring_delays c.as_slice-2.ensures in
          let a = x.nets in
          let b = y.nets in
          omega (arith, both, one, two, a, b);
      follows = record {
        pipeline = follows_kept m n run reset word.net d.pipeline y.extends.grows x.extends.sound pipeline;
        waits = subst (λ (s : Signal). Follows n run reset s.net d.waits) end waits;
      };
    }
