use Rattle.std.proofs.Common.{◌≡◌, ◌+◌, ◌∷◌, drop, get_or, refl, sym, ap, ◌∙◌, subst, arith}
use Rattle.rtl_build.specs.declared.signal.Signal.{Signal}
use Rattle.rtl_build.specs.Signals.{HasSignal}
use Rattle.rtl_delays.specs.Delays.{of_net}
use Rattle.rtl_delays.specs.Elements.{shown, advances_of, reg_of, mem_of, past, AreFree}
use Rattle.rtl_delays.proofs.Extends.{extends_same, extends_on, still_same, still_on}
use Rattle.rtl_delays.proofs.Undriven.{same_undriven, undriven_on}
use Rattle.rtl_delays.proofs.Kept.{no_register_on, written_kept}
use Rattle.rtl_delays.proofs.Chain.{delay_kept}
use Rattle.rtl_delays.proofs.Started.{element_kept, shown_signal, frees_left, others}
use Rattle.kernel_stages.specs.Closing.{AreWritten, Follows}
use Rattle.kernel_stages.specs.Chains.{last_shown, ring_delays}
use Rattle.kernel_stages.proofs.Lists.{drop_front, drop_all}
use Rattle.kernel_stages.proofs.Climbing.{element_rings, element_closing}
use Rattle.kernel_stages.proofs.Freeing.{leaves_same, leaves_element, none_written, written_more}
use Rattle.kernel_stages.proofs.closing.close_chain.Goals as goal

pub loop-element-init : goal.loop-element-init
loop-element-init c =
    let m = c.args.netlist.now in
    let q = c.requires in
    record {
      extends = extends_same q.sound;
      still = still_same m m c.args.run.net c.args.reset.net refl;
      others = leaves_same m c.args.chain.now;
      written = λ p e h. h;
      registers = λ n h. h;
      undriven = same_undriven m m refl;
      stored = refl;
      nets = omega arith;
      free = q.free;
      may = λ j d le lt. q.word j d lt;
      follows = λ p e h. h;
      last = refl;
    }

pub loop-element-preserved : goal.loop-element-preserved
loop-element-preserved c =
    let l = c.args.netlist.now in
    let m = c.loop-element.netlist in
    let n = c.close_element.new.netlist in
    let i = c.loop-element.invariant in
    let k = c.loop-element.element-index in
    let chain = c.args.chain.now in
    let lt = c.loop-element-test.true in
    let e = c.element-item.result in
    let is : e ≡ get_or chain k e = c.element-item.is in
    let rest = drop (k + 1) chain in
    let front : drop k chain ≡ e ∷ rest = drop_front chain k e lt ∙ ap (λ x. x ∷ rest) (sym is) in
    let x = c.in_ok-close_element.ensures in
    let f = i.free in
    let free : AreFree m f.reg f.mem (e ∷ rest) f.nets f.mems = subst (λ es. AreFree m f.reg f.mem es f.nets f.mems) front f.free in
    let from = c.loop-element.from in
    let run = c.args.run.net in
    let reset = c.args.reset.net in
    let shows : c.shown-from.result ≡ shown e = c.shown-from.ensures in
    let here : from.width ≡ (shown e).width = (i.may k e (omega arith) lt).width ∙ ap (λ y. (shown y).width) (sym is) in
    record {
      extends = extends_on i.extends x.extends;
      still = still_on l m n run reset i.still x.still x.extends;
      others = leaves_element l m n chain k e lt is i.others x.others;
      written = λ p ext h.
          i.written p (extends_on x.extends ext) (subst (AreWritten p) (sym front) (written_more p e rest (written_kept n p (reg_of e) ext.grows x.written) h));
      registers = no_register_on l m n i.registers x.registers;
      undriven = undriven_on l m n i.extends.grows i.undriven x.undriven;
      stored = x.stored ∙ i.stored;
      nets =
          let size = ap ring_delays front ∙ element_rings e rest in
          let most = element_closing e in
          let was = i.nets in
          let grown = x.nets in
          omega (arith, size, most, was, grown);
      free = record {
        reg = reg_of e + 1;
        mem = past f.mem (mem_of e);
        nets = f.nets;
        mems = f.mems;
        free =
            frees_left m n (reg_of e) (mem_of e) x.extends x.others (reg_of e + 1) (past f.mem (mem_of e)) (omega arith)
            (λ j q. others f.mem (mem_of e) j q) rest f.nets f.mems free.4;
      };
      may = λ j d le b.
          let was = i.may j d (omega (arith, le)) b in
          record {
            signal = subst (HasSignal n) (sym shows) (shown_signal n e (element_kept m n x.extends e free.2));
            width = ap (λ (s : Signal). s.width) shows ∙ (sym here ∙ was.width);
          };
      follows = λ p ext h.
          i.follows p (extends_on x.extends ext)
          (subst (Follows p run reset from.net) (sym front) (
            delay_kept n p run reset (of_net from.net) (shown e).net (advances_of e) ext.grows x.extends.sound x.delay,
            subst (λ (s : Signal). Follows p run reset s.net rest) shows h,
          ));
      last = ap (λ s. last_shown s rest) shows ∙ sym (ap (last_shown from) front) ∙ i.last;
    }

pub returns-clause-written : goal.returns-clause-written
returns-clause-written c =
    let m = c.loop-element.netlist in
    let i = c.loop-element.invariant in
    let end = drop_all c.args.chain.now c.loop-element.element-index c.loop-element-test.false in
    i.written m (extends_same i.extends.sound) (subst (AreWritten m) (sym end) (none_written m))

pub returns-clause-follows : goal.returns-clause-follows
returns-clause-follows c =
    let m = c.loop-element.netlist in
    let i = c.loop-element.invariant in
    let end = drop_all c.args.chain.now c.loop-element.element-index c.loop-element-test.false in
    i.follows m (extends_same i.extends.sound) (subst (Follows m c.args.run.net c.args.reset.net c.loop-element.from.net) (sym end) tt)

pub returns-clause-last : goal.returns-clause-last
returns-clause-last c =
    let i = c.loop-element.invariant in
    let end = drop_all c.args.chain.now c.loop-element.element-index c.loop-element-test.false in
    sym (ap (last_shown c.loop-element.from) end) ∙ i.last

pub returns-clause-nets : goal.returns-clause-nets
returns-clause-nets c = let was = c.loop-element.invariant.nets in omega (arith, was)
