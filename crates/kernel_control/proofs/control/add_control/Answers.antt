use Rattle.std.proofs.Common.{ap, ◌∙◌, arith}
use Rattle.rtl_delays.specs.Steps.{writes_reg, writes_mem}
use Rattle.rtl_delays.proofs.Extends.{extends_on, still_same, still_on}
use Rattle.kernel_control.specs.Nets.{told_nets}
use Rattle.kernel_control.proofs.Kept.{more_nets, has_width_kept}
use Rattle.kernel_control.proofs.Outs.{all_driven_kept}
use Rattle.kernel_control.proofs.Built.{are_small, control_built}
use Rattle.kernel_control.proofs.control.add_control.Goals as goal

pub close_position-requires-clause-sound : goal.close_position-requires-clause-sound
close_position-requires-clause-sound c = c.in_ok-run.ensures.extends.sound

pub close_position-requires-clause-position : goal.close_position-requires-clause-position
close_position-requires-clause-position c =
    let e = c.in_ok-run.ensures.extends in
    let p = c.requires.nets.position in
    record { signal = e.keeps _ p.signal; register = e.registers _ p.register; width = p.width }

pub close_position-requires-clause-unwritten : goal.close_position-requires-clause-unwritten
close_position-requires-clause-unwritten c = ap (writes_reg c.args.nets.position.net) c.in_ok-run.ensures.updates ∙ c.requires.nets.unwritten

pub close_position-requires-clause-run : goal.close_position-requires-clause-run
close_position-requires-clause-run c = c.in_ok-run.ensures.run

pub close_position-requires-clause-reset : goal.close_position-requires-clause-reset
close_position-requires-clause-reset c = has_width_kept c.in_ok-run.ensures.extends.grows c.requires.nets.reset

pub returns : goal.returns
returns c =
    let m = c.args.netlist.now in
    let nets = c.args.nets in
    let hs = c.args.ports.now in
    let has = c.in_ok-run.ensures in
    let p = c.in_ok-close_position.ensures in
    let e = p.extends in
    let r = c.in_ok-run.run' in
    let l = c.tell_ports.new.netlist in
    let n = c.close_position.new.netlist in
    record {
      extends = extends_on has.extends e;
      still = still_on m l n r.net nets.reset.net (still_same m l r.net nets.reset.net has.updates) p.still e;
      others = record {
        regs = λ k f d. p.others.regs k (ap (writes_reg k) has.updates ∙ f) d;
        mems = λ k f d. p.others.mems k (ap (writes_mem k) has.updates ∙ f) d;
      };
      written = p.written;
      stored = p.stored ∙ has.stored;
      undriven = λ k lt h o. p.undriven k (let a = more_nets has.extends.grows in omega (arith, a, lt)) (has.leaves k lt h o);
      driven = all_driven_kept e.grows (told_nets nets hs) has.driven;
      nets = let a = has.added in let b = p.nets in omega (arith, a, b);
      run = has_width_kept e.grows has.run;
      control = control_built m l n nets hs r (are_small m hs c.requires.ports) has e p.position;
    }
