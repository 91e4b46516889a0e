use Rattle.std.proofs.Common.{◌+◌, drop, get_or, refl, sym, ap, subst, ◌∙◌, length, arith}
use Rattle.rtl_delays.proofs.Extends.{extends_same, extends_on}
use Rattle.kernel_control.specs.Outputs.{AreUndriven, AreDriven}
use Rattle.kernel_control.specs.Answers.{answers_of, AreTold}
use Rattle.kernel_control.proofs.Kept.{more_nets, has_width_kept, due_port_kept, due_ports_kept}
use Rattle.kernel_control.proofs.Listing.{no_port, drop_front, told_left}
use Rattle.kernel_control.proofs.Outs.{answers_under, under_left, undriven_left, driven_kept, driven_left, answer_among}
use Rattle.kernel_control.proofs.answers.answer_all.Goals as goal

pub loop-port-init : goal.loop-port-init
loop-port-init c =
    let q = c.requires in
    record {
      extends = extends_same q.sound;
      updates = refl;
      stored = refl;
      leaves = λ n lt h o. h;
      undriven = q.undriven;
      driven = λ m e h. h;
      told = λ m e h. h;
      nets = omega arith;
    }

pub answer-requires-clause-sound : goal.answer-requires-clause-sound
answer-requires-clause-sound c = c.loop-port.invariant.extends.sound

pub answer-requires-clause-run : goal.answer-requires-clause-run
answer-requires-clause-run c = has_width_kept c.loop-port.invariant.extends.grows c.requires.run

pub answer-requires-clause-port : goal.answer-requires-clause-port
answer-requires-clause-port c = due_port_kept c.loop-port.invariant.extends.grows (c.requires.ports c.loop-port.port-index no_port c.loop-port-test.true)

pub answer-requires-clause-undriven : goal.answer-requires-clause-undriven
answer-requires-clause-undriven c =
    let k = c.loop-port.port-index in
    let ports = c.args.ports.now in
    (subst (λ ss. AreUndriven c.loop-port.netlist (answers_of ss)) (drop_front ports k no_port c.loop-port-test.true) c.loop-port.invariant.undriven).0

pub loop-port-preserved : goal.loop-port-preserved
loop-port-preserved c =
    let m = c.loop-port.netlist in
    let n = c.answer.new.netlist in
    let i = c.loop-port.invariant in
    let k = c.loop-port.port-index in
    let ports = c.args.ports.now in
    let port = get_or ports k no_port in
    let front = drop_front ports k no_port c.loop-port-test.true in
    let d = c.in_ok-answer.ensures in
    let run = c.args.run.net in
    let free = subst (λ ss. AreUndriven m (answers_of ss)) front i.undriven in
    let under = under_left (length m.nets) (k + 1) ports (answers_under m ports (due_ports_kept i.extends.grows ports c.requires.ports)) in
    record {
      extends = extends_on i.extends d.extends;
      updates = d.updates ∙ i.updates;
      stored = d.stored ∙ i.stored;
      leaves = λ x lt h o. d.leaves x (let a = more_nets i.extends.grows in omega (arith, a, lt)) (i.leaves x lt h o)
          (answer_among ports k x no_port c.loop-port-test.true o);
      undriven = undriven_left m n port.answer.net d.leaves (answers_of (drop (k + 1) ports)) free.1 under free.2;
      driven = λ x e h. i.driven x (extends_on d.extends e)
          (subst (λ ss. AreDriven x (answers_of ss)) (sym front) (driven_kept e.grows port.answer.net d.driven, h));
      told = λ x e h. i.told x (extends_on d.extends e)
          (subst (AreTold x run) (sym front) ((λ a v q. d.told a v (e.before a v q)), h));
      nets = let size = ap length front in let left = i.nets in let one = d.nets in omega (arith, size, left, one);
    }

pub returns : goal.returns
returns c =
    let i = c.loop-port.invariant in
    let m = c.loop-port.netlist in
    let k = c.loop-port.port-index in
    let ports = c.args.ports.now in
    let same = extends_same i.extends.sound in
    record {
      extends = i.extends;
      updates = i.updates;
      stored = i.stored;
      leaves = i.leaves;
      driven = i.driven m same (driven_left m k ports c.loop-port-test.false);
      told = i.told m same (told_left m c.args.run.net k ports c.loop-port-test.false);
      nets = let left = i.nets in omega (arith, left);
    }
