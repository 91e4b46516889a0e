use Rattle.std.proofs.Common.{arith, ◌∙◌, ap, sym, subst, ◌+◌, ◌==◌, if◌then◌else◌}
use Rattle.rtl_build.specs.declared.signal.Signal.{Signal}
use Rattle.rtl_build.proofs.Growing.{adds_none, adds_on, adds_more, same_value}
use Rattle.rtl_ops.proofs.Options.{Prefers, prefers_first, prefers_more, prefers_all, option_at, length-rest, signal_at, signal_is, rest_of}
use Rattle.rtl_ops.proofs.choice.choice.Goals as goal

pub loop-k-init : goal.loop-k-init
loop-k-init c =
    let m = c.args.netlist.now in
    let options = c.args.options.now in
    let is = signal_is options 0 c.index-options-0.result c.args.width c.new-chosen.result (omega (arith, c.requires.some)) c.index-options-0.is c.new-chosen.ensures in
    record {
      adds = adds_none m 0;
      chosen = rw is (c.requires.options 0 0 (omega (arith, c.requires.some)));
      width = ap (λ (s : Signal). s.width) is;
      prefers = subst (λ (s : Signal). Prefers m c.args.options.now c.args.selector 1 s) (sym is) (prefers_first m c.args.options.now c.args.selector c.args.width);
      keeps = λ t h. h;
      before = λ d v h. h;
    }

pub preferred-requires-clause-option : goal.preferred-requires-clause-option
preferred-requires-clause-option c =
    let options = c.args.options.now in
    let is = signal_is (rest_of options) c.loop-k.k c.net-item.result c.args.width c.new-option.result c.loop-k-test.true c.net-item.is c.new-option.ensures in
    rw is (c.loop-k.invariant.keeps _ (signal_at c.args.netlist.now options c.args.width (c.loop-k.k + 1) _ c.requires.options (option_at options c.loop-k.k c.loop-k-test.true)))

pub loop-k-preserved : goal.loop-k-preserved
loop-k-preserved c =
    let old = c.args.netlist.now in
    let now = c.loop-k.netlist in
    let new = c.preferred.new.netlist in
    let i = c.loop-k.invariant in
    let made = c.in_ok-chosen.ensures in
    let options = c.args.options.now in
    let chosen = c.loop-k.chosen in
    let selector = c.args.selector in
    let is = signal_is (rest_of options) c.loop-k.k c.net-item.result c.args.width c.new-option.result c.loop-k-test.true c.net-item.is c.new-option.ensures in
    let width = ap (λ (s : Signal). s.width) is in
    let net = ap (λ (s : Signal). s.net) is in
    let same = same_value 3 c.args.width _ made (omega arith) width (λ d v h. ap (λ n. if v selector.net == c.loop-k.k + 1 then v n else v chosen.net) net) in
    record {
      adds = adds_on old now new _ 3 _ i.adds made.adds (omega arith);
      chosen = made.signal;
      width = made.width ∙ width;
      prefers = prefers_more now new options c.args.selector c.loop-k.chosen c.in_ok-chosen.chosen (c.loop-k.k + 1) _ 3 c.args.width i.prefers same (option_at options c.loop-k.k c.loop-k-test.true);
      keeps = λ t h. made.keeps t (i.keeps t h);
      before = λ d v h. i.before d v (made.before d v h);
    }

pub returns : goal.returns
returns c =
    let i = c.loop-k.invariant in
    let options = c.args.options.now in
    record {
      adds = adds_more _ i.adds (omega (arith, length-rest options, c.loop-k.auto));
      signal = i.chosen;
      width = i.width;
      value = λ d v h. prefers_all c.loop-k.netlist options c.args.selector c.loop-k.chosen _ i.prefers (omega (arith, length-rest options, c.loop-k-test.false)) d v h;
      keeps = i.keeps;
      before = i.before;
    }
