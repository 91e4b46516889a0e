use Rattle.std.proofs.Common.{ℕ, List, [], ◌∷◌, length, sym, ap, ◌∙◌, subst, arith}
use Rattle.std.specs.Prelude.{All}
use Rattle.kernel_stages.specs.declared.node.NodeDelays.{NodeDelays}
use Rattle.kernel_stages.specs.Numbers.{AreRising}
use Rattle.kernel_stages.specs.Chains.{joined, AreWide}
use Rattle.kernel_stages.specs.Starting.{ComeAfter}
use Rattle.kernel_parts_tests.proofs.Kept.{inputs_on, all_rising, all_widths, two_words}
use Rattle.kernel_parts_tests.proofs.stages.add_stages.Goals as goal

pub start_stages-requires : goal.start_stages-requires
start_stages-requires c =
    let e = c.as_slice-waits.ensures ∙ c.in_ok-kept.ensures in
    record {
      sound = c.in_ok-inputs.ensures.has.sound;
      nodes = sym (ap length e);
      latencies = sym (ap length e);
      widths = all_widths;
      waits = subst (λ (s : List (List ℕ)). All AreRising s) (sym e) all_rising;
    }

pub close_stages-requires : goal.close_stages-requires
close_stages-requires c =
    let made = c.in_ok-started.ensures in
    let m = c.start_stages.new.netlist in
    let has = inputs_on made.extends c.in_ok-inputs.ensures.has in
    let e = c.as_slice-waits.ensures ∙ c.in_ok-kept.ensures in
    let same = c.as_slice-delays.ensures in
    let wide = subst (λ (ds : List NodeDelays). AreWide (8 ∷ 16 ∷ []) ds) (sym same) made.wide in
    let size = ap length e in
    let counted = made.late.counted in
    let long = ap length same in
    record {
      sound = made.extends.sound;
      run = has.run.signal;
      run_bit = has.run.width;
      reset = has.reset.signal;
      reset_bit = has.reset.width;
      free = record {
        reg = _;
        mem = _;
        nets = _;
        mems = _;
        free = subst (λ (ds : List NodeDelays). ComeAfter c.add_inputs.new.netlist m (joined ds)) (sym same) made.free;
      };
      nodes = omega (arith, size, counted, long);
      words = c.followed_words.ensures m (8 ∷ 16 ∷ []) (c.in_ok-inputs.inputs.narrow
          ∷ c.in_ok-inputs.inputs.wide ∷ []) c.as_slice-delays.result.now wide
          (two_words m _ _ c.as_slice-delays.result.now (omega (arith, size, counted, long)) has.narrow has.wide);
    }
