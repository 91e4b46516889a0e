use Rattle.std.proofs.Common.{◌≡◌, ◌*◌, length, sym, ap, ◌∙◌, subst, arith}
use Rattle.std.proofs.lemmas.List.Elements.{All-append}
use Rattle.rtl_delays.specs.Elements.{shown}
use Rattle.rtl_delays.proofs.Extends.{extends_on}
use Rattle.rtl_delays.proofs.Undriven.{undriven_on}
use Rattle.rtl_delays.proofs.Started.{frees_kept}
use Rattle.kernel_stages.specs.Numbers.{up_to, AreRising}
use Rattle.kernel_stages.specs.Starting.{AddsChain}
use Rattle.kernel_stages.proofs.Pipelines.{registers_rise, registers_length, registers_last, registers_rings, registers_pointers}
use Rattle.kernel_stages.proofs.Freeing.{registers_both, frees_both}
use Rattle.kernel_stages.proofs.starting.start_node.Goals as goal

pub start_chain-requires-clause-stages : goal.start_chain-requires-clause-stages
start_chain-requires-clause-stages c =
    subst AreRising (sym (c.as_slice.ensures ∙ c.in_ok-registers.ensures)) (registers_rise c.args.latency)

pub returns : goal.returns
returns c =
    let l = c.args.netlist.now in
    let m = c.start_chain.new.netlist in
    let n = c.start_chain-2.new.netlist in
    let w = c.args.width in
    let a = c.args.latency in
    let pipeline = c.in_ok-pipeline.pipeline in
    let waits = c.in_ok-waits.waits in
    let x : AddsChain l m w (up_to a) pipeline =
    subst (λ stages. AddsChain l m w stages pipeline) (c.as_slice.ensures ∙ c.in_ok-registers.ensures) c.in_ok-pipeline.ensures in
    let y = c.in_ok-waits.ensures in
    let last = registers_last a in
    let rings = registers_rings a in
    let pointers = registers_pointers a in
    let size = registers_length a in
    record {
      extends = extends_on x.extends y.extends;
      late = record { pipeline = x.late; behind = y.late };
      wide = All-append (λ e. (shown e).width ≡ w) pipeline waits x.wide y.wide;
      free =
          frees_both n (length l.nets) (length l.mems) pipeline waits (length m.nets) (length m.mems) (length n.nets) (length n.mems)
          (frees_kept m n y.extends y.updates (length l.nets) (length l.mems) pipeline (length m.nets) (length m.mems) x.free) y.free;
      updates = y.updates ∙ x.updates;
      only = registers_both l m n pipeline waits x.only y.only;
      undriven = undriven_on l m n x.extends.grows x.undriven y.undriven;
      stored =
          let first = x.stored in
          let second = y.stored in
          let words = ap (λ k. w * k) last in
          omega (arith, first, second, words, pointers);
      nets = let first = x.nets in let second = y.nets in omega (arith, first, second, size, rings);
      mems = let first = x.mems in let second = y.mems in omega (arith, first, second, rings);
    }
