use Rattle.std.proofs.Common.{◌≡◌, ℕ, ◌<◌, ◌+◌, ◌∷◌, [], List, length, drop, get_or, refl, sym, ap, ◌∙◌, subst, arith, length-append}
use Rattle.std.specs.Prelude.{All}
use Rattle.rtl_delays.specs.declared.elements.Element.{Element}
use Rattle.rtl_delays.specs.Stored.{stored_bits}
use Rattle.rtl_delays.specs.Elements.{shown, AreFree}
use Rattle.rtl_delays.proofs.Extends.{extends_same, extends_on}
use Rattle.rtl_delays.proofs.Undriven.{same_undriven, undriven_on}
use Rattle.rtl_delays.proofs.Started.{frees_kept}
use Rattle.kernel_stages.specs.declared.node.NodeDelays.{NodeDelays}
use Rattle.kernel_stages.specs.Numbers.{AreRising, register_count, wait_count, ring_count, pipeline_bits, all_word_bits, all_pointer_bits}
use Rattle.kernel_stages.specs.Chains.{elements_of, no_delays, delays_at, joined, IsDelayedBy, AddsRegistersOf}
use Rattle.kernel_stages.specs.Starting.{AddsDelays}
use Rattle.kernel_stages.proofs.Lists.{drop_front, drop_all, item_is, each_pushed}
use Rattle.kernel_stages.proofs.Climbing.{nodes_left, no_nodes, nodes_nets_left, nodes_mems_left, no_nodes_nets, no_nodes_mems}
use Rattle.kernel_stages.proofs.Freeing.{joined_more, registers_both, frees_both}
use Rattle.kernel_stages.proofs.starting.start_stages.Goals as goal

pub loop-node-init : goal.loop-node-init
loop-node-init c =
    let m = c.args.netlist.now in
    let none = c.new-delays.ensures in
    record {
      extends = extends_same c.requires.sound;
      counted = ap length none;
      late = λ u lt. let e = ap length none in absurd (omega (arith, e, lt));
      wide = λ u lt. let e = ap length none in absurd (omega (arith, e, lt));
      free =
          subst (λ (xs : List NodeDelays). AreFree m (length m.nets) (length m.mems) (joined xs) (length m.nets) (length m.mems)) (sym none)
          (omega arith, omega arith);
      updates = refl;
      only = λ n h o. h;
      undriven = same_undriven m m refl;
      stored = refl;
      nets = refl;
      mems = refl;
    }

pub start_node-requires-clause-waits : goal.start_node-requires-clause-waits
start_node-requires-clause-waits c =
    let waits = c.args.waits.now in
    let k = c.loop-node.node in
    let it = c.index-waits-node.result in
    let lt = c.loop-node-test.true in
    subst AreRising (sym (item_is waits k it c.as_slice-behind.result.now c.as_slice-behind.ensures c.index-waits-node.is lt)) (c.requires.waits k [] lt)

pub loop-node-preserved : goal.loop-node-preserved
loop-node-preserved c =
    let l = c.args.netlist.now in
    let m = c.loop-node.netlist in
    let n = c.start_node.new.netlist in
    let i = c.loop-node.invariant in
    let k = c.loop-node.node in
    let waits = c.args.waits.now in
    let widths = c.args.widths.now in
    let latencies = c.args.latencies.now in
    let made = c.loop-node.delays in
    let d = c.in_ok-start_node.field-0 in
    let lt = c.loop-node-test.true in
    let size = c.requires.nodes in
    let same = c.requires.latencies in
    let it = c.index-waits-node.result in
    let given : c.as_slice-behind.result.now ≡ get_or waits k [] =
    item_is waits k it c.as_slice-behind.result.now c.as_slice-behind.ensures c.index-waits-node.is lt in
    let w = get_or widths k 0 in
    let a = get_or latencies k 0 in
    let s = get_or waits k [] in
    let more = drop (k + 1) widths in
    let less = drop (k + 1) latencies in
    let rest = drop (k + 1) waits in
    let x : AddsDelays m n w a s d = subst (λ ss. AddsDelays m n w a ss d) given c.in_ok-start_node.ensures in
    let pushed = c.in_ok-push.ensures.ok in
    let front : drop k waits ≡ s ∷ rest = drop_front waits k [] lt in
    let front_width : drop k widths ≡ w ∷ more = drop_front widths k 0 (omega (arith, size, lt)) in
    let front_latency : drop k latencies ≡ a ∷ less = drop_front latencies k 0 (omega (arith, same, lt)) in
    let total = stored_bits l + pipeline_bits widths latencies + all_word_bits widths waits + all_pointer_bits waits in
    let joins = joined_more made d in
    let counted = i.counted in
    record {
      extends = extends_on i.extends x.extends;
      counted = let e = ap length pushed in let f = length-append made (d ∷ []) in omega (arith, e, f, counted);
      late =
          subst (λ (xs : List NodeDelays). (u : ℕ) → u < length xs → IsDelayedBy (get_or latencies u 0) (get_or waits u []) (delays_at xs u)) (sym pushed)
          (each_pushed (λ u. IsDelayedBy (get_or latencies u 0) (get_or waits u [])) made d no_delays i.late
          (subst (λ u. IsDelayedBy (get_or latencies u 0) (get_or waits u []) d) (sym counted) x.late));
      wide =
          subst (λ (xs : List NodeDelays). (u : ℕ) → u < length xs → All (λ e. (shown e).width ≡ get_or widths u 0) (elements_of (delays_at xs u)))
          (sym pushed)
          (each_pushed (λ u y. All (λ e. (shown e).width ≡ get_or widths u 0) (elements_of y)) made d no_delays i.wide
          (subst (λ u. All (λ e. (shown e).width ≡ get_or widths u 0) (elements_of d)) (sym counted) x.wide));
      free =
          subst (λ (xs : List NodeDelays). AreFree n (length l.nets) (length l.mems) (joined xs) (length n.nets) (length n.mems)) (sym pushed)
          (subst (λ (es : List Element). AreFree n (length l.nets) (length l.mems) es (length n.nets) (length n.mems)) (sym joins)
          (frees_both n (length l.nets) (length l.mems) (joined made) (elements_of d) (length m.nets) (length m.mems) (length n.nets) (length n.mems)
          (frees_kept m n x.extends x.updates (length l.nets) (length l.mems) (joined made) (length m.nets) (length m.mems) i.free) x.free));
      updates = x.updates ∙ i.updates;
      only =
          subst (λ (xs : List NodeDelays). AddsRegistersOf l n (joined xs)) (sym pushed)
          (subst (AddsRegistersOf l n) (sym joins) (registers_both l m n (joined made) (elements_of d) i.only x.only));
      undriven = undriven_on l m n i.extends.grows i.undriven x.undriven;
      stored =
          nodes_left (stored_bits m) (stored_bits n) total w a (drop k widths) more (drop k latencies) less s (drop k waits) rest front_width
          front_latency front x.stored i.stored;
      nets = nodes_nets_left (length m.nets) (length n.nets) (length l.nets + (register_count latencies + wait_count waits + ring_count waits)) a
          (drop k latencies) less s (drop k waits) rest front_latency front x.nets i.nets;
      mems = nodes_mems_left (length m.mems) (length n.mems) (length l.mems + ring_count waits) s (drop k waits) rest front x.mems i.mems;
    }

pub returns : goal.returns
returns c =
    let l = c.args.netlist.now in
    let m = c.loop-node.netlist in
    let i = c.loop-node.invariant in
    let k = c.loop-node.node in
    let waits = c.args.waits.now in
    let widths = c.args.widths.now in
    let latencies = c.args.latencies.now in
    let le = c.loop-node-test.false in
    let top = c.loop-node.auto.node-end in
    let size = c.requires.nodes in
    let same = c.requires.latencies in
    let counted = i.counted in
    let end : drop k waits ≡ [] = drop_all waits k le in
    let end_width : drop k widths ≡ [] = drop_all widths k (omega (arith, size, le)) in
    let end_latency : drop k latencies ≡ [] = drop_all latencies k (omega (arith, same, le)) in
    record {
      extends = i.extends;
      late = record {
        counted = omega (arith, counted, le, top);
        numbered = same;
        each = i.late;
      };
      wide = i.wide;
      free = i.free;
      updates = i.updates;
      only = i.only;
      undriven = i.undriven;
      stored =
          no_nodes (stored_bits m) (stored_bits l + pipeline_bits widths latencies + all_word_bits widths waits + all_pointer_bits waits)
          (drop k widths) (drop k latencies) (drop k waits) end_width end i.stored;
      nets =
          let left = no_nodes_nets (length m.nets) (length l.nets + (register_count latencies + wait_count waits + ring_count waits)) (drop k latencies)
          (drop k waits) end_latency end i.nets in
          omega (arith, left);
      mems = no_nodes_mems (length m.mems) (length l.mems + ring_count waits) (drop k waits) end i.mems;
    }
