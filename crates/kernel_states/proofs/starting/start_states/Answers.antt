use Rattle.std.proofs.Common.{◌≡◌, ℕ, ◌+◌, ◌<◌, ◌∷◌, [], List, Option, length, take, cond, refl, sym, ap, ◌∙◌, subst, arith, length-append}
use Rattle.std.proofs.lemmas.List.{take_all}
use Rattle.std.proofs.lemmas.List.Sums.{sum_by_more}
use Rattle.rtl_build.specs.declared.signal.Signal.{Signal}
use Rattle.fix_arith.specs.Types.{width_of}
use Rattle.stream_graph.specs.declared.node.Node.{Node}
use Rattle.rtl_delays.specs.Stored.{stored_bits}
use Rattle.rtl_delays.proofs.Extends.{extends_same, extends_on}
use Rattle.rtl_delays.proofs.Undriven.{same_undriven, undriven_on}
use Rattle.stream_graph.specs.LookUps.{no_node}
use Rattle.kernel_states.specs.States.{has_state, state_at, state_bits, state_count, IsState, AreFree}
use Rattle.kernel_states.specs.Starting.{AddsState, AddsRegistersOf}
use Rattle.kernel_states.proofs.Freeing.{frees_on, frees_both, registers_both, states_more}
use Rattle.kernel_states.proofs.starting.start_states.Goals as goal

pub loop-number-init : goal.loop-number-init
loop-number-init c =
    let m = c.args.netlist.now in
    let none = c.new-states.ensures in
    record {
      extends = extends_same c.requires;
      counted = ap (λ (xs : List (Option Signal)). length xs) none;
      each = λ n lt. absurd (omega arith);
      free = subst (λ (xs : List (Option Signal)). AreFree m (length m.nets) xs (length m.nets)) (sym none) (omega arith);
      updates = refl;
      only = λ n h o. h;
      undriven = same_undriven m m refl;
      stored = omega arith;
      nets = omega arith;
      mems = refl;
    }

pub start_state-requires-clause-sound : goal.start_state-requires-clause-sound
start_state-requires-clause-sound c = c.loop-number.invariant.extends.sound

pub loop-number-preserved : goal.loop-number-preserved
loop-number-preserved c =
    let l = c.args.netlist.now in
    let m = c.loop-number.netlist in
    let n = c.start_state.new.netlist in
    let nodes = c.args.kernel.now.nodes in
    let k = c.loop-number.number in
    let i = c.loop-number.invariant in
    let states = c.loop-number.states in
    let state = c.in_ok-state.state in
    let pushed = c.in_ok-push.ensures.ok in
    let new : c.new.result ≡ k = c.new.ensures in
    let x : AddsState m n nodes k state = subst (λ j. AddsState m n nodes j state) new c.in_ok-state.ensures in
    let count = c.count-number-end.ensures in
    let test = c.loop-number-test.true in
    let lt : k < length nodes = omega (arith, count, test) in
    record {
      extends = extends_on i.extends x.extends;
      counted =
          let size = ap (λ (xs : List (Option Signal)). length xs) pushed in
          let more = length-append states (state ∷ []) in
          let was = i.counted in
          omega (arith, size, more, was);
      each =
          subst (λ (xs : List (Option Signal)). (j : ℕ) → j < k + 1 → IsState n nodes j (state_at xs j)) (sym pushed)
          (states_more m n nodes states k state i.counted x.extends i.each x.is);
      free =
          subst (λ (xs : List (Option Signal)). AreFree n (length l.nets) xs (length n.nets)) (sym pushed)
          (frees_both n (length l.nets) states (state ∷ []) (length m.nets) (length n.nets)
          (frees_on m n x.updates (length l.nets) states (length m.nets) i.free) x.free);
      updates = x.updates ∙ i.updates;
      only = subst (AddsRegistersOf l n) (sym pushed) (registers_both l m n states (state ∷ []) i.only x.only);
      undriven = undriven_on l m n i.extends.grows i.undriven x.undriven;
      stored =
          let was = i.stored in
          let grown = x.stored in
          let more = sum_by_more (λ (node : Node). cond (has_state node.view.kind) (width_of node.view.t) 0) nodes k no_node lt in
          omega (arith, was, grown, more);
      nets =
          let was = i.nets in
          let grown = x.nets in
          let more = sum_by_more (λ (node : Node). cond (has_state node.view.kind) 1 0) nodes k no_node lt in
          omega (arith, was, grown, more);
      mems = x.mems ∙ i.mems;
    }

pub returns : goal.returns
returns c =
    let nodes = c.args.kernel.now.nodes in
    let i = c.loop-number.invariant in
    let k = c.loop-number.number in
    let count = c.count-number-end.ensures in
    let le = c.loop-number.auto.number-end in
    let test = c.loop-number-test.false in
    let end : k ≡ length nodes = omega (arith, count, le, test) in
    let all : take k nodes ≡ nodes = take_all k nodes (omega (arith, end)) in
    record {
      extends = i.extends;
      are = record { counted = i.counted ∙ end; each = λ n lt. i.each n (omega (arith, lt, end)) };
      free = i.free;
      updates = i.updates;
      only = i.only;
      undriven = i.undriven;
      stored = i.stored ∙ ap (λ (xs : List Node). stored_bits c.args.netlist.now + state_bits xs) all;
      nets = i.nets ∙ ap (λ (xs : List Node). length c.args.netlist.now.nets + state_count xs) all;
      mems = i.mems;
    }
