use Rattle.std.proofs.Common.{◌≡◌, ℕ, ◌+◌, ◌*◌, ◌<◌, ◌++◌, ◌∷◌, [], List, Option, true, length, take, drop, cond, refl, sym, ap, ◌∙◌, subst, arith}
use Rattle.std.proofs.lemmas.Bool.{false≢true}
use Rattle.std.proofs.lemmas.List.{take_more, take_all}
use Rattle.std.proofs.lemmas.List.Sums.{sum_by_more}
use Rattle.std.specs.Prelude.{slice_index}
use Rattle.rtl_build.specs.declared.signal.Signal.{Signal}
use Rattle.rtl_delays.specs.Steps.{writes_reg}
use Rattle.rtl_delays.proofs.Extends.{extends_same, extends_on, still_same, still_on}
use Rattle.rtl_delays.proofs.Undriven.{same_undriven, undriven_on}
use Rattle.rtl_delays.proofs.Kept.{no_register_on}
use Rattle.stream_graph.specs.declared.node.Node.{Node}
use Rattle.stream_graph.specs.LookUps.{no_node, digits_at}
use Rattle.counter_chains.specs.Chains.{chain_at}
use Rattle.kernel_refinement.proofs.Storing.{store_keeps, stepping_counts}
use Rattle.kernel_states.specs.Stepping.{state_after}
use Rattle.kernel_states.specs.States.{has_state, state_at, is_state_of, step_nets, IsState}
use Rattle.kernel_states.specs.Closing.{word_at, LeavesOthers, ClosesState}
use Rattle.kernel_types.proofs.Counting.{counters}
use Rattle.kernel_states.proofs.Taking.{is_stored}
use Rattle.kernel_states.proofs.Ticking.{state_steps}
use Rattle.kernel_states.proofs.Freeing.{each_more}
use Rattle.kernel_states.proofs.Closes.{AreFreeFrom, IsClosed, closed_on, leaves_both, written_both, free_rest, drop_next}
use Rattle.kernel_states.proofs.closing.close_states.Goals as goal

pub loop-number-init : goal.loop-number-init
loop-number-init c =
    let m = c.args.netlist.now in
    let q = c.requires in
    record {
      extends = extends_same q.sound;
      still = still_same m m c.args.nets.run.net c.args.nets.reset.net refl;
      others = record { regs = λ k w o. w; mems = λ k w. w };
      written = λ k o. absurd (false≢true o);
      registers = λ k h. h;
      undriven = same_undriven m m refl;
      stored = refl;
      nets = omega arith;
      mems = refl;
      free = record { from = q.free.0; to = q.free.1; free = q.free.2 };
      closed = λ n lt. absurd (omega arith);
    }

pub loop-number-preserved : goal.loop-number-preserved
loop-number-preserved c =
    let l = c.args.netlist.now in
    let m = c.loop-number.netlist in
    let n = c.close_state.new.netlist in
    let i = c.loop-number.invariant in
    let k = c.loop-number.number in
    let nodes = c.args.kernel.now.nodes in
    let states = c.args.states.now in
    let times = c.args.times.now in
    let words = c.args.words.now in
    let by = c.args.nets in
    let run = by.run.net in
    let reset = by.reset.net in
    let state = state_at states k in
    let test = c.loop-number-test.true in
    let count = c.count-number-end.ensures in
    let size = c.requires.states.counted in
    let lt : k < length nodes = omega (arith, test, count) in
    let within : k < length states = omega (arith, lt, size) in
    let node : c.new-node.result ≡ k = c.new-node.ensures in
    let place : c.index-place.result ≡ k = c.index-place.ensures.number ∙ node in
    let x : ClosesState m n nodes k (slice_index times k) (word_at words k) by state =
    subst (λ j. ClosesState m n nodes j (slice_index times k) (word_at words j) by state) node
    (subst (λ j. ClosesState m n nodes c.new-node.result (slice_index times j) (word_at words c.new-node.result) by (state_at states j)) place
    c.in_ok-close_state.ensures) in
    let front : take (k + 1) states ≡ take k states ++ state ∷ [] = take_more states k _ within in
    record {
      extends = extends_on i.extends x.extends;
      still = still_on l m n run reset i.still x.still x.extends;
      others = subst (LeavesOthers l n) (sym front) (leaves_both l m n (take k states) (state ∷ []) i.others x.others);
      written =
          subst (λ (xs : List (Option Signal)). (j : ℕ) → is_state_of xs j ≡ true → writes_reg j n.updates ≡ true) (sym front)
          (written_both m n (take k states) (state ∷ []) x.extends i.written x.written);
      registers = no_register_on l m n i.registers x.registers;
      undriven = undriven_on l m n i.extends.grows i.undriven x.undriven;
      stored = x.stored ∙ i.stored;
      nets =
          let was = i.nets in
          let grown = x.nets in
          let more = sum_by_more (λ (node : Node). cond (has_state node.view.kind) (10 * length node.digits + 8) 0) nodes k no_node lt in
          omega (arith, was, grown, more);
      mems = x.mems ∙ i.mems;
      free = free_rest m n state (drop (k + 1) states) x.others (subst (AreFreeFrom m) (drop_next states k _ within) i.free);
      closed =
          each_more (λ j. IsClosed n nodes j (slice_index times j) (word_at words j) by (state_at states j)) k
          (λ j below. closed_on x.extends (i.closed j below)) (record { steps = x.steps; takes = x.takes });
    }

pub returns : goal.returns
returns c =
    let m = c.loop-number.netlist in
    let i = c.loop-number.invariant in
    let k = c.loop-number.number in
    let nodes = c.args.kernel.now.nodes in
    let states = c.args.states.now in
    let by = c.args.nets in
    let law = c.chains_by_ticks.ensures in
    let count = c.count-number-end.ensures in
    let le = c.loop-number.auto.number-end in
    let test = c.loop-number-test.false in
    let size = c.requires.states.counted in
    let end : k ≡ length nodes = omega (arith, count, le, test) in
    let all : take k states ≡ states = take_all k states (omega (arith, end, size)) in
    let all_nodes : take k nodes ≡ nodes = take_all k nodes (omega (arith, end)) in
    record {
      extends = i.extends;
      still = i.still;
      others = subst (LeavesOthers c.args.netlist.now m) all i.others;
      written = subst (λ (xs : List (Option Signal)). (j : ℕ) → is_state_of xs j ≡ true → writes_reg j m.updates ≡ true) all i.written;
      registers = i.registers;
      undriven = i.undriven;
      stored = i.stored;
      nets = let few = i.nets in let same = ap step_nets all_nodes in omega (arith, few, same);
      mems = i.mems;
      counters = λ n s lt counts e position.
          let digits = digits_at nodes n in
          let lawful = ((counters nodes c.args.kernel.now.made).counting n lt counts).digits in
          let closed = i.closed n (omega (arith, lt, end)) in
          stepping_counts m by.run.net by.reset.net by.position.net (slice_index c.args.times.now n) (state_after digits) s.net position
          (closed.steps s e counts) (chain_at digits) (law.begins digits) (λ t. state_steps law.steps law.fits digits t lawful);
      keepers = λ n on from s lt kind e shows.
          let closed = i.closed n (omega (arith, lt, end)) in
          let takes = closed.takes s e kind in
          let state = subst (IsState c.args.netlist.now nodes n) e (c.requires.states.each n lt) in
          let reg = i.extends.regs s.net state.1.register.register in
          store_keeps m by.run.net by.reset.net on from s.net (record {
            register = reg;
            cleared = takes.cleared;
            takes = λ k f d t r.
                is_stored (d.regs s.net) (f by.run.net) (f on) (f (word_at c.args.words.now n).net) (f from) (f s.net) (k.regs s.net)
                (takes.takes k f d t r) (shows k f t.holds) (t.holds.kept s.net reg);
          });
    }
