use Rattle.std.proofs.Common.{◌≡◌, List, length, refl, sym, ap, ◌∙◌, subst, arith}
use Rattle.std.specs.Prelude.{All}
use Rattle.counter_chains.specs.declared.digits.CounterDigit.{CounterDigit}
use Rattle.counter_chains.specs.Digits.{IsDigit}
use Rattle.counter_chains.specs.Chains.{bits_of}
use Rattle.stream_graph.specs.declared.node.NodeView.{NodeView}
use Rattle.stream_graph.specs.declared.node.Node.{Node}
use Rattle.stream_graph.specs.LookUps.{kind_at, no_node, digits_at}
use Rattle.stream_graph.proofs.Reading.{read, view_read}
use Rattle.kernel_control.specs.Nets.{HasWidth}
use Rattle.kernel_refinement.specs.States.{IsStepping}
use Rattle.kernel_states.specs.States.{IsState, IsUnwritten}
use Rattle.kernel_states.specs.Stepping.{state_after}
use Rattle.kernel_states.specs.Closing.{word_at, IsClearable}
use Rattle.kernel_types.proofs.Counting.{counters}
use Rattle.kernel_states.proofs.Taking.{on_ok_both}
use Rattle.kernel_states.proofs.Closes.{counts_then, holds_not_count, some_counter, no_state, one_state}
use Rattle.kernel_states.proofs.closing.close_state.Goals as goal

pub returns-in_default : goal.returns-in_default
returns-in_default c =
    no_state c.args.netlist.now c.args.kernel.now.nodes c.args.node c.args.time (word_at c.args.words.now c.args.node) c.args.nets c.args.state
    c.requires.sound c.in_default.is

pub bounds-words-index : goal.bounds-words-index
bounds-words-index c =
    let nodes = c.args.kernel.now.nodes in
    let n = c.args.node in
    let kind = ap (λ (v : NodeView). v.kind) (view_read nodes n n c.node.result refl c.node.ensures) in
    let word = c.requires.words n c.requires.node (sym kind ∙ c.in-Hold.is) in
    let at = c.index.ensures.number in
    let lt = word.0 in
    omega (arith, at, lt)

pub close_register-requires-clause-value : goal.close_register-requires-clause-value
close_register-requires-clause-value c =
    let m = c.args.netlist.now in
    let nodes = c.args.kernel.now.nodes in
    let n = c.args.node in
    let words = c.args.words.now in
    let kind = ap (λ (v : NodeView). v.kind) (view_read nodes n n c.node.result refl c.node.ensures) in
    let word = c.requires.words n c.requires.node (sym kind ∙ c.in-Hold.is) in
    let state = subst (IsState m nodes n) c.in-Some.is c.requires.state in
    subst (λ k. HasWidth m c.in-Some.register.width (word_at words k)) (sym c.index.ensures.number)
    (subst (λ w. HasWidth m w (word_at words n)) (sym state.1.width) word.1)

pub close_counter-requires : goal.close_counter-requires
close_counter-requires c =
    let m = c.args.netlist.now in
    let nodes = c.args.kernel.now.nodes in
    let n = c.args.node in
    let s = c.in-Some.register in
    let digits = c.digits.result.now in
    let kind = ap (λ (v : NodeView). v.kind) (view_read nodes n n c.node.result refl c.node.ensures) in
    let state = subst (IsState m nodes n) c.in-Some.is c.requires.state in
    let free = subst (IsUnwritten m) c.in-Some.is c.requires.unwritten in
    let known : digits_at nodes n ≡ digits = sym (read (λ (x : Node). x.digits) nodes n n digits no_node refl c.digits.ensures) in
    let all = (counters nodes c.args.kernel.now.made).counting n c.requires.node (counts_then (kind_at nodes n) state.0 (λ q. c.in_default-kind.not-Hold (kind ∙ q))) in
    let wide : s.width ≡ bits_of digits = state.1.width ∙ all.bits ∙ ap bits_of known in
    record {
      sound = c.requires.sound;
      register = state.1.register;
      signal = state.1.signal;
      unwritten = free;
      digits = subst (λ (ds : List CounterDigit). All IsDigit ds) known all.digits;
      some = some_counter digits s.width state.1.signal.some wide;
      wide = wide;
      nets = c.requires.nets;
      small = c.requires.small;
    }

pub returns-in-Hold : goal.returns-in-Hold
returns-in-Hold c =
    let m = c.args.netlist.now in
    let nodes = c.args.kernel.now.nodes in
    let n = c.args.node in
    let s = c.in-Some.register in
    let words = c.args.words.now in
    let by = c.args.nets in
    let kind = ap (λ (v : NodeView). v.kind) (view_read nodes n n c.node.result refl c.node.ensures) in
    let state = subst (IsState m nodes n) c.in-Some.is c.requires.state in
    on_ok_both c.close_register.result (λ closes takes.
    one_state nodes n c.args.time (word_at words n) by c.args.state s closes state.0 (omega arith) c.in-Some.is
    (λ q. absurd (holds_not_count (kind_at nodes n) (sym kind ∙ c.in-Hold.is) q))
    (λ q. subst (λ k. IsClearable c.close_register.new.netlist by.run.net by.reset.net (word_at words k).net s.net) c.index.ensures.number takes))
    c.close_register.ensures.closes c.close_register.ensures.takes

pub returns-in_default-kind : goal.returns-in_default-kind
returns-in_default-kind c =
    let m = c.args.netlist.now in
    let new = c.close_counter.new.netlist in
    let nodes = c.args.kernel.now.nodes in
    let n = c.args.node in
    let s = c.in-Some.register in
    let by = c.args.nets in
    let digits = c.digits.result.now in
    let kind = ap (λ (v : NodeView). v.kind) (view_read nodes n n c.node.result refl c.node.ensures) in
    let state = subst (IsState m nodes n) c.in-Some.is c.requires.state in
    let known : digits ≡ digits_at nodes n = read (λ (x : Node). x.digits) nodes n n digits no_node refl c.digits.ensures in
    on_ok_both c.close_counter.result (λ closes steps.
    one_state nodes n c.args.time (word_at c.args.words.now n) by c.args.state s closes state.0
    (let size = ap (λ (ds : List CounterDigit). length ds) known in omega (arith, size)) c.in-Some.is
    (λ q. subst (λ ds. IsStepping new by.run.net by.reset.net by.position.net c.args.time (state_after ds) s.net) known steps)
    (λ q. absurd (c.in_default-kind.not-Hold (kind ∙ q))))
    c.close_counter.ensures.closes c.close_counter.ensures.steps
