use Rattle.std.proofs.Common.{◌≡◌, ◌∙◌, ◌+◌, ◌<◌, List, ℕ, length, get_or, slice_set, Option, Some, None, refl, ap, sym, subst, arith}
use Rattle.stream_graph.proofs.NodeLemmas.{orderly}
use Rattle.kernel_types.proofs.Typing.{typed}
use Rattle.kernel_wiring.proofs.Readable.{node_in}
use Rattle.kernel_wiring.proofs.Stepping.{AreWired, none_yet, timing_kept, kept_there, readable, wires_more, given_more, all_wired}
use Rattle.rtl_build.specs.declared.signal.Signal.{Signal}
use Rattle.kernel_wiring.specs.OneNode.{AddsWord}
use Rattle.kernel_wiring.proofs.wiring.add_nodes.Goals as goal
use Rattle.kernel_wiring.proofs.wiring.add_nodes.Goals.{in-Some, in_default}

pub loop-node-init : goal.loop-node-init
loop-node-init c = record {
  wired = none_yet c.args.kernel.now.nodes c.args.layout.now c.args.late.now c.args.timing.now c.args.netlist.now c.args.words.now
      c.requires.sound;
}

pub node_word-requires-clause-node : goal.node_word-requires-clause-node
node_word-requires-clause-node c =
    let nodes = c.args.kernel.now.nodes in
    let made = c.args.kernel.now.made in
    let layout = c.args.layout.now in
    let same : c.as_slice-node-items.result.now ≡ layout.order = c.as_slice-node-items.ensures in
    let lt : c.loop-node.node-index < length layout.order = subst (λ (xs : List ℕ). c.loop-node.node-index < length xs) same c.loop-node-test.true in
    let e : c.new-id.result ≡ get_or layout.order c.loop-node.node-index 0 = c.new-id.ensures ∙ ap (λ xs. get_or xs c.loop-node.node-index 0) same in
    subst (λ v. v < length nodes) (sym e) (node_in nodes (orderly nodes made) (typed nodes made) layout c.requires.layout c.loop-node.node-index lt)

pub node_word-requires-clause-readable : goal.node_word-requires-clause-readable
node_word-requires-clause-readable c =
    let nodes = c.args.kernel.now.nodes in
    let made = c.args.kernel.now.made in
    let layout = c.args.layout.now in
    let same : c.as_slice-node-items.result.now ≡ layout.order = c.as_slice-node-items.ensures in
    let lt : c.loop-node.node-index < length layout.order = subst (λ (xs : List ℕ). c.loop-node.node-index < length xs) same c.loop-node-test.true in
    let e : c.new-id.result ≡ get_or layout.order c.loop-node.node-index 0 = c.new-id.ensures ∙ ap (λ xs. get_or xs c.loop-node.node-index 0) same in
    readable nodes (orderly nodes made)
    (typed nodes made) layout c.requires.layout c.args.late.now c.args.timing.now c.args.netlist.now c.args.words.now c.requires.late c.requires.given
    c.loop-node.netlist c.loop-node.words c.loop-node.node-index c.new-id.result lt e c.loop-node.invariant.wired

pub node_word-requires-clause-timing : goal.node_word-requires-clause-timing
node_word-requires-clause-timing c = timing_kept c.loop-node.invariant.wired.wires.extends c.requires.timing

pub node_word-requires-clause-kept : goal.node_word-requires-clause-kept
node_word-requires-clause-kept c =
    let nodes = c.args.kernel.now.nodes in
    let made = c.args.kernel.now.made in
    let layout = c.args.layout.now in
    let same : c.as_slice-node-items.result.now ≡ layout.order = c.as_slice-node-items.ensures in
    let lt : c.loop-node.node-index < length layout.order = subst (λ (xs : List ℕ). c.loop-node.node-index < length xs) same c.loop-node-test.true in
    let e : c.new-id.result ≡ get_or layout.order c.loop-node.node-index 0 = c.new-id.ensures ∙ ap (λ xs. get_or xs c.loop-node.node-index 0) same in
    kept_there nodes (orderly nodes made)
    (typed nodes made) layout c.requires.layout c.args.late.now c.args.timing.now c.args.netlist.now c.args.words.now c.requires.late c.requires.given
    c.loop-node.netlist c.loop-node.words c.loop-node.node-index c.new-id.result lt e c.loop-node.invariant.wired

none_of : (o : Option Signal) → ((s : Signal) → o ≡ Some s → ⊥) → o ≡ None
none_of None h = refl
none_of (Some s) h = absurd (h s refl)

pub loop-node-preserved : goal.loop-node-preserved
loop-node-preserved c =
    let nodes = c.args.kernel.now.nodes in
    let made = c.args.kernel.now.made in
    let layout = c.args.layout.now in
    let late = c.args.late.now in
    let timing = c.args.timing.now in
    let old = c.args.netlist.now in
    let new = c.node_word.new.netlist in
    let k = c.loop-node.node-index in
    let before = c.loop-node.words in
    let same : c.as_slice-node-items.result.now ≡ layout.order = c.as_slice-node-items.ensures in
    let lt : k < length layout.order = subst (λ (xs : List ℕ). k < length xs) same c.loop-node-test.true in
    let e : c.new-id.result ≡ get_or layout.order k 0 = c.new-id.ensures ∙ ap (λ xs. get_or xs k 0) same in
    let added = c.in_ok-word.ensures in
    elim c.match-word.branch [
      | in-Some w ↦ record {
        wired =
            let is = w.words-is ∙ ap (λ i. slice_set before i w.in-Some.word) w.index.ensures.number in
            subst (λ ws. AreWired nodes layout late timing old new c.args.words.now ws (k + 1)) (sym is)
            (wires_more nodes (orderly nodes made)
            (typed nodes made) layout c.requires.layout late timing old c.args.words.now c.requires.late c.requires.given
            c.loop-node.netlist new before k c.new-id.result
            w.in-Some.word lt e c.loop-node.invariant.wired
            (subst (λ x. AddsWord c.loop-node.netlist new nodes layout late before timing c.new-id.result x) w.in-Some.is added));
      }
      | in_default w ↦ record {
        wired = subst (λ ws. AreWired nodes layout late timing old new c.args.words.now ws (k + 1)) (sym w.words-is)
            (given_more nodes (orderly nodes made)
            (typed nodes made) layout c.requires.layout late timing old c.args.words.now c.requires.late c.requires.given
            c.loop-node.netlist new before k c.new-id.result
            lt e c.loop-node.invariant.wired
            (subst (λ x. AddsWord c.loop-node.netlist new nodes layout late before timing c.new-id.result x)
            (none_of c.in_ok-word.word w.in_default.not-Some) added));
      }
    ]

pub returns : goal.returns
returns c =
    let nodes = c.args.kernel.now.nodes in
    let made = c.args.kernel.now.made in
    let layout = c.args.layout.now in
    let size = ap length c.as_slice-node-items.ensures in
    let most = c.loop-node.auto.node-index-end in
    let end = c.loop-node-test.false in
    all_wired nodes (orderly nodes made)
    (typed nodes made) layout c.requires.layout c.args.late.now c.args.timing.now c.args.netlist.now c.args.words.now c.requires.late c.requires.given
    c.loop-node.netlist c.loop-node.words
    c.loop-node.node-index (omega (arith, size, most, end)) c.loop-node.invariant.wired
