use Rattle.std.proofs.Common.{◌≡◌, ◌∙◌, length, take, drop, ◌++◌, sym, ap, subst, arith}
use Rattle.stream_graph.proofs.NodeLemmas.{orderly}
use Rattle.kernel_control.specs.Outputs.{AreUndriven}
use Rattle.kernel_states.specs.States.{AreStates}
use Rattle.kernel_wiring.specs.Words.{AreGiven, AreLate}
use Rattle.kernel_rtl.specs.Words.{AreGivenWords, late_signals, data_nets, AddsWords}
use Rattle.kernel_rtl.proofs.Giving.{changed}
use Rattle.kernel_rtl.proofs.Wording.{are_late, are_given, are_there, may_drive, still_undriven, words_added, nodes_named, may_named, drives_named}
use Rattle.kernel_rtl.proofs.words.add_words.Goals as goal

pub given_words-requires-clause-streams : goal.given_words-requires-clause-streams
given_words-requires-clause-streams c = (c.args.netlist.now, c.requires.streams)

pub given_words-requires-clause-states : goal.given_words-requires-clause-states
given_words-requires-clause-states c =
    (c.args.netlist.now, subst (AreStates c.args.netlist.now c.args.kernel.now.nodes) (sym c.as_slice-2.ensures) c.requires.states)

pub add_nodes-requires-clause-late : goal.add_nodes-requires-clause-late
add_nodes-requires-clause-late c =
    let m = c.args.netlist.now in
    let nodes = c.args.kernel.now.nodes in
    let layout = c.args.layout.now in
    let q = c.requires in
    subst (AreLate m nodes layout) (sym (c.as_slice-3.ensures.value ∙ c.in_ok-late.ensures ∙ ap late_signals c.as_slice.ensures))
    (are_late m nodes layout c.args.storage.now.delays q.layout.is.waits.counted q.late q.wide q.delays)

pub add_nodes-requires-clause-given : goal.add_nodes-requires-clause-given
add_nodes-requires-clause-given c =
    let m = c.args.netlist.now in
    let nodes = c.args.kernel.now.nodes in
    let ports = c.args.ports.now in
    let states = c.args.storage.now.states in
    let words = c.in_ok-words.words.items in
    subst (AreGiven m nodes) (sym c.as_mut_slice.ensures.value)
    (are_given m nodes ports states words c.requires.streams c.requires.states
    (subst (λ ss. AreGivenWords nodes ports ss words) c.as_slice-2.ensures c.in_ok-words.ensures))

pub drive_words-requires-clause-outputs : goal.drive_words-requires-clause-outputs
drive_words-requires-clause-outputs c =
    let m = c.args.netlist.now in
    let n = c.add_nodes.new.netlist in
    let nodes = c.args.kernel.now.nodes in
    let ports = c.args.ports.now in
    let words = c.in_ok-words.words.items in
    let after = c.add_nodes.new.words in
    let a = c.in_ok-add_nodes.ensures in
    let size = c.in_ok-words.ensures.counted in
    let given : length c.as_mut_slice.result.now ≡ length nodes = ap length c.as_mut_slice.ensures.value ∙ size in
    let same : take c.in_ok-words.words.len (after ++ drop (length after) words) ≡ after =
    changed c.in_ok-words.words.len after words (let x = a.counted in let y = c.in_ok-words.words.ok in omega (arith, x, y, given, size)) in
    may_named n after c.as_slice-4.result.now ports.outputs c.as_slice-5.result.now (c.as_slice-4.ensures.value ∙ same) c.as_slice-5.ensures
    (may_drive m n nodes c.args.layout.now c.as_slice-3.result.now c.args.timing.now c.as_mut_slice.result.now after ports c.requires.streams given a)

pub drive_words-requires-clause-undriven : goal.drive_words-requires-clause-undriven
drive_words-requires-clause-undriven c =
    let m = c.args.netlist.now in
    let n = c.add_nodes.new.netlist in
    subst (λ l. AreUndriven n (data_nets l)) (sym c.as_slice-5.ensures)
    (still_undriven m n c.args.kernel.now.nodes c.args.layout.now c.as_slice-3.result.now c.args.timing.now c.as_mut_slice.result.now c.add_nodes.new.words
    c.args.ports.now c.requires.streams c.in_ok-add_nodes.ensures c.requires.undriven)

pub returns : goal.returns
returns c =
    let m = c.args.netlist.now in
    let n = c.add_nodes.new.netlist in
    let end = c.drive_words.new.netlist in
    let kernel = c.args.kernel.now in
    let nodes = kernel.nodes in
    let layout = c.args.layout.now in
    let ports = c.args.ports.now in
    let storage = c.args.storage.now in
    let timing = c.args.timing.now in
    let words = c.in_ok-words.words.items in
    let after = c.add_nodes.new.words in
    let q = c.requires in
    let given = subst (λ ss. AreGivenWords nodes ports ss words) c.as_slice-2.ensures c.in_ok-words.ensures in
    let a = nodes_named m n nodes layout c.as_slice-3.result.now (late_signals storage.delays) timing c.as_mut_slice.result.now words after
    (c.as_slice-3.ensures.value ∙ c.in_ok-late.ensures ∙ ap late_signals c.as_slice.ensures)
    c.as_mut_slice.ensures.value c.in_ok-add_nodes.ensures in
    let same : take c.in_ok-words.words.len (after ++ drop (length after) words) ≡ after =
    changed c.in_ok-words.words.len after words (let x = a.counted in let y = c.in_ok-words.words.ok in omega (arith, x, y)) in
    let d = drives_named n end c.as_slice-4.result.now after c.as_slice-5.result.now ports.outputs (c.as_slice-4.ensures.value ∙ same) c.as_slice-5.ensures
    c.in_ok-drive_words.ensures in
    let late = are_late m nodes layout storage.delays q.layout.is.waits.counted q.late q.wide q.delays in
    let there = are_there m nodes layout (late_signals storage.delays) after (orderly nodes kernel.made) q.layout late (a.counted ∙ given.counted) in
    subst (AddsWords m end nodes layout ports storage timing) (sym same)
    (words_added m n end nodes layout ports storage timing words after q.streams q.states given a d there)
