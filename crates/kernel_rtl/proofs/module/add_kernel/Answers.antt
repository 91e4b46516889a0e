use Rattle.std.proofs.Common.{ℕ, ◌+◌, ◌*◌, ◌<◌, ◌≤◌, ◌^◌, ◌∙◌, List, length, sym, ap, subst, arith}
use Rattle.std.specs.Prelude.{slice_index}
use Rattle.cycle_find.specs.Constraints.{numbers_of}
use Rattle.rtl_ir.specs.declared.design.Module.{Module}
use Rattle.rtl_build.specs.declared.signal.Signal.{Signal}
use Rattle.rtl_delays.specs.Partial.{IsPartial}
use Rattle.rtl_delays.specs.Stored.{stored_bits}
use Rattle.rtl_delays.proofs.Extends.{extends_on}
use Rattle.rtl_reading.specs.Reads.{IsPortsFirst}
use Rattle.stream_graph.proofs.NodeLemmas.{orderly}
use Rattle.offset_edges.proofs.EdgeLemmas.{edges_are}
use Rattle.kernel_control.specs.Nets.{AreControlNets, told_nets}
use Rattle.kernel_control.specs.Outputs.{AreUndriven}
use Rattle.kernel_control.specs.Refines.{Refines}
use Rattle.kernel_stages.specs.Numbers.{ring_count}
use Rattle.kernel_stages.specs.Chains.{joined, ring_delays, AreFreeIn}
use Rattle.kernel_stages.specs.Closing.{MayFollowWords, LeavesOthers}
use Rattle.kernel_states.specs.States.{AreStates, AreFree as AreFreeStates}
use Rattle.kernel_states.specs.Closing.{HaveWords}
use Rattle.kernel_wiring.specs.Timing.{time_at}
use Rattle.kernel_rtl.specs.Planned.{times_of, most_nets}
use Rattle.kernel_rtl.specs.Words.{late_signals}
use Rattle.kernel_rtl.specs.Handshakes.{enable_at, handshakes_of, control_nets}
use Rattle.kernel_rtl.proofs.Starting.{all_stand, are_rising, states_on}
use Rattle.kernel_rtl.proofs.Joining.{
  streams_on,
  data_undriven,
  is_timing,
  told_undriven,
  control_nets_stand,
  handshakes_stand,
  inputs_timed,
  outputs_timed,
  delays_free,
  states_free,
  advance_nets,
  words_follow,
  have_words,
  small_times,
  there_named,
  controls_named,
  control_named,
  states_named,
}
use Rattle.kernel_rtl.proofs.PortsFirst.{ports_first}
use Rattle.kernel_rtl.proofs.Whole.{ClosesDelays, closed_named, stored, refines}
use Rattle.kernel_rtl.proofs.Sizes.{net_count}
use Rattle.kernel_rtl.proofs.Memories.{mem_count}
use Rattle.kernel_rtl.proofs.module.add_kernel.Goals as goal

pub start_storage-requires-clause-waits : goal.start_storage-requires-clause-waits
start_storage-requires-clause-waits c = are_rising c.args.kernel.now.nodes (numbers_of c.args.times.now) c.args.layout.now c.requires.planned

pub add_words-requires-clause-streams : goal.add_words-requires-clause-streams
add_words-requires-clause-streams c =
    streams_on c.args.kernel.now c.args.netlist.now c.start_storage.new.netlist c.args.ports.now c.requires.made
    c.in_ok-storage.ensures.extends

pub add_words-requires-clause-undriven : goal.add_words-requires-clause-undriven
add_words-requires-clause-undriven c =
    data_undriven c.args.kernel.now c.args.netlist.now c.start_storage.new.netlist c.args.ports.now c.requires.made
    c.args.layout.now c.in_ok-storage.storage c.in_ok-storage.ensures

pub add_words-requires-clause-delays : goal.add_words-requires-clause-delays
add_words-requires-clause-delays c =
    let b = c.start_storage.new.netlist in
    let s = c.in_ok-storage.ensures in
    all_stand b s.between s.memory (joined c.in_ok-storage.storage.delays) (length b.nets) (length b.mems) s.free

pub add_words-requires-clause-timing : goal.add_words-requires-clause-timing
add_words-requires-clause-timing c =
    let kernel = c.args.kernel.now in
    let timing = c.in_ok-timing.timing in
    let e = c.in_ok-timing.ensures in
    is_timing kernel c.args.netlist.now c.start_storage.new.netlist c.args.ports.now c.requires.made
    c.args.layout.now c.in_ok-storage.storage c.in_ok-storage.ensures timing e.position e.ticks e.counted
    (small_times kernel.nodes c.args.times.now c.args.layout.now timing c.requires.planned e.times)

pub port_controls-requires-clause-reads : goal.port_controls-requires-clause-reads
port_controls-requires-clause-reads c =
    there_named c.args.kernel.now.nodes c.args.layout.now (late_signals c.in_ok-storage.storage.delays) c.as_slice.result.now c.in_ok-added.added.items
    c.as_slice-words.result.now
    (c.as_slice.ensures.value ∙ c.in_ok-late.ensures ∙ ap late_signals c.as_slice-delays.ensures) c.as_slice-words.ensures.value
    c.in_ok-added.ensures.there

pub control-requires-clause-inputs : goal.control-requires-clause-inputs
control-requires-clause-inputs c =
    let kernel = c.args.kernel.now in
    let timing = c.in_ok-timing.timing in
    let e = c.in_ok-timing.ensures in
    inputs_timed kernel c.args.netlist.now c.start_storage.new.netlist c.args.ports.now c.requires.made
    c.args.layout.now c.in_ok-storage.storage c.in_ok-storage.ensures c.args.layout.now timing c.add_words.new.netlist c.in_ok-added.added.items
    c.in_ok-added.ensures c.as_slice-2.result.now
    (controls_named kernel.nodes c.args.layout.now c.as_slice.result.now (late_signals c.in_ok-storage.storage.delays) c.as_slice-words.result.now
    c.in_ok-added.added.items c.in_ok-enables.enables.items c.as_slice-2.result.now
    (c.as_slice.ensures.value ∙ c.in_ok-late.ensures ∙ ap late_signals c.as_slice-delays.ensures) c.as_slice-words.ensures.value
    c.as_slice-2.ensures.value c.in_ok-enables.ensures)
    (small_times kernel.nodes c.args.times.now c.args.layout.now timing c.requires.planned e.times) e.counted

pub control-requires-clause-outputs : goal.control-requires-clause-outputs
control-requires-clause-outputs c =
    let kernel = c.args.kernel.now in
    let timing = c.in_ok-timing.timing in
    let e = c.in_ok-timing.ensures in
    outputs_timed kernel c.args.netlist.now c.start_storage.new.netlist c.args.ports.now c.requires.made
    c.args.layout.now c.in_ok-storage.storage c.in_ok-storage.ensures c.args.layout.now timing c.add_words.new.netlist c.in_ok-added.added.items
    c.in_ok-added.ensures c.as_slice-2.result.now
    (controls_named kernel.nodes c.args.layout.now c.as_slice.result.now (late_signals c.in_ok-storage.storage.delays) c.as_slice-words.result.now
    c.in_ok-added.added.items c.in_ok-enables.enables.items c.as_slice-2.result.now
    (c.as_slice.ensures.value ∙ c.in_ok-late.ensures ∙ ap late_signals c.as_slice-delays.ensures) c.as_slice-words.ensures.value
    c.as_slice-2.ensures.value c.in_ok-enables.ensures)
    (small_times kernel.nodes c.args.times.now c.args.layout.now timing c.requires.planned e.times) e.counted

pub control-requires-clause-nets : goal.control-requires-clause-nets
control-requires-clause-nets c =
    let w = c.add_words.new.netlist in
    subst (λ (s : Signal). AreControlNets w (control_nets c.args.ports.now s)) (sym c.in_ok-timing.ensures.position)
    (control_nets_stand c.args.kernel.now c.args.netlist.now c.start_storage.new.netlist c.args.ports.now c.requires.made
    c.args.layout.now c.in_ok-storage.storage c.in_ok-storage.ensures c.args.layout.now c.in_ok-timing.timing w c.in_ok-added.added.items
    c.in_ok-added.ensures)

pub control-requires-clause-ports : goal.control-requires-clause-ports
control-requires-clause-ports c =
    let kernel = c.args.kernel.now in
    let timing = c.in_ok-timing.timing in
    handshakes_stand kernel c.args.netlist.now c.start_storage.new.netlist c.args.ports.now c.requires.made
    c.args.layout.now c.in_ok-storage.storage c.in_ok-storage.ensures c.args.layout.now timing c.add_words.new.netlist c.in_ok-added.added.items
    c.in_ok-added.ensures c.as_slice-2.result.now
    (controls_named kernel.nodes c.args.layout.now c.as_slice.result.now (late_signals c.in_ok-storage.storage.delays) c.as_slice-words.result.now
    c.in_ok-added.added.items c.in_ok-enables.enables.items c.as_slice-2.result.now
    (c.as_slice.ensures.value ∙ c.in_ok-late.ensures ∙ ap late_signals c.as_slice-delays.ensures) c.as_slice-words.ensures.value
    c.as_slice-2.ensures.value c.in_ok-enables.ensures)
    (small_times kernel.nodes c.args.times.now c.args.layout.now timing c.requires.planned c.in_ok-timing.ensures.times)

pub control-requires-clause-undriven : goal.control-requires-clause-undriven
control-requires-clause-undriven c =
    let w = c.add_words.new.netlist in
    let ports = c.args.ports.now in
    let timing = c.in_ok-timing.timing in
    let enables = enable_at c.as_slice-2.result.now in
    subst (λ (s : Signal). AreUndriven w (told_nets (control_nets ports s) (handshakes_of (time_at timing) enables ports)))
    (sym c.in_ok-timing.ensures.position)
    (told_undriven c.args.kernel.now c.args.netlist.now c.start_storage.new.netlist ports c.requires.made
    c.args.layout.now c.in_ok-storage.storage c.in_ok-storage.ensures c.args.layout.now timing w c.in_ok-added.added.items
    c.in_ok-added.ensures (time_at timing) enables)

pub close_stages-requires-clause-reset : goal.close_stages-requires-clause-reset
close_stages-requires-clause-reset c =
    let all = extends_on c.in_ok-storage.ensures.extends (extends_on c.in_ok-added.ensures.extends c.in_ok-run.ensures.extends) in
    all.keeps c.args.ports.now.reset c.requires.made.reset.signal

pub close_stages-requires-clause-free : goal.close_stages-requires-clause-free
close_stages-requires-clause-free c =
    let storage = c.in_ok-storage.storage in
    let ports = c.args.ports.now in
    let w = c.add_words.new.netlist in
    let t = c.control.new.netlist in
    let timing = c.in_ok-timing.timing in
    let hs = handshakes_of (time_at timing) (enable_at c.as_slice-2.result.now) ports in
    subst (λ es. AreFreeIn t (joined es)) (sym c.as_slice-delays.ensures)
    (delays_free c.args.kernel.now c.args.netlist.now c.start_storage.new.netlist ports c.requires.made
    c.args.layout.now storage c.in_ok-storage.ensures c.args.layout.now timing w c.in_ok-added.added.items c.in_ok-added.ensures t hs c.in_ok-run.run'
    (control_named w t ports timing storage.position hs c.in_ok-run.run' c.in_ok-timing.ensures.position c.in_ok-run.ensures))

pub close_stages-requires-clause-nodes : goal.close_stages-requires-clause-nodes
close_stages-requires-clause-nodes c =
    let a = ap length c.as_slice-words.ensures.value in
    let b = ap length c.as_slice-delays.ensures in
    let counted = c.in_ok-added.ensures.counted in
    let long = c.in_ok-storage.ensures.late.counted in
    let all = c.requires.planned.laid.waits.counted in
    omega (arith, a, b, counted, long, all)

pub close_stages-requires-clause-words : goal.close_stages-requires-clause-words
close_stages-requires-clause-words c =
    let kernel = c.args.kernel.now in
    let storage = c.in_ok-storage.storage in
    let words = c.in_ok-added.added.items in
    let n = c.control.new.netlist in
    let o = orderly kernel.nodes kernel.made in
    subst (λ ws. MayFollowWords n ws c.as_slice-delays.result.now) (sym c.as_slice-words.ensures.value)
    (subst (λ es. MayFollowWords n words es) (sym c.as_slice-delays.ensures)
    (words_follow kernel.nodes (numbers_of c.args.times.now) c.args.layout.now c.args.ports.now storage c.in_ok-timing.timing words
    c.start_storage.new.netlist c.add_words.new.netlist n c.requires.planned
    (edges_are kernel.nodes o kernel.few) c.in_ok-storage.ensures.late c.in_ok-storage.ensures.widths c.in_ok-added.ensures
    c.in_ok-run.ensures.extends))

pub close_states-requires-clause-states : goal.close_states-requires-clause-states
close_states-requires-clause-states c =
    let kernel = c.args.kernel.now in
    let storage = c.in_ok-storage.storage in
    let e = c.close_stages.new.netlist in
    let from_b = extends_on c.in_ok-added.ensures.extends (extends_on c.in_ok-run.ensures.extends c.in_ok-close_stages.ensures.extends) in
    subst (AreStates e kernel.nodes) (sym c.as_slice-states.ensures)
    (states_on c.start_storage.new.netlist e kernel.nodes storage.states from_b c.in_ok-storage.ensures.states)

pub close_states-requires-clause-free : goal.close_states-requires-clause-free
close_states-requires-clause-free c =
    let storage = c.in_ok-storage.storage in
    let s = c.in_ok-storage.ensures in
    let ports = c.args.ports.now in
    let w = c.add_words.new.netlist in
    let t = c.control.new.netlist in
    let e = c.close_stages.new.netlist in
    let timing = c.in_ok-timing.timing in
    let hs = handshakes_of (time_at timing) (enable_at c.as_slice-2.result.now) ports in
    let others = subst (λ es. LeavesOthers t e (joined es)) c.as_slice-delays.ensures c.in_ok-close_stages.ensures.others in (
      storage.position.net + 1,
      s.between,
      subst (λ ss. AreFreeStates e (storage.position.net + 1) ss s.between) (sym c.as_slice-states.ensures)
          (states_free c.args.kernel.now c.args.netlist.now c.start_storage.new.netlist ports c.requires.made c.args.layout.now
          storage s c.args.layout.now timing w c.in_ok-added.added.items c.in_ok-added.ensures t hs c.in_ok-run.run'
          (control_named w t ports timing storage.position hs c.in_ok-run.run' c.in_ok-timing.ensures.position c.in_ok-run.ensures) e others),
    )

pub close_states-requires-clause-words : goal.close_states-requires-clause-words
close_states-requires-clause-words c =
    let kernel = c.args.kernel.now in
    let e = c.close_stages.new.netlist in
    let from_c = extends_on c.in_ok-run.ensures.extends c.in_ok-close_stages.ensures.extends in
    subst (HaveWords e kernel.nodes) (sym c.as_slice-words.ensures.value)
    (have_words kernel.nodes c.args.layout.now c.args.ports.now c.in_ok-storage.storage c.in_ok-timing.timing c.in_ok-added.added.items
    c.start_storage.new.netlist c.add_words.new.netlist e c.in_ok-added.ensures from_c)

pub close_states-requires-clause-times : goal.close_states-requires-clause-times
close_states-requires-clause-times c =
    let a = ap length c.as_slice-whole.ensures in
    let b = c.in_ok-timing.ensures.counted in
    omega (arith, a, b)

pub close_states-requires-clause-small : goal.close_states-requires-clause-small
close_states-requires-clause-small c = λ n lt.
    let kernel = c.args.kernel.now in
    let timing = c.in_ok-timing.timing in
    let le = small_times kernel.nodes c.args.times.now c.args.layout.now timing c.requires.planned c.in_ok-timing.ensures.times n lt in
    let same = ap (λ (ts : List ℕ). slice_index ts n) c.as_slice-whole.ensures in
    omega (arith, le, same)

pub close_states-requires-clause-nets : goal.close_states-requires-clause-nets
close_states-requires-clause-nets c =
    let storage = c.in_ok-storage.storage in
    let ports = c.args.ports.now in
    let w = c.add_words.new.netlist in
    let t = c.control.new.netlist in
    let timing = c.in_ok-timing.timing in
    let hs = handshakes_of (time_at timing) (enable_at c.as_slice-2.result.now) ports in
    advance_nets c.args.kernel.now c.args.netlist.now c.start_storage.new.netlist ports c.requires.made c.args.layout.now
    storage c.in_ok-storage.ensures c.args.layout.now timing w c.in_ok-added.added.items c.in_ok-added.ensures t hs c.in_ok-run.run'
    (control_named w t ports timing storage.position hs c.in_ok-run.run' c.in_ok-timing.ensures.position c.in_ok-run.ensures)
    c.close_stages.new.netlist c.in_ok-close_stages.ensures.extends

pub returns-clause-refines : goal.returns-clause-refines
returns-clause-refines c = λ nets mems.
    let kernel = c.args.kernel.now in
    let layout = c.args.layout.now in
    let storage = c.in_ok-storage.storage in
    let timing = c.in_ok-timing.timing in
    let timed = c.in_ok-timing.ensures in
    let words = c.in_ok-added.added.items in
    let ports = c.args.ports.now in
    let a = c.args.netlist.now in
    let b = c.start_storage.new.netlist in
    let w = c.add_words.new.netlist in
    let t = c.control.new.netlist in
    let e = c.close_stages.new.netlist in
    let f = c.close_states.new.netlist in
    let run = c.in_ok-run.run' in
    let z = c.in_ok-close_stages.ensures in
    let enables = c.as_slice-2.result.now in
    let hs = handshakes_of (time_at timing) (enable_at enables) ports in
    let closed : ClosesDelays t e run.net ports.reset.net words storage.delays =
    closed_named t e run.net ports.reset.net words c.as_slice-words.result.now storage.delays c.as_slice-delays.result.now c.as_slice-words.ensures.value
    c.as_slice-delays.ensures
    (record { extends = z.extends; still = z.still; others = z.others; written = z.written; registers = z.registers; stored = z.stored; late = z.delays }) in
    let digits = c.digits_are_sound.ensures in
    refines kernel layout c.args.times.now a b w t e f ports storage timing words enables run c.requires.planned (orderly kernel.nodes kernel.made)
    digits.counting c.chains_by_ticks.ensures.parts
    c.requires.made c.in_ok-storage.ensures timed.position timed.ticks timed.times c.in_ok-added.ensures
    (controls_named kernel.nodes layout c.as_slice.result.now (late_signals storage.delays) c.as_slice-words.result.now words
    c.in_ok-enables.enables.items enables
    (c.as_slice.ensures.value ∙ c.in_ok-late.ensures ∙ ap late_signals c.as_slice-delays.ensures) c.as_slice-words.ensures.value
    c.as_slice-2.ensures.value c.in_ok-enables.ensures)
    (control_named w t ports timing storage.position hs run timed.position c.in_ok-run.ensures) closed
    (states_named e f kernel.nodes c.as_slice-whole.result.now timing.times c.as_slice-words.result.now words
    (record { run = run; reset = ports.reset; position = storage.position }) c.as_slice-states.result.now storage.states c.as_slice-whole.ensures
    c.as_slice-words.ensures.value c.as_slice-states.ensures c.in_ok-close_states.ensures)
    nets mems

pub returns-clause-ports_first : goal.returns-clause-ports_first
returns-clause-ports_first c =
    let all = extends_on c.in_ok-storage.ensures.extends (extends_on c.in_ok-added.ensures.extends
    (extends_on c.in_ok-run.ensures.extends (extends_on c.in_ok-close_stages.ensures.extends c.in_ok-close_states.ensures.extends))) in
    ports_first c.args.netlist.now c.close_states.new.netlist all c.requires.made.alone.partial

pub returns-clause-stored : goal.returns-clause-stored
returns-clause-stored c =
    stored c.args.netlist.now c.start_storage.new.netlist c.add_words.new.netlist c.control.new.netlist c.close_stages.new.netlist
    c.close_states.new.netlist c.args.kernel.now.nodes c.args.layout.now c.in_ok-storage.storage c.requires.made.alone
    c.in_ok-storage.ensures c.in_ok-added.ensures.stored c.in_ok-run.ensures.stored c.in_ok-close_stages.ensures.stored
    c.in_ok-close_states.ensures.stored

pub returns-clause-nets : goal.returns-clause-nets
returns-clause-nets c =
    let kernel = c.args.kernel.now in
    let layout = c.args.layout.now in
    let storage = c.in_ok-storage.storage in
    let t = c.control.new.netlist in
    let e = c.close_stages.new.netlist in
    let closed = subst (λ es. length e.nets ≤ length t.nets + 8 * ring_delays (joined es)) c.as_slice-delays.ensures c.in_ok-close_stages.ensures.nets in
    net_count kernel (time_at c.in_ok-timing.timing) (enable_at c.as_slice-2.result.now) layout c.args.netlist.now c.start_storage.new.netlist
    c.add_words.new.netlist t e c.close_states.new.netlist c.args.ports.now storage c.requires.made c.in_ok-storage.ensures
    c.in_ok-added.ensures.nets c.in_ok-run.ensures.added closed c.in_ok-close_states.ensures.nets

pub returns-clause-mems : goal.returns-clause-mems
returns-clause-mems c =
    let layout = c.args.layout.now in
    let z = c.in_ok-close_stages.ensures in
    mem_count c.args.netlist.now c.start_storage.new.netlist c.add_words.new.netlist c.control.new.netlist c.close_stages.new.netlist
    c.close_states.new.netlist c.args.kernel.now.nodes layout c.in_ok-storage.storage c.requires.made.alone c.in_ok-storage.ensures
    c.in_ok-added.ensures.extends c.in_ok-run.ensures.extends z.extends
    c.in_ok-added.ensures.stored c.in_ok-run.ensures.stored z.stored c.in_ok-close_states.ensures.mems

pub returns-clause-partial : goal.returns-clause-partial
returns-clause-partial c =
    let all = extends_on c.in_ok-storage.ensures.extends (extends_on c.in_ok-added.ensures.extends
    (extends_on c.in_ok-run.ensures.extends (extends_on c.in_ok-close_stages.ensures.extends c.in_ok-close_states.ensures.extends))) in
    all.partial c.requires.made.alone.partial
