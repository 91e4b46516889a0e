-- What each step of a kernel's module asks for, from what the steps before it left.
use Rattle.std.proofs.Common.{
  ◌≡◌,
  ◌⊎◌,
  inl,
  inr,
  ℕ,
  ◌+◌,
  ◌<◌,
  ◌≤◌,
  ◌^◌,
  true,
  false,
  eqb,
  List,
  [],
  ◌∷◌,
  map,
  length,
  get_or,
  Option,
  None,
  refl,
  sym,
  ap,
  ◌∙◌,
  subst,
  arith,
  ⊎_elim,
}
use Rattle.std.specs.Prelude.{ℤ, pos, All, slice_index}
use Rattle.std.proofs.lemmas.Bool.{cases_Bool, false≢true}
use Rattle.std.proofs.lemmas.List.Elements.{All-append}
use Rattle.std.proofs.lemmas.List.{get_or_default}
use Rattle.cycle_find.specs.Constraints.{Numbers, numbers_of}
use Rattle.rtl_ir.specs.declared.design.Module.{Module}
use Rattle.rtl_build.specs.declared.signal.Signal.{Signal}
use Rattle.rtl_delays.specs.Extends.{Extends}
use Rattle.rtl_delays.specs.Driven.{is_driven, KeepsUndriven}
use Rattle.rtl_delays.specs.Steps.{writes_reg}
use Rattle.rtl_delays.proofs.Extends.{more_nets, extends_on}
use Rattle.rtl_delays.proofs.Started.{frees_kept, frees_left}
use Rattle.stream_graph.specs.declared.kernel.Kernel.{Kernel}
use Rattle.stream_graph.specs.declared.node.Kind.{Kind}
use Rattle.stream_graph.specs.declared.node.Kind.TheVariants as K
use Rattle.stream_graph.specs.declared.node.Node.{Node}
use Rattle.stream_graph.specs.LookUps.{kind_at, width_at}
use Rattle.stream_graph.specs.Kinds.{is_offset}
use Rattle.offset_edges.specs.Edges.{edges_of, IsEdge}
use Rattle.kernel_control.specs.declared.handshakes.Handshake.{Handshake}
use Rattle.kernel_control.specs.Ports.{channels_of, inputs_of, outputs_of, ended_port, first_input, first_output}
use Rattle.kernel_control.specs.Nets.{HasWidth, HasBitOutput, MayEnable, IsHandshake, AreControlNets, told_ports, told_nets, nodes_of}
use Rattle.kernel_control.specs.Outputs.{AreUndriven, is_one_of}
use Rattle.kernel_control.proofs.Built.{nodes_channels}
use Rattle.kernel_layout.specs.declared.layout.Layout.{Layout}
use Rattle.kernel_layout.specs.Waits.{IsReadBehind, AreWaits}
use Rattle.kernel_ports.specs.declared.signals.NodeSignal.{NodeSignal}
use Rattle.kernel_ports.specs.declared.signals.StreamSignals.{StreamSignals}
use Rattle.kernel_ports.specs.declared.signals.KernelSignals.{KernelSignals}
use Rattle.kernel_ports.specs.HasKernelPorts.{channel_of, IsScalarPort, IsInputPort, IsOutputPort, HasKernelPorts}
use Rattle.kernel_stages.specs.Numbers.{waits_at}
use Rattle.kernel_stages.specs.Chains.{joined, word_at, delays_at, AreChains, AreWide, AreFreeIn}
use Rattle.kernel_stages.specs.Closing.{MayFollowWords, LeavesOthers}
use Rattle.kernel_stages.proofs.Chaining.{node_length}
use Rattle.kernel_states.specs.States.{AreFree as AreFreeStates}
use Rattle.kernel_states.specs.declared.registers.AdvanceNets.{AdvanceNets}
use Rattle.kernel_states.specs.Closing.{AreAdvanceNets, HaveWords, ClosesStates}
use Rattle.kernel_wiring.specs.declared.timing.Timing.{Timing}
use Rattle.kernel_wiring.specs.Timing.{IsTiming, time_at}
use Rattle.kernel_wiring.specs.Words.{has_word, signal_at}
use Rattle.kernel_wiring.specs.Controls.{AreThere, AreControls}
use Rattle.kernel_rtl.specs.declared.storage.Storage.{Storage}
use Rattle.kernel_rtl.specs.Planned.{IsPlanned, times_of, widths_of}
use Rattle.kernel_rtl.specs.Storage.{AddsStorage}
use Rattle.kernel_rtl.specs.Words.{late_signals, data_nets, HasStreams, AddsWords}
use Rattle.kernel_rtl.specs.Handshakes.{IsTimed, enable_at, input_handshake, output_handshake, handshakes_of, control_nets, AddsControl}
use Rattle.kernel_rtl.proofs.Numbers.{all_mapped, all_unmapped, all_weaker, all_both, IsNodeOf, inputs_are, outputs_are}
use Rattle.kernel_rtl.proofs.Running.{small_time}
use Rattle.kernel_rtl.proofs.Wording.{width_is}
use Rattle.kernel_rtl.proofs.Starting.{states_end, states_left, early_register}
use Rattle.kernel_rtl.proofs.Places.{AreNumbered, unequal, rise_under, undriven_from, ended_is, data_rise, told_rise, ended_other, told_other, ended_untold}

-- ---- ports in larger modules

width_on : (m n : Module) (w : ℕ) (s : Signal) → Extends m n → HasWidth m w s → HasWidth n w s
width_on m n w s e h = record { signal = e.keeps s h.signal; width = h.width }

output_on : (m n : Module) (s : Signal) → Extends m n → HasBitOutput m s → HasBitOutput n s
output_on m n s e h = record { output = e.outputs s h.output; bit = h.bit }

input_port_on : (m n : Module) (nodes : List Node) (s : StreamSignals) → Extends m n → IsInputPort nodes m s → IsInputPort nodes n s
input_port_on m n nodes s e h = record {
  word = width_on m n (width_at nodes s.node) s.word e h.word;
  valid = width_on m n 1 s.valid e h.valid;
  ready = output_on m n s.ready e h.ready;
}

output_port_on : (m n : Module) (nodes : List Node) (s : StreamSignals) → Extends m n → IsOutputPort nodes m s → IsOutputPort nodes n s
output_port_on m n nodes s e h = record {
  word = record { output = e.outputs s.word h.word.output; width = h.word.width };
  valid = output_on m n s.valid e h.valid;
  ready = width_on m n 1 s.ready e h.ready;
}

scalar_port_on : (m n : Module) (nodes : List Node) (s : NodeSignal) → Extends m n → IsScalarPort nodes m s → IsScalarPort nodes n s
scalar_port_on m n nodes s e h = record { signal = width_on m n (width_at nodes s.node) s.signal e h.signal }

pub nodes_by : (xs : List StreamSignals) → nodes_of (map channel_of xs) ≡ map (λ (s : StreamSignals). s.node) xs
nodes_by [] = refl
nodes_by (x ∷ xs) = ap (λ l. x.node ∷ l) (nodes_by xs)

pub inputs_at : (kernel : Kernel) (m : Module) (ports : KernelSignals) → HasKernelPorts kernel m ports
    → map channel_of ports.inputs ≡ channels_of m (first_input kernel.nodes) (inputs_of kernel.nodes)
inputs_at kernel m ports h = ap (λ q. q.inputs) (h.nets 0)

pub outputs_at : (kernel : Kernel) (m : Module) (ports : KernelSignals) → HasKernelPorts kernel m ports
    → map channel_of ports.outputs ≡ channels_of m (first_output kernel.nodes) (outputs_of kernel.nodes)
outputs_at kernel m ports h = ap (λ q. q.outputs) (h.nets 0)

pub input_nodes : (kernel : Kernel) (m : Module) (ports : KernelSignals) → HasKernelPorts kernel m ports
    → map (λ (s : StreamSignals). s.node) ports.inputs ≡ inputs_of kernel.nodes
input_nodes kernel m ports h =
    sym (nodes_by ports.inputs) ∙ ap nodes_of (inputs_at kernel m ports h) ∙ nodes_channels m (first_input kernel.nodes) (inputs_of kernel.nodes)

pub output_nodes : (kernel : Kernel) (m : Module) (ports : KernelSignals) → HasKernelPorts kernel m ports
    → map (λ (s : StreamSignals). s.node) ports.outputs ≡ outputs_of kernel.nodes
output_nodes kernel m ports h =
    sym (nodes_by ports.outputs) ∙ ap nodes_of (outputs_at kernel m ports h) ∙ nodes_channels m (first_output kernel.nodes) (outputs_of kernel.nodes)

pub input_kinds : (kernel : Kernel) (m : Module) (ports : KernelSignals) → HasKernelPorts kernel m ports
    → All (λ (x : StreamSignals). IsNodeOf kernel.nodes K.Input x.node) ports.inputs
input_kinds kernel m ports h =
    all_unmapped (λ (x : StreamSignals). x.node) (IsNodeOf kernel.nodes K.Input) ports.inputs
    (subst (All (IsNodeOf kernel.nodes K.Input)) (sym (input_nodes kernel m ports h)) (inputs_are kernel.nodes))

pub output_kinds : (kernel : Kernel) (m : Module) (ports : KernelSignals) → HasKernelPorts kernel m ports
    → All (λ (x : StreamSignals). IsNodeOf kernel.nodes K.Output x.node) ports.outputs
output_kinds kernel m ports h =
    all_unmapped (λ (x : StreamSignals). x.node) (IsNodeOf kernel.nodes K.Output) ports.outputs
    (subst (All (IsNodeOf kernel.nodes K.Output)) (sym (output_nodes kernel m ports h)) (outputs_are kernel.nodes))

pub streams_on : (kernel : Kernel) (m n : Module) (ports : KernelSignals) → HasKernelPorts kernel m ports → Extends m n → HasStreams n kernel.nodes ports
streams_on kernel m n ports h e = record {
  scalars = all_weaker (IsScalarPort kernel.nodes m) (IsScalarPort kernel.nodes n) ports.scalars h.scalars (λ s q. scalar_port_on m n kernel.nodes s e q);
  scalar_nodes = h.scalar_nodes;
  inputs = all_weaker (IsInputPort kernel.nodes m) (IsInputPort kernel.nodes n) ports.inputs h.inputs (λ s q. input_port_on m n kernel.nodes s e q);
  outputs = all_weaker (IsOutputPort kernel.nodes m) (IsOutputPort kernel.nodes n) ports.outputs h.outputs (λ s q. output_port_on m n kernel.nodes s e q);
  input_nodes = input_nodes kernel m ports h;
  output_nodes = output_nodes kernel m ports h;
}

pub numbered : (kernel : Kernel) (m : Module) (ports : KernelSignals) → HasKernelPorts kernel m ports
    → AreNumbered m kernel.nodes ports.inputs ports.outputs ports.ended.net
numbered kernel m ports h = record {
  partial = h.alone.partial;
  ports = h.ports;
  inputs = inputs_at kernel m ports h;
  outputs = outputs_at kernel m ports h;
  last = ap (λ q. q.ended) (h.nets 0);
}

-- ---- outputs without a value

none_driven : (m : Module) (k : ℕ) → m.assigns ≡ [] → is_driven k m.assigns ≡ false
none_driven m k e = ap (is_driven k) e

free_later : (m n : Module) → KeepsUndriven m n → m.assigns ≡ [] → (ns : List ℕ) → All (λ k. k < length m.nets) ns
    → All (λ k. is_driven k n.assigns ≡ false) ns
free_later m n keeps e ns h = all_weaker (λ k. k < length m.nets) (λ k. is_driven k n.assigns ≡ false) ns h (λ k lt. keeps k lt (none_driven m k e))

module _ (kernel : Kernel) (a b : Module) (ports : KernelSignals) (p : HasKernelPorts kernel a ports) (plan : Layout) (storage : Storage)
    (s : AddsStorage a b kernel.nodes plan storage) where
  nodes : List Node
  nodes = kernel.nodes

  n : AreNumbered a kernel.nodes ports.inputs ports.outputs ports.ended.net
  n = numbered kernel a ports p

  last_port : ended_port kernel.nodes < length a.nets
  last_port =
      let last = ended_is a kernel.nodes ports.inputs ports.outputs ports.ended.net n in
      let lt = p.ended.output.net in
      omega (arith, last, lt)

  pub data_undriven : AreUndriven b (data_nets ports.outputs)
  data_undriven =
      let rise = data_rise a kernel.nodes ports.inputs ports.outputs ports.ended.net n in
      let last = last_port in
      let under = all_weaker (λ k. k < ended_port kernel.nodes) (λ k. k < length a.nets) (data_nets ports.outputs)
      (rise_under (first_output kernel.nodes) (ended_port kernel.nodes) (data_nets ports.outputs) rise) (λ k lt. omega (arith, lt, last)) in
      undriven_from b (first_output kernel.nodes) (ended_port kernel.nodes) (data_nets ports.outputs) rise
      (free_later a b s.undriven p.alone.assigns (data_nets ports.outputs) under)

  -- by what the module knows in which tick a node is
  pub is_timing : (timing : Timing) → timing.position ≡ storage.position → timing.ticks ≡ ports.ticks → length timing.times ≡ length kernel.nodes
      → ((v : ℕ) → v < length kernel.nodes → time_at timing v ≤ 2 ^ 46) → IsTiming b kernel.nodes timing
  is_timing timing position ticks counted small = record {
    position = subst (HasWidth b 48) (sym position) (record { signal = s.wide.signal; width = s.wide.width });
    ticks = subst (HasWidth b 48) (sym ticks) (width_on a b 48 ports.ticks s.extends p.ticks);
    counted = counted;
    small = λ k d lt.
        subst (λ x. x ≤ 2 ^ 46) (get_or_default timing.times k 0 d lt) (small k (omega (arith, lt, counted)));
  }

  module _ (layout : Layout) (timing : Timing) (c : Module) (words : List Signal) (w : AddsWords b c kernel.nodes layout ports storage timing words) where
    free_at : (k : ℕ) → k < length a.nets → is_one_of (data_nets ports.outputs) k ≡ false → is_driven k c.assigns ≡ false
    free_at k lt other =
        let more = more_nets s.extends.grows in
        w.leaves k (omega (arith, lt, more)) (s.undriven k lt (none_driven a k p.alone.assigns)) other

    pub told_undriven : (times : ℕ → ℕ) (enables : ℕ → Option Signal)
        → AreUndriven c (told_nets (control_nets ports storage.position) (handshakes_of times enables ports))
    told_undriven times enables =
        let xs = ports.inputs in
        let ys = ports.outputs in
        let last = ports.ended.net in
        let ns = told_ports (handshakes_of times enables ports) in
        let rise = told_rise a kernel.nodes xs ys last n times enables in
        let top = last_port in
        let P : ℕ → Type 0 = λ k. k < ended_port kernel.nodes in
        let Q : ℕ → Type 0 = λ k. is_one_of (data_nets ys) k ≡ false in
        let both = all_both P Q ns (rise_under (first_input kernel.nodes) (ended_port kernel.nodes) ns rise)
        (told_other a kernel.nodes xs ys last n times enables) in
        let free : All (λ k. is_driven k c.assigns ≡ false) ns =
        all_weaker (λ k. P k × Q k) (λ k. is_driven k c.assigns ≡ false) ns both (λ k h. let lt = h.0 in free_at k (omega (arith, lt, top)) h.1) in (
          free_at last p.ended.output.net (ended_other a kernel.nodes xs ys last n),
          ended_untold a kernel.nodes xs ys last n times enables,
          undriven_from c (first_input kernel.nodes) (ended_port kernel.nodes) ns rise free,
        )

    -- ---- control

    to_c : Extends a c
    to_c = extends_on s.extends w.extends

    pub no_updates : c.updates ≡ []
    no_updates = w.updates ∙ s.updates ∙ p.alone.updates

    pub control_nets_stand : AreControlNets c (control_nets ports storage.position)
    control_nets_stand = record {
      position = record {
        signal = w.extends.keeps storage.position s.wide.signal;
        register = w.extends.registers storage.position s.wide.register;
        width = s.wide.width;
      };
      unwritten = ap (writes_reg storage.position.net) no_updates;
      reset = width_on a c 1 ports.reset to_c p.reset;
      ticks = width_on a c 48 ports.ticks to_c p.ticks;
      hold = width_on a c 1 ports.hold to_c p.hold;
      ended = output_on a c ports.ended to_c p.ended;
    }

    module _ (enables : List (Option Signal)) (controls : AreControls kernel.nodes layout (late_signals storage.delays) words enables)
        (small : (v : ℕ) → v < length kernel.nodes → time_at timing v ≤ 2 ^ 46) where
      may_enable : (v : ℕ) → v < length kernel.nodes → MayEnable c (enable_at enables v)
      may_enable v lt = subst (MayEnable c) (sym (controls.each v lt)) (w.controls v lt)

      pub handshakes_stand : All (IsHandshake c) (handshakes_of (time_at timing) (enable_at enables) ports)
      handshakes_stand =
          let input = input_handshake (time_at timing) (enable_at enables) in
          let output = output_handshake (time_at timing) (enable_at enables) in
          let ins = all_both (IsInputPort kernel.nodes a) (λ (x : StreamSignals). IsNodeOf kernel.nodes K.Input x.node) ports.inputs p.inputs
          (input_kinds kernel a ports p) in
          let outs = all_both (IsOutputPort kernel.nodes a) (λ (x : StreamSignals). IsNodeOf kernel.nodes K.Output x.node) ports.outputs p.outputs
          (output_kinds kernel a ports p) in
          All-append (IsHandshake c) (map input ports.inputs) (map output ports.outputs)
          (all_mapped input (IsHandshake c) ports.inputs
          (all_weaker (λ (x : StreamSignals). IsInputPort kernel.nodes a x × IsNodeOf kernel.nodes K.Input x.node)
          (λ (x : StreamSignals). IsHandshake c (input x)) ports.inputs ins
          (λ x h. record {
            small = small x.node h.1.within;
            enable = may_enable x.node h.1.within;
            waits_for = width_on a c 1 x.valid to_c h.0.valid;
            answer = output_on a c x.ready to_c h.0.ready;
          })))
          (all_mapped output (IsHandshake c) ports.outputs
          (all_weaker (λ (x : StreamSignals). IsOutputPort kernel.nodes a x × IsNodeOf kernel.nodes K.Output x.node)
          (λ (x : StreamSignals). IsHandshake c (output x)) ports.outputs outs
          (λ x h. record {
            small = small x.node h.1.within;
            enable = may_enable x.node h.1.within;
            waits_for = width_on a c 1 x.ready to_c h.0.ready;
            answer = output_on a c x.valid to_c h.0.valid;
          })))

      is_timed : length timing.times ≡ length kernel.nodes → (k : Kind) (xs : List StreamSignals)
          → All (λ (x : StreamSignals). IsNodeOf kernel.nodes k x.node) xs → All (IsTimed timing.times enables) xs
      is_timed counted k xs kinds =
          let size = controls.counted in
          all_weaker (λ (x : StreamSignals). IsNodeOf kernel.nodes k x.node) (IsTimed timing.times enables) xs kinds
          (λ x h. let lt = h.within in record { timed = omega (arith, lt, counted); controlled = omega (arith, lt, size) })

      pub inputs_timed : length timing.times ≡ length kernel.nodes → All (IsTimed timing.times enables) ports.inputs
      inputs_timed counted = is_timed counted K.Input ports.inputs (input_kinds kernel a ports p)

      pub outputs_timed : length timing.times ≡ length kernel.nodes → All (IsTimed timing.times enables) ports.outputs
      outputs_timed counted = is_timed counted K.Output ports.outputs (output_kinds kernel a ports p)

    -- ---- registers that nothing writes yet

    module _ (d : Module) (hs : List Handshake) (run : Signal) (t : AddsControl c d (control_nets ports storage.position) hs run) where
      pub delays_free : AreFreeIn d (joined storage.delays)
      delays_free =
          let at = storage.position.net in
          let after = states_end b (at + 1) storage.states s.between s.states_free in
          let kept = frees_kept b c w.extends w.updates s.between s.memory (joined storage.delays) (length b.nets) (length b.mems) s.free in
          record {
            reg = s.between;
            mem = s.memory;
            nets = length b.nets;
            mems = length b.mems;
            free = frees_left c d at None t.extends t.others s.between s.memory (omega (arith, after)) (λ j le. refl) (joined storage.delays)
                (length b.nets) (length b.mems) kept;
          }

      pub states_free : (e : Module) → LeavesOthers d e (joined storage.delays) → AreFreeStates e (storage.position.net + 1) storage.states s.between
      states_free e others =
          let at = storage.position.net in
          states_left b e (at + 1) s.between
          (λ r lo hi none.
          let early = early_register b s.between s.memory (joined storage.delays) (length b.nets) (length b.mems) s.free r hi in
          let other : eqb at r ≡ false = unequal at r (λ same. omega (arith, lo, same)) in
          others.regs r (t.others.regs r (ap (writes_reg r) w.updates ∙ none) other) early)
          (at + 1) storage.states (omega arith) s.states_free

      pub advance_nets : (e : Module) → Extends d e → AreAdvanceNets e (record { run = run; reset = ports.reset; position = storage.position })
      advance_nets e x =
          let from_b = extends_on w.extends (extends_on t.extends x) in
          record {
            run = width_on d e 1 run x t.one;
            reset = width_on a e 1 ports.reset (extends_on s.extends from_b) p.reset;
            position = record { signal = from_b.keeps storage.position s.wide.signal; width = s.wide.width };
          }

-- ---- words that delays and states follow

word_there : (k : Kind) → is_offset k ≡ false → has_word k ≡ true
word_there (K.Offset ticks) h = absurd (false≢true (sym h))
word_there _ h = refl

-- a node with a latency, or whose word waits, is no offset
late_node : (nodes : List Node) (ticks : ℕ → ℕ) (times : Numbers) (u : ℕ) → All (IsEdge nodes) (edges_of nodes)
    → (is_offset (kind_at nodes u) ≡ true → ticks u ≡ 0) → (0 < ticks u) ⊎ ((behind : ℕ) × IsReadBehind nodes times u behind)
    → is_offset (kind_at nodes u) ≡ false
late_node nodes ticks times u edges none (inl some) =
    ⊎_elim
    (λ (t : is_offset (kind_at nodes u) ≡ true). let z = none t in absurd (omega (arith, some, z)))
    (λ (f : is_offset (kind_at nodes u) ≡ false). f)
    (cases_Bool (is_offset (kind_at nodes u)))
late_node nodes ticks times u edges none (inr (behind, read)) =
    let edge = edges read.0 (record { from = 0; to = 0; offset = pos 0 }) read.1 in
    ap (λ v. is_offset (kind_at nodes v)) (sym read.2) ∙ edge.source

-- so is a node that has delays
kept_node : (nodes : List Node) (ticks : ℕ → ℕ) (times : Numbers) (u latency : ℕ) (waits : List ℕ) → AreWaits nodes ticks times u waits
    → latency ≡ ticks u → 0 < latency + length waits → (0 < ticks u) ⊎ ((behind : ℕ) × IsReadBehind nodes times u behind)
kept_node nodes ticks times u latency [] a same some = inl (omega (arith, same, some))
kept_node nodes ticks times u latency (wait ∷ waits) a same some = inr (ticks u + wait, ((a.each wait).0 (0, omega arith, refl)).1)

-- the words may be followed by the delays
pub words_follow : (nodes : List Node) (times : Numbers) (layout : Layout) (ports : KernelSignals) (storage : Storage) (timing : Timing)
    (words : List Signal) (b c d : Module) → IsPlanned nodes times layout → All (IsEdge nodes) (edges_of nodes)
    → AreChains layout.pipeline layout.waits storage.delays → AreWide (widths_of nodes) storage.delays
    → AddsWords b c nodes layout ports storage timing words → Extends c d → MayFollowWords d words storage.delays
words_follow nodes times layout ports storage timing words b c d planned edges late wide w e u lu j dd lj =
    let long = late.counted in
    let counted = planned.laid.waits.counted in
    let lt : u < length nodes = omega (arith, lu, long, counted) in
    let latency = get_or layout.pipeline u 0 in
    let waits = waits_at layout.waits u in
    let len = node_length latency waits (delays_at storage.delays u) (late.each u lu) in
    let q = kept_node nodes planned.ticks times u latency waits (planned.laid.waits.each u lt) (planned.laid.pipeline.each u lt) (omega (arith, lj, len)) in
    let f = late_node nodes planned.ticks times u edges (planned.offsets u lt) q in
    let word = w.stand u lt (word_there (kind_at nodes u) f) in
    record {
      signal = e.keeps (word_at words u) word.signal;
      width = word.bits ∙ sym (width_is nodes u lt) ∙ sym (wide u lu j dd lj);
    }

-- the words of holds may be taken by their registers
pub have_words : (nodes : List Node) (layout : Layout) (ports : KernelSignals) (storage : Storage) (timing : Timing) (words : List Signal)
    (b c e : Module) → AddsWords b c nodes layout ports storage timing words → Extends c e → HaveWords e nodes words
have_words nodes layout ports storage timing words b c e w x n lt kind =
    let counted = w.counted in
    let word = w.stand n lt (ap has_word kind) in
    (omega (arith, lt, counted), record { signal = x.keeps (signal_at words n) word.signal; width = word.bits })

-- ---- times

-- the times are small
pub small_times : (nodes : List Node) (times : List ℤ) (layout : Layout) (timing : Timing) → IsPlanned nodes (numbers_of times) layout
    → ((v : ℕ) → v < length nodes → time_at timing v ≡ times_of times v) → (v : ℕ) → v < length nodes → time_at timing v ≤ 2 ^ 46
small_times _ times layout timing planned timed v lt =
    subst (λ time. time ≤ 2 ^ 46) (sym (timed v lt)) (small_time (numbers_of times v) (planned.begin v lt) (planned.most v lt))

-- ---- whatever the lists are called

pub there_named : (nodes : List Node) (layout : Layout) (late late' : List (List Signal)) (words words' : List Signal) → late' ≡ late → words' ≡ words
    → AreThere layout late words nodes → AreThere layout late' words' nodes
there_named nodes layout late late' words words' e g h =
    subst (λ l. AreThere layout l words' nodes) (sym e) (subst (λ ws. AreThere layout late ws nodes) (sym g) h)

pub controls_named : (nodes : List Node) (layout : Layout) (late late' : List (List Signal)) (words words' : List Signal)
    (enables enables' : List (Option Signal)) → late ≡ late' → words ≡ words' → enables' ≡ enables → AreControls nodes layout late words enables
    → AreControls nodes layout late' words' enables'
controls_named nodes layout late late' words words' enables enables' e g i h =
    subst (λ l. AreControls nodes layout l words' enables') e
    (subst (λ ws. AreControls nodes layout late ws enables') g (subst (AreControls nodes layout late words) (sym i) h))

pub control_named : (c d : Module) (ports : KernelSignals) (timing : Timing) (position : Signal) (hs : List Handshake) (run : Signal)
    → timing.position ≡ position → AddsControl c d (control_nets ports timing.position) hs run → AddsControl c d (control_nets ports position) hs run
control_named c d ports timing position hs run e t = subst (λ s. AddsControl c d (control_nets ports s) hs run) e t

pub states_named : (e f : Module) (nodes : List Node) (times times' : List ℕ) (words words' : List Signal) (nets : AdvanceNets)
    (states states' : List (Option Signal)) → times ≡ times' → words ≡ words' → states ≡ states'
    → ClosesStates e f nodes (slice_index times) words nets states → ClosesStates e f nodes (slice_index times') words' nets states'
states_named e f nodes times times' words words' nets states states' i j k y =
    subst (λ ts. ClosesStates e f nodes (slice_index ts) words' nets states') i
    (subst (λ ws. ClosesStates e f nodes (slice_index times) ws nets states') j (subst (ClosesStates e f nodes (slice_index times) words nets) k y))
