-- The module that is built refines its kernel.
use Rattle.std.proofs.Common.{
  ◌≡◌,
  ◌⊎◌,
  inl,
  inr,
  ℕ,
  zero,
  suc,
  ◌+◌,
  ◌<◌,
  ◌^◌,
  true,
  false,
  cond,
  List,
  [],
  ◌∷◌,
  ◌++◌,
  map,
  length,
  get_or,
  Option,
  Some,
  refl,
  sym,
  ap,
  ◌∙◌,
  subst,
  arith,
}
use Rattle.std.specs.Prelude.{ℤ, All, slice_get}
use Rattle.cycle_find.specs.Constraints.{numbers_of}
use Rattle.rtl_ir.specs.declared.design.Module.{Module}
use Rattle.rtl_ir.specs.declared.design.Net.{Net}
use Rattle.rtl_ir.specs.Value.{is_reg, net_kept}
use Rattle.rtl_ir.specs.Names.{is_name}
use Rattle.rtl_ir.specs.Ports.{ports_of}
use Rattle.rtl_ir.proofs.Grow.{width_kept}
use Rattle.rtl_build.specs.Wires.{is_output}
use Rattle.rtl_build.specs.declared.signal.Signal.{Signal}
use Rattle.rtl_delays.specs.Extends.{Extends, AddsNoRegister, KeepsStill}
use Rattle.rtl_delays.specs.Driven.{is_driven}
use Rattle.rtl_delays.specs.Delays.{of_net}
use Rattle.rtl_delays.specs.Elements.{shown}
use Rattle.rtl_delays.specs.Partial.{IsPartial, HasPortsAlone, HasPortNames, IsFinished}
use Rattle.rtl_delays.specs.Stored.{net_bits, mem_bits, stored_bits}
use Rattle.rtl_delays.specs.Steps.{writes_reg, IsSound}
use Rattle.rtl_delays.proofs.Added.{within}
use Rattle.rtl_delays.proofs.Chain.{delay_kept, tap_kept}
use Rattle.rtl_delays.proofs.Extends.{extends_on, still_on}
use Rattle.rtl_delays.proofs.Grown.{same_name}
use Rattle.rtl_delays.proofs.Kept.{ports_kept, no_register_on, written_kept}
use Rattle.stream_graph.specs.declared.kernel.Kernel.{Kernel}
use Rattle.stream_graph.specs.declared.node.Kind.TheVariants as K
use Rattle.stream_graph.specs.declared.node.Node.{Node}
use Rattle.stream_graph.specs.LookUps.{kind_at}
use Rattle.stream_graph.proofs.NodeLemmas.{IsOrderly}
use Rattle.stream_graph.specs.Kinds.{control_in}
use Rattle.kernel_control.specs.Ports.{ModuleNets, PortChannel, nets_of}
use Rattle.kernel_control.specs.Nets.{net_of, AreHandshakesOf, AreNetsOf, told_ports}
use Rattle.kernel_control.specs.IsControl.{IsControl}
use Rattle.kernel_control.specs.Refines.{RunsAs, IsPositionNet, Refines}
use Rattle.kernel_control.proofs.Built.{control_kept}
use Rattle.kernel_control.proofs.Outs.{all_driven_kept}
use Rattle.kernel_layout.specs.declared.layout.Layout.{Layout}
use Rattle.kernel_layout.specs.declared.reads.Read.{Read}
use Rattle.kernel_ports.specs.declared.signals.StreamSignals.{StreamSignals}
use Rattle.kernel_ports.specs.declared.signals.KernelSignals.{KernelSignals}
use Rattle.kernel_ports.specs.HasKernelPorts.{channel_of, nets_by, HasKernelPorts}
use Rattle.kernel_ports.proofs.Whole.{nets_stay}
use Rattle.kernel_refinement.specs.Built.{control_tap, IsBuilt}
use Rattle.kernel_refinement.proofs.Runs.{built_runs}
use Rattle.kernel_stages.specs.declared.node.NodeDelays.{NodeDelays}
use Rattle.kernel_stages.specs.Numbers.{waits_at, pipeline_bits, all_word_bits, all_pointer_bits}
use Rattle.kernel_stages.specs.Chains.{joined, word_at, delays_at, end_at, element_at}
use Rattle.kernel_stages.specs.Closing.{LeavesOthers, AreWritten, AreDelays}
use Rattle.kernel_stages.proofs.Freeing.{written_on}
use Rattle.kernel_states.specs.States.{state_bits}
use Rattle.kernel_states.specs.Closing.{ClosesStates}
use Rattle.kernel_wiring.specs.declared.timing.Timing.{Timing}
use Rattle.kernel_wiring.specs.Timing.{time_at}
use Rattle.kernel_wiring.specs.Words.{read_signal, read_net, reads_at, signals_at, taps_at, control_among, control_at}
use Rattle.kernel_wiring.specs.Controls.{AreControls}
use Rattle.kernel_rtl.specs.declared.storage.Storage.{Storage}
use Rattle.kernel_rtl.specs.Planned.{IsPlanned, times_of, widths_of}
use Rattle.kernel_rtl.specs.Storage.{AddsStorage}
use Rattle.kernel_rtl.specs.Words.{late_signals, data_nets, AddsWords}
use Rattle.kernel_rtl.specs.Handshakes.{enable_at, input_handshake, output_handshake, handshakes_of, control_nets, AddsControl}
use Rattle.kernel_rtl.proofs.Numbers.{all_mapped, all_weaker, IsNodeOf}
use Rattle.kernel_rtl.proofs.Taps.{standing, IsKept}
use Rattle.kernel_types.specs.Types.{AreCounting}
use Rattle.kernel_rtl.proofs.Running.{HavePlaces, IsWhole, is_built}
use Rattle.kernel_rtl.proofs.Finishing.{none_by_stored, all_written, all_driven, told_inputs, told_outputs, data_driven, accepted}
use Rattle.kernel_rtl.proofs.PortNames.{has_port_names}
use Rattle.kernel_rtl.proofs.Joining.{nodes_by, inputs_at, outputs_at, input_nodes, output_nodes, input_kinds, output_kinds}

-- ---- delays

-- Each delay of each node follows the one before it, and the first one the node's word.
pub record ClosesDelays (old new : Module) (run reset : ℕ) (words : List Signal)
    (delays : List NodeDelays) : Type 0
  where
    pub extends : Extends old new
    pub still : KeepsStill old new run reset
    pub others : LeavesOthers old new (joined delays)
    pub written : AreWritten new (joined delays)
    pub registers : AddsNoRegister old new
    pub stored : stored_bits new ≡ stored_bits old
    pub late : AreDelays new run reset words delays

-- ---- control

-- the handshake of a node's port has its time, and its control
pub record Agrees (times now : ℕ → ℕ) (enables : ℕ → Option Signal) (controls : ℕ → Option ℕ) (v : ℕ) : Type 0 where
  pub time : times v ≡ now v
  pub enable : net_of (enables v) ≡ controls v

handshakes_are : (times now : ℕ → ℕ) (enables : ℕ → Option Signal) (controls : ℕ → Option ℕ) (xs ys : List StreamSignals)
    → All (λ (x : StreamSignals). Agrees times now enables controls x.node) xs → All (λ (y : StreamSignals). Agrees times now enables controls y.node) ys
    → AreHandshakesOf now controls (map channel_of xs) (map channel_of ys)
    (map (input_handshake times enables) xs ++ map (output_handshake times enables) ys)
handshakes_are times now enables controls [] [] h g = tt
handshakes_are times now enables controls [] (y ∷ ys) h g =
    let q = g 0 y (omega arith) in (
      record { time = q.time; enable = q.enable; waits_for = refl; answer = refl },
      handshakes_are times now enables controls [] ys h (λ i d lt. g (suc i) d (omega arith)),
    )
handshakes_are times now enables controls (x ∷ xs) ys h g =
    let q = h 0 x (omega arith) in (
      record { time = q.time; enable = q.enable; waits_for = refl; answer = refl },
      handshakes_are times now enables controls xs ys (λ i d lt. h (suc i) d (omega arith)) g,
    )

-- the net of a read's signal is the net that is read
net_get : (layout : Layout) (late : List (List Signal)) (words : List Signal) (reads : List Read) (i : ℕ)
    → net_of (slice_get (map (read_signal layout late words) reads) i) ≡ slice_get (map (read_net layout late words) reads) i
net_get layout late words [] i = refl
net_get layout late words (r ∷ rs) zero = refl
net_get layout late words (r ∷ rs) (suc i) = net_get layout late words rs i

-- the net of a port's control
enable_net : (nodes : List Node) (layout : Layout) (delays : List NodeDelays) (words : List Signal) (rank : List ℕ) (v : ℕ)
    → (kind_at nodes v ≡ K.Input) ⊎ (kind_at nodes v ≡ K.Output)
    → net_of (control_at nodes layout (late_signals delays) words v) ≡ control_tap nodes (standing layout delays words rank) v
enable_net nodes layout delays words rank v (inl kind) =
    ap (λ k. net_of (control_among k (signals_at layout (late_signals delays) words v))) kind
    ∙ net_get layout (late_signals delays) words (reads_at layout v) 0
    ∙ sym (ap (λ k. control_in k (taps_at layout (late_signals delays) words v)) kind)
enable_net nodes layout delays words rank v (inr kind) =
    ap (λ k. net_of (control_among k (signals_at layout (late_signals delays) words v))) kind
    ∙ net_get layout (late_signals delays) words (reads_at layout v) 1
    ∙ sym (ap (λ k. control_in k (taps_at layout (late_signals delays) words v)) kind)

-- ---- what is stored

-- a module that has only ports stores nothing
no_registers : (xs : List Net) → ((k : ℕ) (x : Net) → slice_get xs k ≡ Some x → x.reg ≡ false) → net_bits xs ≡ 0
no_registers [] h = refl
no_registers (x ∷ xs) h =
    let head : cond x.reg x.width 0 ≡ 0 = ap (λ b. cond b x.width 0) (h 0 x refl) in
    let rest = no_registers xs (λ k y e. h (suc k) y e) in
    omega (arith, head, rest)

ports_store_nothing : (m : Module) → HasPortsAlone m → stored_bits m ≡ 0
ports_store_nothing m a =
    let regs = no_registers m.nets (λ k x e.
    let lt = within m.nets k x e in
    let same = a.nets in
    sym (ap net_kept e) ∙ a.partial.port_wires k (omega (arith, lt, same))) in
    let mems : mem_bits m.mems ≡ 0 = ap mem_bits a.mems in
    omega (arith, regs, mems)

-- what is stored
pub stored : (a b c d e f : Module) (nodes : List Node) (plan : Layout) (storage : Storage) → HasPortsAlone a
    → AddsStorage a b nodes plan storage → stored_bits c ≡ stored_bits b → stored_bits d ≡ stored_bits c → stored_bits e ≡ stored_bits d
    → stored_bits f ≡ stored_bits e
    → stored_bits f ≡ 48 + state_bits nodes + pipeline_bits (widths_of nodes) plan.pipeline + all_word_bits (widths_of nodes) plan.waits
    + all_pointer_bits plan.waits
stored a b c d e f nodes plan storage alone s w t z y =
    let none = ports_store_nothing a alone in
    let first = s.stored in
    omega (arith, none, first, w, t, z, y)

-- whatever the lists are called
pub closed_named : (d e : Module) (run reset : ℕ) (words given : List Signal) (delays started : List NodeDelays) → given ≡ words → started ≡ delays
    → ClosesDelays d e run reset given started → ClosesDelays d e run reset words delays
closed_named d e run reset words given delays started f g z = subst (λ ws. ClosesDelays d e run reset ws delays) f
    (subst (ClosesDelays d e run reset given) g z)

-- delays stay what they are where the module grows
delays_on : (m n : Module) (run reset : ℕ) (words : List Signal) (delays : List NodeDelays) → Extends m n → IsSound m
    → AreDelays m run reset words delays → AreDelays n run reset words delays
delays_on m n run reset words delays e sound h latencies waits are u lu =
    let word = word_at words u in
    let d = delays_at delays u in
    let end = end_at words delays u in
    let was = h latencies waits are u lu in
    record {
      pipeline = tap_kept m n run reset (of_net word.net) end.net (get_or latencies u 0) e.grows sound was.pipeline;
      behind = λ i li. delay_kept m n run reset (of_net end.net) (shown (element_at d.waits i)).net (get_or (waits_at waits u) i 0) e.grows sound
          (was.behind i li);
    }

module _ (kernel : Kernel) (layout : Layout) (times : List ℤ) (a b c d e f : Module) (ports : KernelSignals) (storage : Storage) (timing : Timing)
    (words : List Signal) (enables : List (Option Signal)) (run : Signal)
    (planned : IsPlanned kernel.nodes (numbers_of times) layout) (orderly : IsOrderly kernel.nodes) (digits : AreCounting kernel.nodes) (places : HavePlaces)
    (p : HasKernelPorts kernel a ports) (s : AddsStorage a b kernel.nodes layout storage)
    (position : timing.position ≡ storage.position) (counted : timing.ticks ≡ ports.ticks)
    (timed : (v : ℕ) → v < length kernel.nodes → time_at timing v ≡ times_of times v)
    (w : AddsWords b c kernel.nodes layout ports storage timing words)
    (controls : AreControls kernel.nodes layout (late_signals storage.delays) words enables)
    (t : AddsControl c d (control_nets ports storage.position) (handshakes_of (time_at timing) (enable_at enables) ports) run)
    (z : ClosesDelays d e run.net ports.reset.net words storage.delays)
    (y : ClosesStates e f kernel.nodes (time_at timing) words (record { run = run; reset = ports.reset; position = storage.position }) storage.states) where
  abbrev rank : List ℕ
  rank = planned.laid.order.rank

  abbrev nets : ModuleNets
  nets = nets_by ports storage.position.net

  abbrev taps : ℕ → Option ℕ
  taps = control_tap kernel.nodes (standing layout storage.delays words rank)

  from_d : Extends d f
  from_d = extends_on z.extends y.extends

  from_c : Extends c f
  from_c = extends_on t.extends from_d

  from_b : Extends b f
  from_b = extends_on w.extends from_c

  all_of : Extends a f
  all_of = extends_on s.extends from_b

  kept : IsKept f kernel.nodes planned.ticks (numbers_of times) layout storage.delays words rank run.net ports.reset.net
  kept = record {
    orderly = orderly;
    begin = planned.begin;
    legal = planned.legal;
    reads = planned.laid.reads;
    pipeline = planned.laid.pipeline;
    waits = planned.laid.waits;
    rising = planned.laid.order.rising;
    chains = s.late;
    late = delays_on e f run.net ports.reset.net words storage.delays y.extends z.extends.sound z.late;
  }

  whole : IsWhole b c f kernel.nodes planned.ticks (numbers_of times) layout ports storage timing words rank run
  whole = record {
    most = planned.most;
    chains = planned.chains;
    digits = digits;
    places = places;
    kept = kept;
    empty = s.updates ∙ p.alone.updates;
    states = s.states;
    position = position;
    counted = counted;
    timed = timed;
    added = w;
    grown = from_c;
    still = still_on c d f run.net ports.reset.net t.still (still_on d e f run.net ports.reset.net z.still y.still y.extends) from_d;
    counters = y.counters;
    keepers = y.keepers;
  }

  agrees : (v : ℕ) → v < length kernel.nodes → (kind_at kernel.nodes v ≡ K.Input) ⊎ (kind_at kernel.nodes v ≡ K.Output)
      → Agrees (time_at timing) (times_of times) (enable_at enables) taps v
  agrees v lt kind = record {
    time = timed v lt;
    enable = ap net_of (controls.each v lt) ∙ enable_net kernel.nodes layout storage.delays words rank v kind;
  }

  are_nets : AreNetsOf kernel.nodes (times_of times) taps nets (control_nets ports storage.position)
      (handshakes_of (time_at timing) (enable_at enables) ports)
  are_nets = record {
    position = refl;
    reset = refl;
    ticks = refl;
    hold = refl;
    ended = refl;
    inputs = nodes_by ports.inputs ∙ input_nodes kernel a ports p;
    outputs = nodes_by ports.outputs ∙ output_nodes kernel a ports p;
    ports =
        let A : ℕ → Type 0 = Agrees (time_at timing) (times_of times) (enable_at enables) taps in
        handshakes_are (time_at timing) (times_of times) (enable_at enables) taps ports.inputs ports.outputs
        (all_weaker (λ (x : StreamSignals). IsNodeOf kernel.nodes K.Input x.node) (λ (x : StreamSignals). A x.node) ports.inputs
        (input_kinds kernel a ports p) (λ x h. agrees x.node h.within (inl h.kind)))
        (all_weaker (λ (x : StreamSignals). IsNodeOf kernel.nodes K.Output x.node) (λ (x : StreamSignals). A x.node) ports.outputs
        (output_kinds kernel a ports p) (λ x h. agrees x.node h.within (inr h.kind)));
  }

  controlled : IsControl f kernel.nodes (times_of times) taps nets run.net
  controlled = control_kept d f kernel.nodes (times_of times) taps nets run.net from_d (t.control kernel.nodes (times_of times) taps nets are_nets)

  built : IsBuilt f kernel.nodes planned.ticks (times_of times) nets run.net (standing layout storage.delays words rank)
  built = is_built b c f kernel.nodes planned.ticks (numbers_of times) layout ports storage timing words rank run whole p.scalar_nodes
      (output_nodes kernel a ports p) controlled

  runs : RunsAs f (nets_of kernel.nodes f storage.position.net) kernel.nodes (times_of times)
  runs = subst (λ q. RunsAs f q kernel.nodes (times_of times))
      (p.nets storage.position.net ∙ sym (nets_stay a f kernel.nodes storage.position.net all_of.grows))
      (built_runs f kernel.nodes planned.ticks (times_of times) nets run.net (standing layout storage.delays words rank) built)

  -- ---- acceptance

  partial : IsPartial f
  partial = all_of.partial p.alone.partial

  none_added : AddsNoRegister b f
  none_added =
      let at_d : IsPartial d = t.extends.partial (w.extends.partial (s.extends.partial p.alone.partial)) in
      no_register_on b c f w.registers
      (no_register_on c d f (none_by_stored c d t.extends.grows t.stored at_d) (no_register_on d e f z.registers y.registers))

  written : (k : ℕ) → is_reg f k ≡ true → writes_reg k f.updates ≡ true
  written = all_written a b f storage.position.net storage.states (joined storage.delays) p.alone s.only none_added
      (written_kept d f storage.position.net from_d.grows t.written) y.written (written_on e f (joined storage.delays) y.extends.grows z.written)

  driven : (k : ℕ) → is_output f.ports k ≡ true → is_driven k f.assigns ≡ true
  driven =
      let input = input_handshake (time_at timing) (enable_at enables) in
      let output = output_handshake (time_at timing) (enable_at enables) in
      let told = all_driven_kept from_d.grows (ports.ended.net ∷ told_ports (handshakes_of (time_at timing) (enable_at enables) ports)) t.driven in
      let given = all_driven_kept from_c.grows (data_nets ports.outputs) w.driven in
      let split = told_inputs f (time_at timing) (enable_at enables) ports.inputs (map output ports.outputs) told.1 in
      let R : PortChannel → Type 0 = λ x. is_driven x.channel.ready f.assigns ≡ true in
      let V : PortChannel → Type 0 = λ x. is_driven x.channel.valid f.assigns ≡ true in
      let W : PortChannel → Type 0 = λ x. is_driven x.channel.word f.assigns ≡ true in
      all_driven a f kernel.nodes p.alone.partial p.ports all_of.grows
      (subst (All R) (inputs_at kernel a ports p) (all_mapped channel_of R ports.inputs split.0))
      (subst (All W) (outputs_at kernel a ports p) (all_mapped channel_of W ports.outputs (data_driven f ports.outputs given)))
      (subst (All V) (outputs_at kernel a ports p)
      (all_mapped channel_of V ports.outputs (told_outputs f (time_at timing) (enable_at enables) ports.outputs split.1)))
      (ap (λ k. is_driven k f.assigns) (sym (ap (λ q. q.ended) (p.nets 0))) ∙ told.0)

  same_ports : ports_of f ≡ ports_of a
  same_ports = ports_kept a f all_of.grows p.alone.partial

  finished : length f.nets < 2 ^ 64 → length f.mems < 2 ^ 64 → IsFinished f
  finished nets_few mems_few = record {
    name = ap is_name all_of.name ∙ p.named.name;
    alone = all_of.grows.instances ∙ p.alone.instances;
    few_nets = nets_few;
    few_mems = mems_few;
    ports = subst HasPortNames (sym same_ports) (has_port_names a p.alone.partial p.named);
    driven = driven;
    written = written;
  }

  place : IsPositionNet f storage.position.net
  place =
      let g = from_b.grows in
      let lt = s.wide.register.net in record {
        name = same_name b f g storage.position.net lt ∙ s.named;
        register = from_b.regs storage.position.net s.wide.register.register;
        width = width_kept b f g storage.position.net lt ∙ s.wide.register.width ∙ s.wide.width;
      }

  pub refines : length f.nets < 2 ^ 64 → length f.mems < 2 ^ 64 → Refines f kernel (times_of times)
  refines nets_few mems_few = record {
    name = all_of.name ∙ p.name;
    ports = same_ports ∙ p.ports;
    instances = all_of.grows.instances ∙ p.alone.instances;
    accepted = accepted f partial (finished nets_few mems_few);
    position = storage.position.net;
    place = place;
    runs = runs;
  }
