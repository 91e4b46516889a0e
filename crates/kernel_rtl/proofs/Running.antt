-- The parts of a kernel in the module that is built.
use Rattle.std.proofs.Common.{
  ◌≡◌,
  ℕ,
  suc,
  ◌+◌,
  ◌-◌,
  ◌/◌,
  ◌%◌,
  ◌^◌,
  ◌<◌,
  ◌≤◌,
  true,
  false,
  cond,
  eqb,
  ltb,
  leb,
  ◌&&◌,
  List,
  [],
  ◌∷◌,
  ◌++◌,
  map,
  length,
  get_or,
  Some,
  refl,
  sym,
  ap,
  ◌∙◌,
  subst,
  arith,
  ⊎_elim,
}
use Rattle.std.specs.Prelude.{ℤ, pos, ◌-ℤ◌, ◌≤ℤ◌, unsigned_abs, All, slice_get}
use Rattle.std.proofs.Math.Nat.{mod-eq_of_lt}
use Rattle.std.proofs.lemmas.Bool.{false≢true}
use Rattle.std.proofs.lemmas.Int.{ints}
use Rattle.std.proofs.lemmas.List.Elements.{All-append}
use Rattle.cycle_find.specs.Constraints.{Numbers}
use Rattle.counter_chains.specs.declared.digits.CounterDigit.{CounterDigit}
use Rattle.counter_chains.specs.Digits.{IsDigit}
use Rattle.counter_chains.specs.Chains.{part_at, chain_at, bits_below}
use Rattle.rtl_ir.specs.declared.design.Module.{Module}
use Rattle.rtl_ir.specs.Value.{Family, Contents, bit}
use Rattle.rtl_ir.specs.Grow.{Holds}
use Rattle.rtl_build.specs.declared.signal.Signal.{Signal}
use Rattle.rtl_delays.specs.Delays.{Shows, of_net}
use Rattle.rtl_delays.specs.Extends.{Extends, AllOff, KeepsStill}
use Rattle.stream_graph.specs.declared.node.Kind.{Kind}
use Rattle.stream_graph.specs.declared.node.Kind.TheVariants as K
use Rattle.stream_graph.specs.declared.node.Node.{Node}
use Rattle.offset_edges.specs.declared.source.Source.{Source}
use Rattle.stream_graph.specs.LookUps.{kind_at, width_at, operands_at, operand_at, digits_at}
use Rattle.offset_edges.specs.Edges.{source_of}
use Rattle.stream_graph.specs.Kinds.{is_steady, is_offset, control_in}
use Rattle.offset_edges.proofs.SourceLemmas.{source_here}
use Rattle.kernel_control.specs.Ports.{ModuleNets, PortChannel, scalars_of, inputs_of, outputs_of}
use Rattle.kernel_control.specs.Due.{is_in_ticks, is_let}
use Rattle.kernel_control.specs.Refines.{is_active, last_time}
use Rattle.kernel_control.specs.IsControl.{IsControl}
use Rattle.kernel_layout.specs.declared.layout.Layout.{Layout}
use Rattle.kernel_ports.specs.declared.signals.NodeSignal.{NodeSignal}
use Rattle.kernel_ports.specs.declared.signals.StreamSignals.{StreamSignals}
use Rattle.kernel_ports.specs.declared.signals.KernelSignals.{KernelSignals}
use Rattle.kernel_ports.specs.HasKernelPorts.{channel_of, nets_by}
use Rattle.kernel_refinement.specs.States.{Counts, IsCounter, IsPosition}
use Rattle.kernel_refinement.specs.Built.{
  Layout as Standing,
  edge_from,
  control_tap,
  is_shown,
  has_taps,
  IsBehind,
  TapOf,
  TapsOf,
  IsPortWord,
  IsScalarWord,
  IsHoldWord,
  IsCounted,
  HasWord,
  NodeBuilt,
  OutputBuilt,
  IsBuilt,
}
use Rattle.kernel_refinement.proofs.Parting.{parts_count}
use Rattle.kernel_types.specs.Types.{counts, AreCounting}
use Rattle.kernel_states.specs.States.{has_state, state_at, AreStates}
use Rattle.kernel_states.specs.Closing.{AreCounters, AreKeepers}
use Rattle.kernel_wiring.specs.declared.timing.Timing.{Timing}
use Rattle.kernel_wiring.specs.Timing.{time_at}
use Rattle.kernel_wiring.specs.Words.{signal_at, taps_at}
use Rattle.kernel_wiring.specs.OneNode.{IsPartWord, IsHeldWord, IsWired}
use Rattle.kernel_rtl.specs.declared.storage.Storage.{Storage}
use Rattle.kernel_rtl.specs.Words.{IsGivenWord, IsGivenScalar, late_signals, net_or_zero, IsDriven, AddsWords}
use Rattle.kernel_rtl.proofs.Numbers.{map_get, all_mapped, all_unmapped, all_both, all_weaker, IsNodeOf, inputs_are, outputs_are, greatest_small}
use Rattle.kernel_rtl.proofs.Taps.{standing, IsKept, taps_of}
use Rattle.kernel_rtl.proofs.Wording.{state_of}

-- ---- counters

-- a counter by another name of its words
counts_same : (run to time : ℕ) (word other : ℕ → ℕ) → ((t : ℕ) → word t ≡ other t) → (p : ℕ) (vs : List Family) → Counts run to time word p vs
    → Counts run to time other p vs
counts_same run to time word other same p [] h = tt
counts_same run to time word other same p (v ∷ vs) h = (
  λ later few. h.0 later few ∙ same (p - time),
  counts_same run to time word other same (cond (eqb (v run) 1) (suc p) p) vs h.1,
)

counter_same : (m : Module) (run reset to time : ℕ) (word other : ℕ → ℕ) → ((t : ℕ) → word t ≡ other t) → IsCounter m run reset to time word
    → IsCounter m run reset to time other
counter_same m run reset to time word other same h c v vs s e none = counts_same run to time word other same 0 vs (h c v vs s e none)

-- a chain of one counter has its words
alone_at : (digits : List CounterDigit) (t : ℕ) → length digits ≡ 1 → chain_at digits t ≡ part_at digits 0 t
alone_at [] t one = absurd (omega (arith, one))
alone_at (d ∷ []) t one = omega arith
alone_at (d ∷ e ∷ later) t one = absurd (omega (arith, one))

-- ---- holds

-- a position is in a tick of the run as the sum of 48 bits says
in_ticks : (time count p : ℕ) → time ≤ 2 ^ 46 → count ≤ 2 ^ 40 → is_in_ticks p count time ≡ is_active time count p
in_ticks time count p small few =
    let sum : (time + count) % 2 ^ 48 ≡ time + count = mod-eq_of_lt (omega (arith, small, few)) in
    ap (λ n. leb time p && ltb p n) sum

-- ---- times

pub small_time : (x : ℤ) → pos 0 ≤ℤ x → x ≤ℤ pos (2 ^ 46) → unsigned_abs x ≤ 2 ^ 46
small_time x a b = omega (arith, ints, a, b)

-- a delay from a node of no latency
delay_sum : (to from delay : ℕ) → ((pos to -ℤ pos from) -ℤ pos 0) -ℤ pos 0 ≡ pos delay → from + (0 + delay) ≡ to
delay_sum to from delay h = omega (arith, ints, h)

-- ---- taps

-- the first operand is read from the first tap
first_tap : (m : Module) (nodes : List Node) (ticks times : ℕ → ℕ) (run reset : ℕ) (l : Standing) (v : ℕ) (operands taps : List ℕ) (tap : ℕ)
    → TapsOf m nodes ticks times run reset l v operands taps → slice_get taps 0 ≡ Some tap
    → TapOf m nodes ticks times run reset l v (get_or operands 0 0) tap
first_tap m nodes ticks times run reset l v [] [] tap h e = absurd (cc)
first_tap m nodes ticks times run reset l v [] (t ∷ ts) tap h e = absurd h
first_tap m nodes ticks times run reset l v (o ∷ os) [] tap h e = absurd h
first_tap m nodes ticks times run reset l v (o ∷ os) (t ∷ ts) tap h e =
    let same : t ≡ tap = cc in
    subst (TapOf m nodes ticks times run reset l v o) same h.0

-- ---- the module

-- the word of a counter of a chain stands in its own bits
abbrev pub HavePlaces : Type 0
HavePlaces =
    (digits : List CounterDigit) (place t : ℕ) (d : CounterDigit) → All IsDigit digits → slice_get digits place ≡ Some d
    → chain_at digits t / 2 ^ bits_below digits place % 2 ^ d.bits ≡ part_at digits place t

-- What the calls leave of the module of a kernel: it has its storage as l, its words as m, and n is
-- its last form.
pub record IsWhole (l m n : Module) (nodes : List Node) (ticks : ℕ → ℕ) (times : Numbers) (layout : Layout) (ports : KernelSignals) (storage : Storage)
    (timing : Timing) (words : List Signal) (rank : List ℕ) (run : Signal) : Type 0
  where
    pub most : (v : ℕ) → v < length nodes → times v ≤ℤ pos (2 ^ 46)
    pub chains : (v : ℕ) → v < length nodes → kind_at nodes v ≡ K.Chain → ticks v ≡ 0
    pub digits : AreCounting nodes
    pub places : HavePlaces
    pub kept : IsKept n nodes ticks times layout storage.delays words rank run.net ports.reset.net
    pub empty : l.updates ≡ []
    pub states : AreStates l nodes storage.states
    pub position : timing.position ≡ storage.position
    pub counted : timing.ticks ≡ ports.ticks
    pub timed : (v : ℕ) → v < length nodes → time_at timing v ≡ unsigned_abs (times v)
    pub added : AddsWords l m nodes layout ports storage timing words
    pub grown : Extends m n
    pub still : KeepsStill m n run.net ports.reset.net
    pub counters :
        AreCounters n nodes (time_at timing) (record { run = run; reset = ports.reset; position = storage.position }) storage.states
    pub keepers : AreKeepers n nodes words (record { run = run; reset = ports.reset; position = storage.position }) storage.states

module _ (l m n : Module) (nodes : List Node) (ticks : ℕ → ℕ) (times : Numbers) (layout : Layout) (ports : KernelSignals) (storage : Storage)
    (timing : Timing) (words : List Signal) (rank : List ℕ) (run : Signal)
    (w : IsWhole l m n nodes ticks times layout ports storage timing words rank run)
    (scalar_nodes : map (λ (port : NodeSignal). port.node) ports.scalars ≡ scalars_of nodes)
    (output_nodes : map (λ (port : StreamSignals). port.node) ports.outputs ≡ outputs_of nodes) where
  abbrev pub now : ℕ → ℕ
  now = λ v. unsigned_abs (times v)

  abbrev pub nets : ModuleNets
  nets = nets_by ports storage.position.net

  before : (c : Contents) (f : Family) → Holds n c f → Holds m c f
  before c f h = w.grown.before c f h

  small : (v : ℕ) → v < length nodes → now v ≤ 2 ^ 46
  small v lt = small_time (times v) (w.kept.begin v lt) (w.most v lt)

  -- ---- the words of ports

  port_word : (v : ℕ) → IsGivenWord ports.inputs words v → IsPortWord n nets (standing layout storage.delays words rank) v
  port_word v g = record {
    place = g.place;
    port = channel_of g.port;
    at = map_get channel_of ports.inputs g.place g.port g.at;
    node = g.own;
    word = λ c f h. sym (ap (λ (s : Signal). f s.net) g.is);
  }

  scalar_word : (v : ℕ) → IsGivenScalar ports.scalars words v → IsScalarWord n nodes nets (standing layout storage.delays words rank) v
  scalar_word v g = record {
    place = g.place;
    node =
        ap (λ ns. slice_get ns g.place) (sym scalar_nodes)
        ∙ map_get (λ (port : NodeSignal). port.node) ports.scalars g.place g.port g.at
        ∙ ap Some g.own;
    net = g.port.signal.net;
    at = map_get (λ (port : NodeSignal). port.signal.net) ports.scalars g.place g.port g.at;
    word = λ c f h. sym (ap (λ (s : Signal). f s.net) g.is);
  }

  -- ---- the words of states

  chain_word : (v : ℕ) → v < length nodes → counts (kind_at nodes v) ≡ true → has_state (kind_at nodes v) ≡ true
      → IsPosition n run.net ports.reset.net storage.position.net
      → IsCounter n run.net ports.reset.net (signal_at words v).net (now v) (chain_at (digits_at nodes v))
  chain_word v lt count state position =
      let s = state_of l nodes storage.states v w.states lt state in
      let here = w.counters v s.register lt count s.at position in
      let timed = subst (λ time. IsCounter n run.net ports.reset.net s.register.net time (chain_at (digits_at nodes v))) (w.timed v lt) here in
      subst (λ (x : Signal). IsCounter n run.net ports.reset.net x.net (now v) (chain_at (digits_at nodes v)))
      (sym (w.added.states v s.register lt count s.at)) timed

  -- a part of a chain, whose tap is behind the chain
  behind_chain : (v chain tap : ℕ) (word other part : ℕ → ℕ) → chain < length nodes → kind_at nodes chain ≡ K.Chain
      → IsCounter n run.net ports.reset.net (signal_at words chain).net (now chain) word
      → ((c : Contents) (f : Family) → Holds n c f → f (signal_at words v).net ≡ part (f tap)) → ((t : ℕ) → part (word t) ≡ other t)
      → (s : Source) → s ≡ record { node = chain; offset = pos 0 }
      → IsBehind n ticks now run.net ports.reset.net (standing layout storage.delays words rank) (record { from = s.node; to = v; offset = s.offset }) tap
      → IsCounter n run.net ports.reset.net (signal_at words v).net (now v) other
  behind_chain v chain tap word other part inside kind own shows same s e at =
      let b = subst (λ (x : Source). IsBehind n ticks now run.net ports.reset.net (standing layout storage.delays words rank)
      (record { from = x.node; to = v; offset = x.offset }) tap) e at in
      let none = w.chains chain inside kind in
      let waits : ((pos (now v) -ℤ pos (now chain)) -ℤ pos 0) -ℤ pos 0 ≡ pos b.delay =
      ap (λ k. ((pos (now v) -ℤ pos (now chain)) -ℤ pos k) -ℤ pos 0) (sym none) ∙ b.waits in
      let sum : now chain + (ticks chain + b.delay) ≡ now v = ap (λ k. now chain + (k + b.delay)) none ∙ delay_sum (now v) (now chain) b.delay waits in
      subst (λ time. IsCounter n run.net ports.reset.net (signal_at words v).net time other) sum
      (parts_count n run.net ports.reset.net (signal_at words chain).net tap (signal_at words v).net (now chain) (ticks chain + b.delay)
      word other part own b.late shows same)

  tapped_chain : (v chain tap : ℕ) (word other part : ℕ → ℕ) → chain < length nodes → kind_at nodes chain ≡ K.Chain
      → IsCounter n run.net ports.reset.net (signal_at words chain).net (now chain) word
      → ((c : Contents) (f : Family) → Holds n c f → f (signal_at words v).net ≡ part (f tap)) → ((t : ℕ) → part (word t) ≡ other t)
      → TapOf n nodes ticks now run.net ports.reset.net (standing layout storage.delays words rank) v chain tap
      → IsCounter n run.net ports.reset.net (signal_at words v).net (now v) other
  tapped_chain v chain tap word other part inside kind own shows same t =
      let source = source_here nodes w.kept.orderly chain inside (ap is_offset kind) in
      ⊎_elim
      (λ (q : (is_steady (kind_at nodes (source_of nodes chain).node) ≡ true) × Shows n (of_net (signal_at words (source_of nodes chain).node).net) tap).
      absurd (false≢true (sym (ap (λ (s : Source). is_steady (kind_at nodes s.node)) source ∙ ap is_steady kind) ∙ q.0)))
      (λ (b : IsBehind n ticks now run.net ports.reset.net (standing layout storage.delays words rank) (edge_from nodes v chain) tap).
      behind_chain v chain tap word other part inside kind own shows same (source_of nodes chain) source b)
      t.shows

  part_word : (v place : ℕ) → v < length nodes → kind_at nodes v ≡ K.Part place
      → IsPosition n run.net ports.reset.net storage.position.net
      → IsPartWord m nodes (taps_at layout (late_signals storage.delays) words v) (signal_at words v).net v place
      → TapsOf n nodes ticks now run.net ports.reset.net (standing layout storage.delays words rank) v (operands_at nodes v)
      (taps_at layout (late_signals storage.delays) words v)
      → IsCounter n run.net ports.reset.net (signal_at words v).net (now v) (part_at (digits_at nodes (operand_at nodes v 0)) place)
  part_word v place lt kind position shows taps =
      let part = w.digits.parts v place lt kind in
      let chain = operand_at nodes v 0 in
      let digits = digits_at nodes chain in
      let same : (t : ℕ) → chain_at digits t / 2 ^ bits_below digits place % 2 ^ width_at nodes v ≡ part_at digits place t = λ t.
      ap (λ b. chain_at digits t / 2 ^ bits_below digits place % 2 ^ b) part.bits
      ∙ w.places digits place t part.digit (w.digits.counting chain part.inside (ap counts part.chain)).digits part.at in
      tapped_chain v chain shows.chain (chain_at digits) (part_at digits place) (λ x. x / 2 ^ bits_below digits place % 2 ^ width_at nodes v)
      part.inside part.chain (chain_word chain part.inside (ap counts part.chain) (ap has_state part.chain) position)
      (λ c f h. shows.shows c f (before c f h)) same
      (first_tap n nodes ticks now run.net ports.reset.net (standing layout storage.delays words rank) v (operands_at nodes v)
      (taps_at layout (late_signals storage.delays) words v) shows.chain taps shows.first)

  hold_word : (v : ℕ) → v < length nodes → kind_at nodes v ≡ K.Hold
      → IsHeldWord m timing (taps_at layout (late_signals storage.delays) words v) (net_or_zero (state_at storage.states v)) (signal_at words v).net v
      → IsHoldWord n nodes now nets run.net (standing layout storage.delays words rank) v
  hold_word v lt kind h =
      let s = state_of l nodes storage.states v w.states lt (ap has_state kind) in
      let kept : net_or_zero (state_at storage.states v) ≡ s.register.net = ap net_or_zero s.at in
      let word : (c : Contents) (f : Family) → Holds n c f
      → f (signal_at words v).net ≡ cond (eqb (f h.on) 1) (f h.from) (f s.register.net) = λ c f held.
      h.shows c f (before c f held) ∙ ap (λ x. cond (eqb (f h.on) 1) (f h.from) (f x)) kept in
      record {
        tap = h.from;
        first = h.first;
        on = h.on;
        store = λ c f count held is few within. h.stores c f (before c f held) ∙ ap bit (shown h.store h.second count f is few);
        kept = s.register.net;
        keeper = w.keepers v h.on h.from s.register lt kind s.at word;
        word = word;
      }
    where
      shown : (store : ℕ) → slice_get (taps_at layout (late_signals storage.delays) words v) 1 ≡ Some store → (count : ℕ) (f : Family)
          → f ports.ticks.net ≡ count → count ≤ 2 ^ 40
          → is_in_ticks (f timing.position.net) (f timing.ticks.net) (time_at timing v) && eqb (f store) 1
          ≡ is_shown nodes now (standing layout storage.delays words rank) count v (f storage.position.net) f
      shown store second count f is few =
          let p = f storage.position.net in
          let on = eqb (f store) 1 in
          let control : control_tap nodes (standing layout storage.delays words rank) v ≡ Some store =
          ap (λ k. control_in k (taps_at layout (late_signals storage.delays) words v)) kind ∙ second in
          ap (λ (s : Signal). is_in_ticks (f s.net) (f timing.ticks.net) (time_at timing v) && on) w.position
          ∙ ap (λ (s : Signal). is_in_ticks p (f s.net) (time_at timing v) && on) w.counted
          ∙ ap (λ k. is_in_ticks p k (time_at timing v) && on) is
          ∙ ap (λ time. is_in_ticks p count time && on) (w.timed v lt)
          ∙ ap (λ b. b && on) (in_ticks (now v) count p (small v lt) few)
          ∙ ap (λ o. is_active (now v) count p && is_let o f) (sym control)

  -- ---- one node

  -- a word that counts, as its own net shows it
  counted : (v : ℕ) (digit : ℕ → ℕ) → IsCounter n run.net ports.reset.net (signal_at words v).net (now v) digit
      → IsCounted n run.net ports.reset.net (standing layout storage.delays words rank) v (now v) digit
  counted v digit counts = record { net = (signal_at words v).net; shows = λ c f h. refl; counts = counts }

  word_of : (v : ℕ) (k : Kind) → v < length nodes → kind_at nodes v ≡ k → IsPosition n run.net ports.reset.net storage.position.net
      → IsWired m nodes timing (taps_at layout (late_signals storage.delays) words v) (net_or_zero (state_at storage.states v)) (signal_at words v).net v k
      → (has_taps k ≡ true
      → TapsOf n nodes ticks now run.net ports.reset.net (standing layout storage.delays words rank) v (operands_at nodes v)
      (taps_at layout (late_signals storage.delays) words v))
      → HasWord n nodes now nets run.net (standing layout storage.delays words rank) v k
  word_of v K.Input lt kind position x taps = port_word v (w.added.inputs v lt kind)
  word_of v K.Scalar lt kind position x taps = scalar_word v (w.added.scalars v lt kind)
  word_of v K.Output lt kind position x taps = record { tap = (signal_at words v).net; first = x; same = λ c f h. refl }
  word_of v K.Feed lt kind position x taps = record { tap = (signal_at words v).net; first = x; same = λ c f h. refl }
  word_of v (K.Constant word) lt kind position x taps = λ c f h. x c f (before c f h)
  word_of v (K.Operation op mode amount) lt kind position x taps = λ c f h. x c f (before c f h)
  word_of v (K.Offset ahead) lt kind position x taps = tt
  word_of v K.Hold lt kind position x taps = hold_word v lt kind x
  word_of v K.Counter lt kind position x taps = counted v (part_at (digits_at nodes v) 0)
      (counter_same n run.net ports.reset.net (signal_at words v).net (now v) (chain_at (digits_at nodes v)) (part_at (digits_at nodes v) 0)
      (λ t. alone_at (digits_at nodes v) t (w.digits.alone v lt kind)) (chain_word v lt (ap counts kind) (ap has_state kind) position))
  word_of v K.Chain lt kind position x taps = counted v (chain_at (digits_at nodes v)) (chain_word v lt (ap counts kind) (ap has_state kind) position)
  word_of v (K.Part place) lt kind position x taps =
      counted v (part_at (digits_at nodes (operand_at nodes v 0)) place) (part_word v place lt kind position x (taps refl))

  taps_offset : (k : Kind) → has_taps k ≡ true → is_offset k ≡ false
  taps_offset (K.Offset ahead) h = absurd (false≢true h)
  taps_offset _ h = refl

  node_built : IsPosition n run.net ports.reset.net storage.position.net → (v : ℕ) → v < length nodes
      → NodeBuilt n nodes ticks now nets run.net (standing layout storage.delays words rank) v
  node_built position v lt =
      let taps : has_taps (kind_at nodes v) ≡ true
      → TapsOf n nodes ticks now run.net ports.reset.net (standing layout storage.delays words rank) v (operands_at nodes v)
      (taps_at layout (late_signals storage.delays) words v) = λ has.
      taps_of n nodes ticks times layout storage.delays words rank run.net ports.reset.net w.kept v lt (taps_offset (kind_at nodes v) has) in
      record { word = word_of v (kind_at nodes v) lt refl position (w.added.built v lt) taps; taps = taps }

  -- ---- the rest

  outputs_built : All (OutputBuilt n nodes (standing layout storage.delays words rank)) (map channel_of ports.outputs)
  outputs_built =
      let kinds : All (λ (port : StreamSignals). IsNodeOf nodes K.Output port.node) ports.outputs =
      all_unmapped (λ (port : StreamSignals). port.node) (IsNodeOf nodes K.Output) ports.outputs
      (subst (All (IsNodeOf nodes K.Output)) (sym output_nodes) (outputs_are nodes)) in
      let both = all_both (λ (port : StreamSignals). IsNodeOf nodes K.Output port.node) (IsDriven m words) ports.outputs kinds w.added.shows in
      let B : PortChannel → Type 0 = OutputBuilt n nodes (standing layout storage.delays words rank) in
      all_mapped channel_of B ports.outputs
      (all_weaker (λ (port : StreamSignals). IsNodeOf nodes K.Output port.node × IsDriven m words port)
      (λ (port : StreamSignals). B (channel_of port)) ports.outputs both
      (λ port h. record { output = h.0.kind; word = λ c f held. h.1 c f (before c f held) }))

  small_last : last_time nodes now ≤ 2 ^ 46
  small_last =
      let P : ℕ → Type 0 = λ v. now v ≤ 2 ^ 46 in
      greatest_small now (2 ^ 46) (inputs_of nodes ++ outputs_of nodes)
      (All-append P (inputs_of nodes) (outputs_of nodes)
      (all_weaker (IsNodeOf nodes K.Input) P (inputs_of nodes) (inputs_are nodes) (λ v h. small v h.within))
      (all_weaker (IsNodeOf nodes K.Output) P (outputs_of nodes) (outputs_are nodes) (λ v h. small v h.within)))

  still : (c : Contents) (f : Family) → Holds n c f → f run.net ≡ 0 → f ports.reset.net ≡ 0 → AllOff f n.updates
  still c f h r z = w.still c f h r z (subst (AllOff f) (sym (w.added.updates ∙ w.empty)) tt)

  pub is_built : IsControl n nodes now (control_tap nodes (standing layout storage.delays words rank)) nets run.net
      → IsBuilt n nodes ticks now nets run.net (standing layout storage.delays words rank)
  is_built h =
      let position : IsPosition n run.net ports.reset.net storage.position.net =
      record { register = h.position; cleared = h.cleared; steps = h.steps } in
      record {
        sound = w.grown.sound;
        small = small_last;
        control = record { position = position; shows = h.shows };
        each = node_built position;
        outputs = outputs_built;
        still = still;
      }
