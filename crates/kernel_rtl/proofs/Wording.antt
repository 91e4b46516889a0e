-- The words of nodes, as they are added.
use Rattle.std.proofs.Common.{
  ◌≡◌,
  ℕ,
  zero,
  suc,
  ◌<◌,
  Bool,
  true,
  false,
  cond,
  List,
  [],
  ◌∷◌,
  ◌++◌,
  map,
  length,
  get_or,
  Option,
  Some,
  None,
  refl,
  sym,
  ap,
  ◌∙◌,
  subst,
  arith,
}
use Rattle.std.specs.Prelude.{All}
use Rattle.std.proofs.lemmas.Bool.{false≢true}
use Rattle.std.proofs.lemmas.List.Elements.{All-nil, All-cons, All-append}
use Rattle.std.proofs.lemmas.List.{get_or_default}
use Rattle.rtl_ir.specs.declared.design.Module.{Module}
use Rattle.rtl_build.specs.declared.signal.Signal.{Signal}
use Rattle.rtl_delays.specs.declared.elements.Element.{Element}
use Rattle.rtl_delays.specs.Elements.{shown, HasElement}
use Rattle.rtl_delays.specs.Extends.{Extends}
use Rattle.rtl_delays.proofs.Extends.{more_nets, extends_on}
use Rattle.rtl_delays.proofs.Kept.{no_register_on}
use Rattle.rtl_delays.proofs.Started.{shown_signal}
use Rattle.stream_graph.specs.declared.node.Kind.{Kind}
use Rattle.stream_graph.specs.declared.node.Kind.TheVariants as K
use Rattle.stream_graph.specs.declared.node.Node.{Node}
use Rattle.stream_graph.specs.LookUps.{kind_at, operands_at, width_at}
use Rattle.stream_graph.specs.Kinds.{is_offset}
use Rattle.stream_graph.proofs.NodeLemmas.{IsOrderly}
use Rattle.kernel_control.specs.Nets.{MayEnable}
use Rattle.kernel_control.specs.Outputs.{AreUndriven}
use Rattle.kernel_control.proofs.Outs.{AllUnder, undriven_kept}
use Rattle.kernel_layout.specs.declared.layout.Layout.{Layout}
use Rattle.kernel_layout.specs.Reads.{no_read, read_at, reads_count}
use Rattle.kernel_ports.specs.declared.signals.NodeSignal.{NodeSignal}
use Rattle.kernel_ports.specs.declared.signals.StreamSignals.{StreamSignals}
use Rattle.kernel_ports.specs.declared.signals.KernelSignals.{KernelSignals}
use Rattle.kernel_ports.specs.HasKernelPorts.{IsScalarPort, IsInputPort, IsOutputPort}
use Rattle.kernel_stages.specs.declared.node.NodeDelays.{NodeDelays}
use Rattle.kernel_stages.specs.Chains.{elements_of, delays_at, joined, last_shown, end_of, signals_of, AreChains, AreWide}
use Rattle.kernel_types.specs.Types.{counts}
use Rattle.kernel_states.specs.States.{has_state, state_at, IsState, IsStateRegister, AreStates}
use Rattle.kernel_wiring.specs.declared.timing.Timing.{Timing}
use Rattle.kernel_wiring.specs.Words.{has_word, is_wired, is_given, signal_at, reads_at, taps_at, control_at, IsWordOf, AreGiven, AreLate, IsLaidOut, IsReadIn}
use Rattle.kernel_wiring.specs.AllNodes.{AddsNodes}
use Rattle.kernel_wiring.specs.Controls.{AreThere}
use Rattle.kernel_wiring.proofs.Stepping.{wired_on}
use Rattle.kernel_rtl.specs.declared.storage.Storage.{Storage}
use Rattle.kernel_rtl.specs.Planned.{widths_of}
use Rattle.kernel_rtl.specs.Words.{
  IsGivenBy,
  IsGivenWord,
  IsGivenScalar,
  AreGivenWords,
  late_signals,
  data_nets,
  net_or_zero,
  MayBeDriven,
  DrivesWords,
  HasStreams,
  AddsWords,
}
use Rattle.kernel_rtl.proofs.Numbers.{map_length, all_mapped, all_unmapped, all_weaker, all_both, item_at, IsNodeOf, scalars_are, inputs_are, outputs_are}
use Rattle.kernel_rtl.proofs.Taps.{late_node, signals_length, kept_stage}

-- ---- delays

first_of : {A : Type 0} (P : A → Type 0) (xs ys : List A) → All P (xs ++ ys) → All P xs
first_of P [] ys h = All-nil P
first_of P (x ∷ xs) ys h = All-cons P x xs (h 0 x (omega arith)) (first_of P xs ys (λ i d lt. h (suc i) d (omega arith)))

rest_of : {A : Type 0} (P : A → Type 0) (xs ys : List A) → All P (xs ++ ys) → All P ys
rest_of P [] ys h = h
rest_of P (x ∷ xs) ys h = rest_of P xs ys (λ i d lt. h (suc i) d (omega arith))

-- what holds of all delays holds of those of a node
pub of_joined : (P : Element → Type 0) (ds : List NodeDelays) (u : ℕ) → All P (joined ds) → All P (elements_of (delays_at ds u))
of_joined P [] u h = All-nil P
of_joined P (d ∷ ds) zero h = first_of P (elements_of d) (joined ds) h
of_joined P (d ∷ ds) (suc u) h = of_joined P ds u (rest_of P (elements_of d) (joined ds) h)

-- what holds of what delays show holds of the end of a chain
end_holds : (P : Signal → Type 0) (s : Signal) (es : List Element) → P s → All (λ e. P (shown e)) es → P (last_shown s es)
end_holds P s [] h all = h
end_holds P s (e ∷ es) h all = end_holds P (shown e) es (all 0 e (omega arith)) (λ i d lt. all (suc i) d (omega (arith, lt)))

ends_hold : (P : Signal → Type 0) (es : List Element) → All (λ e. P (shown e)) es → All P (end_of es)
ends_hold P [] all = All-nil P
ends_hold P (e ∷ es) all =
    All-cons P (last_shown (shown e) es) [] (end_holds P (shown e) es (all 0 e (omega arith)) (λ i d lt. all (suc i) d (omega (arith, lt)))) (All-nil P)

-- so it does of the signals that show a node's word later
signals_hold : (P : Signal → Type 0) (d : NodeDelays) → All (λ e. P (shown e)) (elements_of d) → All P (signals_of d)
signals_hold P d all =
    All-append P (end_of d.pipeline) (map shown d.waits) (ends_hold P d.pipeline (first_of (λ e. P (shown e)) d.pipeline d.waits all))
    (all_mapped shown P d.waits (rest_of (λ e. P (shown e)) d.pipeline d.waits all))

pub width_is : (nodes : List Node) (u : ℕ) → u < length nodes → get_or (widths_of nodes) u 0 ≡ width_at nodes u
width_is [] u lt = absurd (omega arith)
width_is (n ∷ ns) zero lt = refl
width_is (n ∷ ns) (suc u) lt = width_is ns u (omega arith)

-- the signals that the delays show
pub are_late : (m : Module) (nodes : List Node) (layout : Layout) (delays : List NodeDelays) → length layout.waits ≡ length nodes
    → AreChains layout.pipeline layout.waits delays
    → AreWide (widths_of nodes) delays → All (HasElement m) (joined delays) → AreLate m nodes layout (late_signals delays)
are_late m nodes layout delays counted late wide stand =
    let long = late.counted in record {
      counted = map_length signals_of delays ∙ long ∙ counted;
      same = λ n lt.
          let ln : n < length delays = omega (arith, lt, long, counted) in
          ap length (late_node delays n ln) ∙ signals_length (get_or layout.pipeline n 0) (get_or layout.waits n []) (delays_at delays n) (late.each n ln);
      each = λ n lt.
          let ln : n < length delays = omega (arith, lt, long, counted) in
          let d = delays_at delays n in
          let both = all_both (HasElement m) (λ e. (shown e).width ≡ get_or (widths_of nodes) n 0) (elements_of d)
          (of_joined (HasElement m) delays n stand) (wide n ln) in
          let shows = all_weaker (λ e. HasElement m e × ((shown e).width ≡ get_or (widths_of nodes) n 0)) (λ e. IsWordOf m nodes n (shown e))
          (elements_of d) both
          (λ e h. record { signal = shown_signal m e h.0; bits = h.1 ∙ width_is nodes n lt }) in
          subst (All (IsWordOf m nodes n)) (sym (late_node delays n ln)) (signals_hold (IsWordOf m nodes n) d shows);
    }

-- ---- words that are given

word_given : (m : Module) (nodes : List Node) (inputs : List StreamSignals) (words : List Signal) (n : ℕ) → All (IsInputPort nodes m) inputs
    → IsGivenWord inputs words n → IsWordOf m nodes n (signal_at words n)
word_given m nodes inputs words n ports g =
    let p = item_at (IsInputPort nodes m) inputs ports g.place g.port g.at in
    let here : IsWordOf m nodes n g.port.word = record { signal = p.word.signal; bits = p.word.width ∙ ap (width_at nodes) g.own } in
    subst (IsWordOf m nodes n) (sym g.is) here

scalar_given : (m : Module) (nodes : List Node) (scalars : List NodeSignal) (words : List Signal) (n : ℕ) → All (IsScalarPort nodes m) scalars
    → IsGivenScalar scalars words n → IsWordOf m nodes n (signal_at words n)
scalar_given m nodes scalars words n ports g =
    let p = item_at (IsScalarPort nodes m) scalars ports g.place g.port g.at in
    let here : IsWordOf m nodes n g.port.signal = record { signal = p.signal.signal; bits = p.signal.width ∙ ap (width_at nodes) g.own } in
    subst (IsWordOf m nodes n) (sym g.is) here

-- the register of a node that keeps a state
pub record HasState (m : Module) (nodes : List Node) (states : List (Option Signal)) (n : ℕ) : Type 0 where
  pub register : Signal
  pub at : state_at states n ≡ Some register
  pub stands : IsStateRegister m nodes n register

pub state_of : (m : Module) (nodes : List Node) (states : List (Option Signal)) (n : ℕ) → AreStates m nodes states → n < length nodes
    → has_state (kind_at nodes n) ≡ true → HasState m nodes states n
state_of m nodes states n a lt has = by_state (state_at states n) refl (a.each n lt)
  where
    by_state : (o : Option Signal) → state_at states n ≡ o → IsState m nodes n o → HasState m nodes states n
    by_state None e h = absurd (false≢true (sym h ∙ has))
    by_state (Some s) e h = record { register = s; at = e; stands = h.1 }

state_given : (m : Module) (nodes : List Node) (states : List (Option Signal)) (words : List Signal) (n : ℕ) → HasState m nodes states n
    → ((s : Signal) → state_at states n ≡ Some s → signal_at words n ≡ s) → IsWordOf m nodes n (signal_at words n)
state_given m nodes states words n h given =
    let here : IsWordOf m nodes n h.register = record { signal = h.stands.signal; bits = h.stands.width } in
    subst (IsWordOf m nodes n) (sym (given h.register h.at)) here

pub are_given : (m : Module) (nodes : List Node) (ports : KernelSignals) (states : List (Option Signal)) (words : List Signal) → HasStreams m nodes ports
    → AreStates m nodes states → AreGivenWords nodes ports states words → AreGiven m nodes words
are_given m nodes ports states words streams stand given = record {
  counted = given.counted;
  each = λ n lt has. by_kind n lt (kind_at nodes n) refl has;
}
  where
    kept : (n : ℕ) → n < length nodes → has_state (kind_at nodes n) ≡ true → IsWordOf m nodes n (signal_at words n)
    kept n lt has = state_given m nodes states words n (state_of m nodes states n stand lt has) (λ s e. given.kept n s lt e)

    by_kind : (n : ℕ) → n < length nodes → (k : Kind) → kind_at nodes n ≡ k → is_given k ≡ true → IsWordOf m nodes n (signal_at words n)
    by_kind n lt K.Input e has = word_given m nodes ports.inputs words n streams.inputs (given.inputs n lt e)
    by_kind n lt K.Scalar e has = scalar_given m nodes ports.scalars words n streams.scalars (given.scalars n lt e)
    by_kind n lt K.Hold e has = kept n lt (ap has_state e)
    by_kind n lt K.Counter e has = kept n lt (ap has_state e)
    by_kind n lt K.Chain e has = kept n lt (ap has_state e)
    by_kind n lt _ e has = absurd (false≢true has)

pub input_ports : (m : Module) (nodes : List Node) (ports : KernelSignals) → HasStreams m nodes ports
    → All (λ (port : StreamSignals). IsNodeOf nodes K.Input port.node) ports.inputs
input_ports m nodes ports h =
    all_unmapped (λ (port : StreamSignals). port.node) (IsNodeOf nodes K.Input) ports.inputs
    (subst (All (IsNodeOf nodes K.Input)) (sym h.input_nodes) (inputs_are nodes))

pub scalar_ports : (m : Module) (nodes : List Node) (ports : KernelSignals) → HasStreams m nodes ports
    → All (λ (port : NodeSignal). IsNodeOf nodes K.Scalar port.node) ports.scalars
scalar_ports m nodes ports h =
    all_unmapped (λ (port : NodeSignal). port.node) (IsNodeOf nodes K.Scalar) ports.scalars
    (subst (All (IsNodeOf nodes K.Scalar)) (sym h.scalar_nodes) (scalars_are nodes))

pub output_ports : (m : Module) (nodes : List Node) (ports : KernelSignals) → HasStreams m nodes ports
    → All (λ (port : StreamSignals). IsNodeOf nodes K.Output port.node) ports.outputs
output_ports m nodes ports h =
    all_unmapped (λ (port : StreamSignals). port.node) (IsNodeOf nodes K.Output) ports.outputs
    (subst (All (IsNodeOf nodes K.Output)) (sym h.output_nodes) (outputs_are nodes))

-- ---- outputs

pub may_drive : (m n : Module) (nodes : List Node) (layout : Layout) (late : List (List Signal)) (timing : Timing) (before after : List Signal)
    (ports : KernelSignals) → HasStreams m nodes ports → length before ≡ length nodes → AddsNodes m n nodes layout late timing before after
    → All (MayBeDriven n after) ports.outputs
may_drive m n nodes layout late timing before after ports h counted a =
    all_weaker (λ (port : StreamSignals). IsOutputPort nodes m port × IsNodeOf nodes K.Output port.node) (MayBeDriven n after) ports.outputs
    (all_both (IsOutputPort nodes m) (λ (port : StreamSignals). IsNodeOf nodes K.Output port.node) ports.outputs h.outputs (output_ports m nodes ports h))
    (λ port q.
    let word = a.words port.node q.1.within (ap has_word q.1.kind) in
    let all = a.counted in
    let lt = q.1.within in record {
      node = omega (arith, all, counted, lt);
      output = a.wires.extends.outputs port.word q.0.word.output;
      source = word.signal;
      same = word.bits ∙ sym q.0.word.width;
    })

data_under : (m : Module) (nodes : List Node) (ys : List StreamSignals) → All (IsOutputPort nodes m) ys → AllUnder (length m.nets) (data_nets ys)
data_under m nodes [] h = tt
data_under m nodes (y ∷ ys) h = ((h 0 y (omega arith)).word.output.net, data_under m nodes ys (λ i d lt. h (suc i) d (omega arith)))

pub still_undriven : (m n : Module) (nodes : List Node) (layout : Layout) (late : List (List Signal)) (timing : Timing) (before after : List Signal)
    (ports : KernelSignals) → HasStreams m nodes ports → AddsNodes m n nodes layout late timing before after → AreUndriven m (data_nets ports.outputs)
    → AreUndriven n (data_nets ports.outputs)
still_undriven m n nodes layout late timing before after ports h a u =
    undriven_kept m n a.wires.undriven (data_nets ports.outputs) (data_under m nodes ports.outputs h.outputs) u

-- ---- words that are read

some_count : (b : Bool) (size i : ℕ) → i < cond b 0 size → (b ≡ false) × (i < size)
some_count true size i h = absurd (omega (arith, h))
some_count false size i h = (refl, h)

-- the words of all reads are there
pub are_there : (m : Module) (nodes : List Node) (layout : Layout) (late : List (List Signal)) (words : List Signal) → IsOrderly nodes
    → IsLaidOut nodes layout → AreLate m nodes layout late → length words ≡ length nodes → AreThere layout late words nodes
are_there m nodes layout late words o laid shows same n lt i d li =
    let all = laid.is.reads.each n lt in
    let counted = all.counted in
    let below : i < reads_count nodes n = omega (arith, li, counted) in
    let some = some_count (is_offset (kind_at nodes n)) (length (operands_at nodes n)) i below in
    let read = read_at (reads_at layout n) i in
    let r = all.each i below in
    let inside = r.inside in
    let pipeline = laid.is.pipeline.counted in
    let behind = laid.is.waits.counted in
    let signals = shows.counted in
    let here : IsReadIn layout late words read = record {
      source = omega (arith, inside, same);
      later = λ waits. record {
        node = omega (arith, inside, pipeline);
        waits = omega (arith, inside, behind);
        known = omega (arith, inside, signals);
        same = shows.same read.source inside;
        kept = kept_stage nodes laid.ticks laid.times layout o laid.is.pipeline laid.is.waits n i read lt some.0 some.1 r waits;
      };
    } in
    subst (IsReadIn layout late words) (get_or_default (reads_at layout n) i no_read d li) here

-- ---- all of it

-- counters get no wires
counts_given : (k : Kind) → counts k ≡ true → is_wired k ≡ false
counts_given K.Counter h = refl
counts_given K.Chain h = refl
counts_given K.Input h = refl
counts_given K.Scalar h = refl
counts_given (K.Offset ticks) h = refl
counts_given _ h = absurd (false≢true h)

given_moved : {A : Type 0} (node : A → ℕ) (word : A → Signal) (ports : List A) (before after : List Signal) (n : ℕ)
    → signal_at after n ≡ signal_at before n → IsGivenBy node word ports before n → IsGivenBy node word ports after n
given_moved node word ports before after n same g =
    record { place = g.place; port = g.port; at = g.at; own = g.own; is = same ∙ g.is }

enable_on : (m n : Module) (o : Option Signal) → Extends m n → MayEnable m o → MayEnable n o
enable_on m n None e h = tt
enable_on m n (Some s) e h = record { signal = e.keeps s h.signal; width = h.width }

module _ (l m n : Module) (nodes : List Node) (layout : Layout) (ports : KernelSignals) (storage : Storage) (timing : Timing) (before after : List Signal)
    (streams : HasStreams l nodes ports) (stand : AreStates l nodes storage.states) (given : AreGivenWords nodes ports storage.states before)
    (a : AddsNodes l m nodes layout (late_signals storage.delays) timing before after) (d : DrivesWords m n after ports.outputs) where
  -- what is given of a hold is its register
  hold_kept : (k : ℕ) → k < length nodes → kind_at nodes k ≡ K.Hold → (signal_at before k).net ≡ net_or_zero (state_at storage.states k)
  hold_kept k lt kind =
      let s = state_of l nodes storage.states k stand lt (ap has_state kind) in
      ap (λ (x : Signal). x.net) (given.kept k s.register lt s.at) ∙ sym (ap net_or_zero s.at)

  pub words_added : AreThere layout (late_signals storage.delays) after nodes → AddsWords l n nodes layout ports storage timing after
  words_added there =
      let w = a.wires in
      let e = d.extends in
      record {
        extends = extends_on w.extends e;
        updates = d.updates ∙ w.updates;
        stored = d.stored ∙ w.stored;
        nets = let x = ap length d.nets in let y = w.nets in omega (arith, x, y);
        registers = no_register_on l m n w.registers d.registers;
        leaves = λ k lt free none. d.leaves k (let q = more_nets w.extends.grows in omega (arith, q, lt)) (w.undriven k lt free) none;
        driven = d.driven;
        shows = d.shows;
        counted = a.counted ∙ given.counted;
        inputs = λ k lt kind. given_moved (λ (p : StreamSignals). p.node) (λ (p : StreamSignals). p.word) ports.inputs before after k
            (a.given k (ap is_wired kind)) (given.inputs k lt kind);
        scalars = λ k lt kind. given_moved (λ (p : NodeSignal). p.node) (λ (p : NodeSignal). p.signal) ports.scalars before after k
            (a.given k (ap is_wired kind)) (given.scalars k lt kind);
        states = λ k s lt has at. a.given k (counts_given (kind_at nodes k) has) ∙ given.kept k s lt at;
        stand = λ k lt has. let q = a.words k lt has in record { signal = e.keeps (signal_at after k) q.signal; bits = q.bits };
        built = λ k lt.
            wired_on m n nodes timing (taps_at layout (late_signals storage.delays) after k) (signal_at before k).net
            (net_or_zero (state_at storage.states k)) (signal_at after k).net k (kind_at nodes k) e.before (hold_kept k lt) (a.built k lt);
        there = there;
        controls = λ k lt. enable_on m n (control_at nodes layout (late_signals storage.delays) after k) e (a.controls k lt);
      }

-- ---- whatever the lists are called

pub nodes_named : (m n : Module) (nodes : List Node) (layout : Layout) (late late' : List (List Signal)) (timing : Timing)
    (before before' after : List Signal) → late ≡ late' → before ≡ before' → AddsNodes m n nodes layout late timing before after
    → AddsNodes m n nodes layout late' timing before' after
nodes_named m n nodes layout late late' timing before before' after e f a =
    subst (λ l. AddsNodes m n nodes layout l timing before' after) e (subst (λ b. AddsNodes m n nodes layout late timing b after) f a)

pub may_named : (m : Module) (words words' : List Signal) (outputs outputs' : List StreamSignals) → words' ≡ words → outputs' ≡ outputs
    → All (MayBeDriven m words) outputs → All (MayBeDriven m words') outputs'
may_named m words words' outputs outputs' e f h = subst (λ ws. All (MayBeDriven m ws) outputs') (sym e) (subst (All (MayBeDriven m words)) (sym f) h)

pub drives_named : (m n : Module) (words words' : List Signal) (outputs outputs' : List StreamSignals) → words ≡ words' → outputs ≡ outputs'
    → DrivesWords m n words outputs → DrivesWords m n words' outputs'
drives_named m n words words' outputs outputs' e f h = subst (λ ws. DrivesWords m n ws outputs') e (subst (DrivesWords m n words) f h)
