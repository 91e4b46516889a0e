-- Nodes that have their wires, one after another.
use Rattle.std.proofs.Common.{
  ◌≡◌,
  ◌∙◌,
  ℕ,
  zero,
  suc,
  ◌+◌,
  ◌*◌,
  ◌≤◌,
  ◌<◌,
  Bool,
  true,
  false,
  cond,
  eqb,
  List,
  [],
  ◌∷◌,
  map,
  length,
  get_or,
  slice_set,
  Some,
  None,
  refl,
  ap,
  sym,
  subst,
  arith,
  ⊎_elim,
}
use Rattle.std.specs.Prelude.{All, Contains}
use Rattle.std.proofs.lemmas.Bool.{false≢true, cases_Bool, cases_eq}
use Rattle.std.proofs.lemmas.List.{get_or_default}
use Rattle.rtl_ir.specs.declared.design.Module.{Module}
use Rattle.rtl_ir.specs.Value.{Family, Contents}
use Rattle.rtl_ir.specs.Grow.{Holds}
use Rattle.rtl_build.specs.declared.signal.Signal.{Signal}
use Rattle.rtl_build.specs.Wires.{AddsWires}
use Rattle.rtl_delays.specs.Steps.{IsSound}
use Rattle.rtl_delays.specs.Extends.{Extends}
use Rattle.rtl_delays.proofs.Extends.{extends_same, extends_on, wires_extends}
use Rattle.rtl_delays.proofs.Stored.{wires_stored}
use Rattle.rtl_delays.proofs.Undriven.{same_undriven, wires_undriven, undriven_on}
use Rattle.rtl_delays.proofs.Kept.{wires_no_register, no_register_on}
use Rattle.stream_graph.specs.declared.node.Kind.{Kind}
use Rattle.stream_graph.specs.declared.node.Kind.TheVariants as K
use Rattle.stream_graph.specs.declared.node.Node.{Node}
use Rattle.stream_graph.specs.LookUps.{no_node, kind_at, operands_at, operand_at}
use Rattle.stream_graph.proofs.NodeLemmas.{IsOrderly}
use Rattle.kernel_layout.specs.declared.layout.Layout.{Layout}
use Rattle.kernel_layout.specs.declared.reads.Read.{Read}
use Rattle.kernel_layout.specs.Reads.{no_read, read_at}
use Rattle.kernel_layout.specs.Layouts.{stages_at}
use Rattle.kernel_wiring.specs.Words.{
  has_word,
  is_wired,
  no_signal,
  signal_at,
  late_at,
  late_of,
  read_signal,
  read_net,
  reads_at,
  signals_at,
  control_among,
  control_at,
  taps_at,
  IsWordOf,
  is_given,
  AreGiven,
  AreLate,
  IsLaidOut,
  IsReadIn,
}
use Rattle.kernel_control.specs.Nets.{HasWidth, MayEnable}
use Rattle.kernel_wiring.specs.declared.timing.Timing.{Timing}
use Rattle.kernel_wiring.specs.Timing.{IsTiming}
use Rattle.kernel_wiring.specs.Costs.{word_wires, word_nets}
use Rattle.kernel_wiring.specs.OneNode.{IsWired, IsReadable, AddsWord}
use Rattle.kernel_wiring.specs.AllNodes.{AddsOnlyWires, AddsNodes}
use Rattle.kernel_types.specs.Types.{takes_bit, AreTyped}
use Rattle.kernel_wiring.proofs.Mapped.{get_map, length_map}
use Rattle.kernel_wiring.proofs.Sums.{sum_below, sum_of_list, sum_apart}
use Rattle.kernel_wiring.proofs.Stages.{is_zero, not_zero}
use Rattle.kernel_wiring.proofs.Readable.{takes_wired, read_of, reads_all, node_in, place_of}

-- ---- lists

set_same : (xs : List Signal) (v : ℕ) (s : Signal) → v < length xs → get_or (slice_set xs v s) v no_signal ≡ s
set_same [] v s h = absurd (omega arith)
set_same (x ∷ xs) zero s h = refl
set_same (x ∷ xs) (suc v) s h = set_same xs v s (omega (arith, h))

set_other : (xs : List Signal) (v u : ℕ) (s : Signal) → (v ≡ u → ⊥) → get_or (slice_set xs v s) u no_signal ≡ get_or xs u no_signal
set_other [] v u s h = refl
set_other (x ∷ xs) zero zero s h = absurd (h refl)
set_other (x ∷ xs) zero (suc u) s h = refl
set_other (x ∷ xs) (suc v) zero s h = refl
set_other (x ∷ xs) (suc v) (suc u) s h = set_other xs v u s (λ e. h (ap suc e))

set_length : (xs : List Signal) (v : ℕ) (s : Signal) → length (slice_set xs v s) ≡ length xs
set_length [] v s = refl
set_length (x ∷ xs) zero s = refl
set_length (x ∷ xs) (suc v) s = ap suc (set_length xs v s)

each_more : (P : ℕ → Type 0) (k : ℕ) → ((j : ℕ) → j < k → P j) → P k → (j : ℕ) → j < k + 1 → P j
each_more P k each last j h = ⊎_elim
    (λ (e : j ≡ k). subst P (sym e) last)
    (λ (d : j ≡ k → ⊥). each j (omega (arith, h, d)))
    (cases_eq j k)

-- what holds of each signal holds of the one at a stage that there is
late_word : (P : Signal → Type 0) (stages : List ℕ) (signals : List Signal) (b : ℕ) → length signals ≡ length stages → All P signals
    → Contains stages b → P (late_of stages signals b)
late_word P [] signals b e a c = absurd (let l = c.1 in omega (arith, l))
late_word P (x ∷ stages) [] b e a c = absurd (omega (arith, e))
late_word P (x ∷ stages) (s ∷ signals) b e a c = by_test (eqb x b) refl c.0 c.1 c.2
    (λ k. late_word P stages signals b (omega (arith, e)) (λ i d h. a (suc i) d (omega (arith, h))) k)
  where
    by_test : (t : Bool) → eqb x b ≡ t → (k : ℕ) → k < length (x ∷ stages) → get_or (x ∷ stages) k b ≡ b
        → (Contains stages b → P (late_of stages signals b)) → P (cond t s (late_of stages signals b))
    by_test true q k h is more = a 0 s (omega arith)
    by_test false q zero h is more = absurd (grind (arith, q, is))
    by_test false q (suc k) h is more = more (k, (omega (arith, h)), is)

same_nets : (layout : Layout) (late : List (List Signal)) (words after : List Signal) (reads : List Read)
    → ((p : ℕ) → p < length reads → (get_or reads p no_read).behind ≡ 0 → signal_at after (get_or reads p no_read).source ≡ signal_at words
    (get_or reads p no_read).source)
    → map (read_net layout late after) reads ≡ map (read_net layout late words) reads
same_nets layout late words after [] same = refl
same_nets layout late words after (r ∷ reads) same =
    ap (λ (s : Signal). s.net ∷ map (read_net layout late after) reads) (one (eqb r.behind 0) refl)
    ∙ ap (λ ns. read_net layout late words r ∷ ns) (same_nets layout late words after reads (λ p h z. same (suc p) (omega (arith, h)) z))
  where
    one : (t : Bool) → eqb r.behind 0 ≡ t
        → cond t (signal_at after r.source) (late_of (stages_at layout r.source) (late_at late r.source) r.behind) ≡ cond t
        (signal_at words r.source) (late_of (stages_at layout r.source) (late_at late r.source) r.behind)
    one true e = same 0 (omega arith) (grind (arith, e))
    one false e = refl

-- ---- controls

control_bit : (m : Module) (k : Kind) (signals : List Signal)
    → ((i : ℕ) → takes_bit k i ≡ true → i < length signals → HasWidth m 1 (get_or signals i no_signal)) → MayEnable m (control_among k signals)
control_bit m K.Input [] bit = tt
control_bit m K.Input (s ∷ signals) bit = bit 0 refl (omega arith)
control_bit m K.Output [] bit = tt
control_bit m K.Output (s ∷ []) bit = tt
control_bit m K.Output (s ∷ c ∷ signals) bit = bit 1 refl (omega arith)
control_bit m _ signals bit = tt

-- ---- what a module keeps

-- wires in a larger module, and what a hold keeps by another name
pub wired_on : (m n : Module) (nodes : List Node) (timing : Timing) (taps : List ℕ) (kept kept' net v : ℕ) (k : Kind)
    → ((c : Contents) (f : Family) → Holds n c f → Holds m c f) → (k ≡ K.Hold → kept ≡ kept') → IsWired m nodes timing taps kept net v k
    → IsWired n nodes timing taps kept' net v k
wired_on m n nodes timing taps kept kept' net v K.Output before same w = w
wired_on m n nodes timing taps kept kept' net v (K.Constant word) before same w = λ c f h. w c f (before c f h)
wired_on m n nodes timing taps kept kept' net v (K.Operation op mode amount) before same w = λ c f h. w c f (before c f h)
wired_on m n nodes timing taps kept kept' net v K.Feed before same w = w
wired_on m n nodes timing taps kept kept' net v (K.Part place) before same w = record {
  chain = w.chain;
  first = w.first;
  shows = λ c f h. w.shows c f (before c f h);
}
wired_on m n nodes timing taps kept kept' net v K.Hold before same w = record {
  from = w.from;
  first = w.first;
  store = w.store;
  second = w.second;
  on = w.on;
  stores = λ c f h. w.stores c f (before c f h);
  shows = λ c f h. w.shows c f (before c f h) ∙ ap (λ x. cond (eqb (f w.on) 1) (f w.from) (f x)) (same refl);
}
wired_on m n nodes timing taps kept kept' net v _ before same w = tt

wired_kept : (m n : Module) → ((c : Contents) (f : Family) → Holds n c f → Holds m c f)
    → (nodes : List Node) (timing : Timing) (taps : List ℕ) (kept net v : ℕ) (k : Kind) → IsWired m nodes timing taps kept net v k
    → IsWired n nodes timing taps kept net v k
wired_kept m n before nodes timing taps kept net v k h =
    wired_on m n nodes timing taps kept kept net v k before (λ e. refl) h

none_wired : (m : Module) (nodes : List Node) (timing : Timing) (taps : List ℕ) (kept net v : ℕ) (k : Kind) → is_wired k ≡ false
    → IsWired m nodes timing taps kept net v k
none_wired m nodes timing taps kept net v K.Input e = tt
none_wired m nodes timing taps kept net v K.Scalar e = tt
none_wired m nodes timing taps kept net v (K.Offset ticks) e = tt
none_wired m nodes timing taps kept net v K.Counter e = tt
none_wired m nodes timing taps kept net v K.Chain e = tt
none_wired m nodes timing taps kept net v _ e = absurd (false≢true (sym e))

-- a word that gets no wires is given
given_word : (k : Kind) → has_word k ≡ true → is_wired k ≡ false → is_given k ≡ true
given_word (K.Offset ticks) h e = absurd (false≢true h)
given_word K.Input h e = refl
given_word K.Scalar h e = refl
given_word K.Counter h e = refl
given_word K.Chain h e = refl
given_word _ h e = absurd (false≢true (sym e))

word_kept : {m n : Module} {nodes : List Node} {v : ℕ} {s : Signal} → Extends m n → IsWordOf m nodes v s → IsWordOf n nodes v s
word_kept {s = s} e h = record { signal = e.keeps s h.signal; bits = h.bits }

wide_kept : {m n : Module} {w : ℕ} {s : Signal} → Extends m n → HasWidth m w s → HasWidth n w s
wide_kept {s = s} e h = record { signal = e.keeps s h.signal; width = h.width }

pub timing_kept : {m n : Module} {nodes : List Node} {timing : Timing} → Extends m n → IsTiming m nodes timing → IsTiming n nodes timing
timing_kept e t = record { position = wide_kept e t.position; ticks = wide_kept e t.ticks; counted = t.counted; small = t.small }

pub only_same : (m : Module) → IsSound m → AddsOnlyWires m m 0
only_same m sound = record {
  extends = extends_same sound;
  updates = refl;
  mems = refl;
  nets = omega arith;
  stored = refl;
  undriven = same_undriven m m refl;
  registers = λ n h. h;
}

only_less : (old m : Module) (a b : ℕ) → a ≤ b → AddsOnlyWires old m a → AddsOnlyWires old m b
only_less old m a b le w = record {
  extends = w.extends;
  updates = w.updates;
  mems = w.mems;
  nets = let n = w.nets in omega (arith, n, le);
  stored = w.stored;
  undriven = w.undriven;
  registers = w.registers;
}

only_more : (old m n : Module) (a b : ℕ) → AddsOnlyWires old m a → AddsWires m n b → AddsOnlyWires old n (a + b)
only_more old m n a b w adds = record {
  extends = extends_on w.extends (wires_extends w.extends.sound adds);
  updates = adds.updates ∙ w.updates;
  mems = adds.mems ∙ w.mems;
  nets = let was = w.nets in let more = adds.count in omega (arith, was, more);
  stored = wires_stored adds ∙ w.stored;
  undriven = undriven_on old m n w.extends.grows w.undriven (wires_undriven adds);
  registers = no_register_on old m n w.registers (wires_no_register adds);
}

-- ---- the first nodes of the order

abbrev node_of : Layout → ℕ → ℕ
node_of layout j = get_or layout.order j 0

-- the most wires of node n
abbrev node_wires : List Node → ℕ → ℕ
node_wires nodes n = word_wires nodes (kind_at nodes n) (operands_at nodes n)

-- the most wires of the first so many nodes of the order
abbrev first_wires : List Node → Layout → ℕ → ℕ
first_wires nodes layout k = sum_below (λ j. node_wires nodes (node_of layout j)) k

-- one node more of the order
first_more : (nodes : List Node) (layout : Layout) (old m n : Module) (k : ℕ) → AddsOnlyWires old m (first_wires nodes layout k)
    → AddsWires m n (node_wires nodes (node_of layout k)) → AddsOnlyWires old n (first_wires nodes layout (k + 1))
first_more nodes layout old m n k w adds =
    let next : suc k ≡ k + 1 = omega arith in
    subst (λ i. AddsOnlyWires old n (first_wires nodes layout i)) next
    (only_more old m n (first_wires nodes layout k) (node_wires nodes (node_of layout k)) w adds)

pub record AreWired (nodes : List Node) (layout : Layout) (late : List (List Signal)) (timing : Timing) (old m : Module)
    (before words : List Signal) (k : ℕ) : Type 0 where
  pub wires : AddsOnlyWires old m (first_wires nodes layout k)
  pub size : length words ≡ length before
  pub given : (u : ℕ) → is_wired (kind_at nodes u) ≡ false → signal_at words u ≡ signal_at before u
  pub fresh : (j : ℕ) → k ≤ j → j < length layout.order → signal_at words (node_of layout j) ≡ signal_at before (node_of layout j)
  pub done : (j : ℕ) → j < k → is_wired (kind_at nodes (node_of layout j)) ≡ true
      → IsWordOf m nodes (node_of layout j) (signal_at words (node_of layout j))
  pub built : (j : ℕ) → j < k
      → IsWired m nodes timing (taps_at layout late words (node_of layout j)) (signal_at before (node_of layout j)).net
      (signal_at words (node_of layout j)).net (node_of layout j) (kind_at nodes (node_of layout j))

pub none_yet : (nodes : List Node) (layout : Layout) (late : List (List Signal)) (timing : Timing) (old : Module) (before : List Signal)
    → IsSound old → AreWired nodes layout late timing old old before before 0
none_yet nodes layout late timing old before sound = record {
  wires = only_same old sound;
  size = refl;
  given = λ u e. refl;
  fresh = λ j h l. refl;
  done = λ j h. absurd (omega (arith, h));
  built = λ j h. absurd (omega (arith, h));
}

module _ (nodes : List Node) (o : IsOrderly nodes) (t : AreTyped nodes) (layout : Layout) (laid : IsLaidOut nodes layout) (late : List (List Signal))
    (timing : Timing) (old : Module) (before : List Signal)
    (shown : AreLate old nodes layout late) (first : AreGiven old nodes before) where
  -- the word of a node that comes before number k of the order
  word_there : (m : Module) (words : List Signal) (k : ℕ) → AreWired nodes layout late timing old m before words k → (u : ℕ) → u < length nodes
      → has_word (kind_at nodes u) ≡ true
      → (is_wired (kind_at nodes u) ≡ true → get_or laid.is.order.rank u 0 < k + 1) → IsWordOf m nodes u (signal_at words u)
  word_there m words k w u h has earlier = ⊎_elim
      (λ (e : is_wired (kind_at nodes u) ≡ true).
      let p = place_of nodes o t layout laid u h in
      let r = p.rank in
      let l = earlier e in
      let q : p.place < k = omega (arith, r, l) in
      subst (λ v. IsWordOf m nodes v (signal_at words v)) p.node (w.done p.place q (ap (λ v. is_wired (kind_at nodes v)) p.node ∙ e)))
      (λ (e : is_wired (kind_at nodes u) ≡ false).
      subst (λ s. IsWordOf m nodes u s) (sym (w.given u e)) (word_kept w.wires.extends (first.each u h (given_word (kind_at nodes u) has e))))
      (cases_Bool (is_wired (kind_at nodes u)))

  read_in : (m : Module) (words : List Signal) (k : ℕ) → AreWired nodes layout late timing old m before words k → (n i : ℕ) → n < length nodes
      → i < length (reads_at layout n)
      → IsReadIn layout late words (read_at (reads_at layout n) i)
  read_in m words k w n i h l =
      let r = read_of nodes o t layout laid n i h l in
      let inside = r.inside in
      let a = w.size in
      let b = first.counted in
      let c = laid.is.pipeline.counted in
      let e = laid.is.waits.counted in
      let d = shown.counted in
      record {
        source = omega (arith, inside, a, b);
        later = λ moves. record {
          node = omega (arith, inside, c);
          waits = omega (arith, inside, e);
          known = omega (arith, inside, d);
          same = shown.same (read_at (reads_at layout n) i).source inside;
          kept = r.kept moves;
        };
      }

  -- a read has the width of its operand, if it is late or its source has a word
  read_typed : (m : Module) (words : List Signal) → Extends old m → (n i : ℕ) → n < length nodes → i < length (reads_at layout n)
      → ((read_at (reads_at layout n) i).behind ≡ 0 → IsWordOf m nodes (read_at (reads_at layout n) i).source
      (signal_at words (read_at (reads_at layout n) i).source))
      → IsWordOf m nodes (operand_at nodes n i) (read_signal layout late words (read_at (reads_at layout n) i))
  read_typed m words x n i h l now =
      let r = read_of nodes o t layout laid n i h l in
      let read = read_at (reads_at layout n) i in
      let then : (read.behind ≡ 0 → ⊥) → IsWordOf m nodes read.source
      (late_of (stages_at layout read.source) (late_at late read.source) read.behind) =
      λ moves. word_kept x
      (late_word (IsWordOf old nodes read.source) (stages_at layout read.source) (late_at late read.source) read.behind
      (shown.same read.source r.inside) (shown.each read.source r.inside) (r.kept moves)) in
      let word = by_test read (eqb read.behind 0) refl now then in
      record { signal = word.signal; bits = word.bits ∙ r.width }
    where
      by_test : (read : Read) (b : Bool) → eqb read.behind 0 ≡ b
          → (read.behind ≡ 0 → IsWordOf m nodes read.source (signal_at words read.source))
          → ((read.behind ≡ 0 → ⊥) → IsWordOf m nodes read.source
          (late_of (stages_at layout read.source) (late_at late read.source) read.behind))
          → IsWordOf m nodes read.source (cond b (signal_at words read.source)
          (late_of (stages_at layout read.source) (late_at late read.source) read.behind))
      by_test read true e now then = now (is_zero _ e)
      by_test read false e now then = then (not_zero _ e)

  -- so it is with what node number k of the order reads
  read_before : (m : Module) (words : List Signal) (k n i : ℕ) → k < length layout.order → n ≡ node_of layout k
      → AreWired nodes layout late timing old m before words k → n < length nodes → i < length (reads_at layout n)
      → IsWordOf m nodes (operand_at nodes n i) (read_signal layout late words (read_at (reads_at layout n) i))
  read_before m words k n i lt e w h l =
      let r = read_of nodes o t layout laid n i h l in
      let place : get_or laid.is.order.rank n 0 ≡ k + 1 = ap (λ v. get_or laid.is.order.rank v 0) e ∙ laid.is.order.placed.place k lt in
      read_typed m words w.wires.extends n i h l
      (λ z. word_there m words k w (read_at (reads_at layout n) i).source r.inside r.word (λ x. let a = r.ranked z in omega (arith, a, place)))

  pub readable : (m : Module) (words : List Signal) (k n : ℕ) → k < length layout.order → n ≡ node_of layout k
      → AreWired nodes layout late timing old m before words k → IsReadable m nodes layout late words n
  readable m words k n lt e w =
      let h : n < length nodes = subst (λ v. v < length nodes) (sym e) (node_in nodes o t layout laid k lt) in
      let c = laid.is.reads.counted in
      record {
        reads = omega (arith, h, c);
        counted = reads_all nodes o t layout laid n h;
        each = λ i d l. subst (λ r. IsReadIn layout late words r) (get_or_default (reads_at layout n) i no_read d l) (read_in m words k w n i h l);
        typed = λ i l q.
            let all = reads_all nodes o t layout laid n h (takes_wired (kind_at nodes n) i q) in
            read_before m words k n i lt e w h (omega (arith, all, l));
      }

  -- what a hold keeps is there
  pub kept_there : (m : Module) (words : List Signal) (k n : ℕ) → k < length layout.order → n ≡ node_of layout k
      → AreWired nodes layout late timing old m before words k → kind_at nodes n ≡ K.Hold → IsWordOf m nodes n (signal_at words n)
  kept_there m words k n lt e w hold =
      let h : n < length nodes = subst (λ v. v < length nodes) (sym e) (node_in nodes o t layout laid k lt) in
      let same : signal_at words n ≡ signal_at before n =
      subst (λ v. signal_at words v ≡ signal_at before v) (sym e) (w.fresh k (omega arith) lt) in
      subst (λ s. IsWordOf m nodes n s) (sym same) (word_kept w.wires.extends (first.each n h (ap is_given hold)))

  -- a node of the order reads the same nets when the word of a later one is written
  taps_kept : (words : List Signal) (s : Signal) (k j : ℕ) → k < length layout.order → j ≤ k
      → taps_at layout late (slice_set words (node_of layout k) s) (node_of layout j) ≡ taps_at layout late words (node_of layout j)
  taps_kept words s k j lt le =
      let v = node_of layout k in
      let n = node_of layout j in
      let l : j < length layout.order = omega (arith, lt, le) in
      same_nets layout late words (slice_set words v s) (reads_at layout n) (λ p h z.
      let a = (read_of nodes o t layout laid n p (node_in nodes o t layout laid j l) h).ranked z in
      let b = laid.is.order.placed.place j l in
      let c = laid.is.order.placed.place k lt in
      set_other words v (read_at (reads_at layout n) p).source s
      (λ e. let d : get_or laid.is.order.rank v 0 ≡ get_or laid.is.order.rank (read_at (reads_at layout n) p).source 0 = ap
      (λ u. get_or laid.is.order.rank u 0) e in
      omega (arith, a, b, c, d, le)))

  apart : (j k : ℕ) → j < k → k < length layout.order → node_of layout k ≡ node_of layout j → ⊥
  apart j k l lt e =
      let a = laid.is.order.placed.place j (omega (arith, l, lt)) in
      let b = laid.is.order.placed.place k lt in
      let c : get_or laid.is.order.rank (node_of layout k) 0 ≡ get_or laid.is.order.rank (node_of layout j) 0 = ap
      (λ u. get_or laid.is.order.rank u 0) e in
      omega (arith, a, b, c, l)

  apart_after : (k j : ℕ) → k + 1 ≤ j → j < length layout.order → node_of layout k ≡ node_of layout j → ⊥
  apart_after k j l lj e = apart k j (omega (arith, l)) lj (sym e)

  -- the net of node number j of the order has its word
  abbrev IsBuiltAt : Module → List Signal → ℕ → Type 0
  IsBuiltAt m words j = IsWired m nodes timing (taps_at layout late words (node_of layout j)) (signal_at before (node_of layout j)).net
      (signal_at words (node_of layout j)).net (node_of layout j) (kind_at nodes (node_of layout j))

  -- one node more, which has wires
  pub wires_more : (m n : Module) (words : List Signal) (k v : ℕ) (s : Signal) → k < length layout.order → v ≡ node_of layout k
      → AreWired nodes layout late timing old m before words k
      → AddsWord m n nodes layout late words timing v (Some s) → AreWired nodes layout late timing old n before (slice_set words v s) (k + 1)
  wires_more m n words k v s lt e w a =
      subst (λ x. AreWired nodes layout late timing old n before (slice_set words x s) (k + 1)) (sym e)
      (more (subst (λ x. AddsWord m n nodes layout late words timing x (Some s)) e a))
    where
      more : AddsWord m n nodes layout late words timing (node_of layout k) (Some s)
          → AreWired nodes layout late timing old n before (slice_set words (node_of layout k) s) (k + 1)
      more a =
          let u = node_of layout k in
          let after = slice_set words u s in
          let x = wires_extends w.wires.extends.sound a.adds in
          let inside : u < length words =
          let i = node_in nodes o t layout laid k lt in
          let j = w.size in
          let l = first.counted in
          omega (arith, i, j, l) in
          let mine : signal_at after u ≡ s = set_same words u s inside in
          let others : (j : ℕ) → j < k → signal_at after (node_of layout j) ≡ signal_at words (node_of layout j) = λ j l. set_other words u
          (node_of layout j) s (apart j k l lt) in
          record {
            wires = first_more nodes layout old m n k w.wires a.adds;
            size = set_length words u s ∙ w.size;
            fresh = λ j l lj. set_other words u (node_of layout j) s (apart_after k j l lj) ∙ w.fresh j (omega (arith, l)) lj;
            given = λ z q. set_other words u z s (λ y. false≢true (sym q ∙ ap (λ i. is_wired (kind_at nodes i)) (sym y) ∙ sym a.some)) ∙ w.given z q;
            done = each_more (λ j. is_wired (kind_at nodes (node_of layout j)) ≡ true → IsWordOf n nodes (node_of layout j)
                (signal_at after (node_of layout j))) k
                (λ j l q. subst (λ z. IsWordOf n nodes (node_of layout j) z) (sym (others j l)) (word_kept x (w.done j l q)))
                (λ q. subst (λ z. IsWordOf n nodes u z) (sym mine) a.shows.0);
            built = each_more (IsBuiltAt n after) k
                (λ j l.
                let v = node_of layout j in
                subst (λ (z : Signal). IsWired n nodes timing (taps_at layout late after v) (signal_at before v).net z.net v (kind_at nodes v))
                (sym (others j l))
                (subst (λ taps. IsWired n nodes timing taps (signal_at before v).net (signal_at words v).net v (kind_at nodes v))
                (sym (taps_kept words s k j lt (omega (arith, l))))
                (wired_kept m n x.before nodes timing (taps_at layout late words v) (signal_at before v).net (signal_at words v).net v (kind_at nodes v)
                (w.built j l))))
                (subst (λ (z : Signal). IsWired n nodes timing (taps_at layout late after u) (signal_at before u).net z.net u (kind_at nodes u)) (sym mine)
                (subst (λ taps. IsWired n nodes timing taps (signal_at before u).net s.net u (kind_at nodes u)) (sym (taps_kept words s k k lt (omega arith)))
                (subst (λ (z : Signal). IsWired n nodes timing (taps_at layout late words u) z.net s.net u (kind_at nodes u))
                (w.fresh k (omega arith) lt) a.shows.1)));
          }

  -- one node more, whose word is given
  pub given_more : (m n : Module) (words : List Signal) (k v : ℕ) → k < length layout.order → v ≡ node_of layout k
      → AreWired nodes layout late timing old m before words k
      → AddsWord m n nodes layout late words timing v None → AreWired nodes layout late timing old n before words (k + 1)
  given_more m n words k v lt e w a =
      let u = node_of layout k in
      let none : is_wired (kind_at nodes u) ≡ false = ap (λ z. is_wired (kind_at nodes z)) (sym e) ∙ sym a.some in
      let x = wires_extends w.wires.extends.sound a.adds in
      record {
        wires = first_more nodes layout old m n k w.wires (subst (λ z. AddsWires m n (node_wires nodes z)) e a.adds);
        size = w.size;
        given = w.given;
        fresh = λ j l lj. w.fresh j (omega (arith, l)) lj;
        done = each_more (λ j. is_wired (kind_at nodes (node_of layout j)) ≡ true → IsWordOf n nodes (node_of layout j)
            (signal_at words (node_of layout j))) k
            (λ j l q. word_kept x (w.done j l q))
            (λ q. absurd (false≢true (sym none ∙ q)));
        built = each_more (IsBuiltAt n words) k
            (λ j l.
            let v = node_of layout j in
            wired_kept m n x.before nodes timing (taps_at layout late words v) (signal_at before v).net (signal_at words v).net v (kind_at nodes v)
            (w.built j l))
            (none_wired n nodes timing (taps_at layout late words u) (signal_at before u).net (signal_at words u).net u (kind_at nodes u) none);
      }

  -- ---- all of them

  word_end : (m : Module) (words : List Signal) (k : ℕ) → k ≡ length layout.order → AreWired nodes layout late timing old m before words k
      → (u : ℕ) → u < length nodes → has_word (kind_at nodes u) ≡ true → IsWordOf m nodes u (signal_at words u)
  word_end m words k e w u h has = word_there m words k w u h has
      (λ q. let p = place_of nodes o t layout laid u h in let r = p.rank in let l = p.within in omega (arith, r, l, e))

  -- the control of a port is a bit
  control_end : (m : Module) (words : List Signal) (k : ℕ) → k ≡ length layout.order → AreWired nodes layout late timing old m before words k
      → (n : ℕ) → n < length nodes → MayEnable m (control_at nodes layout late words n)
  control_end m words k e w n h =
      let reads = reads_at layout n in
      let signals = signals_at layout late words n in
      control_bit m (kind_at nodes n) signals (λ i q l.
      let size = length_map (read_signal layout late words) reads in
      let inside : i < length reads = omega (arith, size, l) in
      let r = read_of nodes o t layout laid n i h inside in
      let word = read_typed m words w.wires.extends n i h inside
      (λ z. word_end m words k e w (read_at reads i).source r.inside r.word) in
      subst (λ s. HasWidth m 1 s) (sym (get_map (read_signal layout late words) reads i no_signal no_read inside))
      (record { signal = word.signal; width = word.bits ∙ t.bits n i h q r.below }))

  pub all_wired : (m : Module) (words : List Signal) (k : ℕ) → k ≡ length layout.order → AreWired nodes layout late timing old m before words k
      → AddsNodes old m nodes layout late timing before words
  all_wired m words k e w = record {
    wires =
        let few : first_wires nodes layout (length layout.order) ≤ sum_below (node_wires nodes) (length nodes) =
        sum_apart (node_wires nodes) (node_of layout) (length nodes) (length layout.order) (λ i h. node_in nodes o t layout laid i h)
        (λ i j l h q. apart i j l h (sym q)) in
        let each : sum_below (node_wires nodes) (length nodes) ≡ word_nets nodes =
        sum_of_list (λ (node : Node). word_wires nodes node.view.kind node.operands) no_node nodes in
        let end : first_wires nodes layout k ≡ first_wires nodes layout (length layout.order) = ap (first_wires nodes layout) e in
        only_less old m (first_wires nodes layout k) (word_nets nodes) (omega (arith, few, each, end)) w.wires;
    counted = w.size;
    given = w.given;
    words = word_end m words k e w;
    built = λ u h.
        let p = place_of nodes o t layout laid u h in
        let l = p.within in
        subst (λ v. IsWired m nodes timing (taps_at layout late words v) (signal_at before v).net (signal_at words v).net v (kind_at nodes v)) p.node
        (w.built p.place (omega (arith, l, e)));
    controls = control_end m words k e w;
  }
