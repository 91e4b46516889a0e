-- The nets from which nodes read their operands.
use Rattle.std.proofs.Common.{
  ◌≡◌,
  ℕ,
  zero,
  suc,
  ◌+◌,
  ◌-◌,
  ◌<◌,
  inl,
  inr,
  Bool,
  true,
  false,
  cond,
  eqb,
  eqb-true,
  List,
  [],
  ◌∷◌,
  ◌++◌,
  map,
  length,
  get_or,
  refl,
  sym,
  ap,
  ◌∙◌,
  subst,
  arith,
  ⊎_elim,
}
use Rattle.std.specs.Prelude.{ℤ, pos, ◌-ℤ◌, ◌≤ℤ◌, unsigned_abs, Contains}
use Rattle.std.proofs.lemmas.Bool.{cases_Bool}
use Rattle.std.proofs.lemmas.Int.{ints}
use Rattle.cycle_find.specs.Constraints.{Numbers}
use Rattle.digraph.specs.Graph.{IsRanked}
use Rattle.rtl_ir.specs.declared.design.Module.{Module}
use Rattle.rtl_build.specs.declared.signal.Signal.{Signal}
use Rattle.rtl_delays.specs.declared.elements.Element.{Element}
use Rattle.rtl_delays.specs.Delays.{IsDelay, IsTap, of_net}
use Rattle.rtl_delays.specs.Elements.{shown}
use Rattle.rtl_delays.proofs.Chain.{tap_on}
use Rattle.stream_graph.specs.declared.node.Node.{Node}
use Rattle.offset_edges.specs.declared.edge.Edge.{Edge}
use Rattle.stream_graph.specs.LookUps.{kind_at, operands_at, operand_at}
use Rattle.offset_edges.specs.Edges.{source_of, edges_of, edge_at}
use Rattle.stream_graph.specs.Kinds.{is_steady, is_offset}
use Rattle.offset_edges.specs.Schedules.{delay_of, IsLegal}
use Rattle.stream_graph.proofs.NodeLemmas.{IsOrderly}
use Rattle.offset_edges.proofs.SourceLemmas.{source_known}
use Rattle.kernel_layout.specs.declared.layout.Layout.{Layout}
use Rattle.kernel_layout.specs.declared.reads.Read.{Read}
use Rattle.kernel_layout.specs.Reads.{behind_of, IsRead, read_at, direct_of}
use Rattle.kernel_layout.specs.Waits.{stages_by}
use Rattle.kernel_layout.specs.Layouts.{AreReads, AreLatencies, AreAllWaits, stages_at}
use Rattle.kernel_layout.proofs.Sourcing.{edge_among, among_within, among_is}
use Rattle.kernel_layout.proofs.Staging.{read_shown}
use Rattle.kernel_refinement.specs.Built.{Layout as Standing, edge_from, as_numbers, IsBehind, TapOf, TapsOf}
use Rattle.kernel_stages.specs.declared.node.NodeDelays.{NodeDelays}
use Rattle.kernel_stages.specs.Numbers.{up_to}
use Rattle.kernel_stages.specs.Chains.{delays_at, element_at, last_shown, end_of, signals_of, IsDelayedBy, AreChains}
use Rattle.kernel_stages.specs.Closing.{AreDelays}
use Rattle.kernel_stages.proofs.Pipelines.{registers_length}
use Rattle.kernel_stages.proofs.Chaining.{chain_length}
use Rattle.kernel_wiring.specs.Words.{signal_at, taps_at, late_at, late_of, read_net}
use Rattle.kernel_rtl.specs.Words.{late_signals}

-- ---- the signal of a stage

-- something holds of each stage and the signal that shows it
abbrev AreAt : (ℕ → Signal → Type 0) → List ℕ → List Signal → Type 0
AreAt P [] [] = Unit {0}
AreAt P [] (x ∷ xs) = ⊥
AreAt P (s ∷ ss) [] = ⊥
AreAt P (s ∷ ss) (x ∷ xs) = P s x × AreAt P ss xs

no_head : (s behind : ℕ) → eqb s behind ≡ false → s ≡ behind → ⊥
no_head s behind t e = grind (arith, t, e)

-- so it holds of the signal that is found
found_at : (P : ℕ → Signal → Type 0) (stages : List ℕ) (signals : List Signal) (behind k : ℕ) → AreAt P stages signals → k < length stages
    → get_or stages k behind ≡ behind → P behind (late_of stages signals behind)
found_at P [] signals behind k a lt h = absurd (omega (arith, lt))
found_at P (s ∷ ss) [] behind k a lt h = absurd a
found_at P (s ∷ ss) (x ∷ xs) behind zero a lt h = ⊎_elim
    (λ (t : eqb s behind ≡ true).
    subst (P behind) (sym (ap (λ b. cond b x (late_of ss xs behind)) t)) (subst (λ n. P n x) (eqb-true s behind t) a.0))
    (λ (t : eqb s behind ≡ false). absurd (no_head s behind t h))
    (cases_Bool (eqb s behind))
found_at P (s ∷ ss) (x ∷ xs) behind (suc k) a lt h =
    let rest = found_at P ss xs behind k a.1 (omega (arith, lt)) h in
    ⊎_elim
    (λ (t : eqb s behind ≡ true).
    subst (P behind) (sym (ap (λ b. cond b x (late_of ss xs behind)) t)) (subst (λ n. P n x) (eqb-true s behind t) a.0))
    (λ (t : eqb s behind ≡ false). subst (P behind) (sym (ap (λ b. cond b x (late_of ss xs behind)) t)) rest)
    (cases_Bool (eqb s behind))

all_at : (P : ℕ → Signal → Type 0) (waits : List ℕ) (chain : List Element) → length chain ≡ length waits
    → ((i : ℕ) → i < length chain → P (get_or waits i 0) (shown (element_at chain i))) → AreAt P waits (map shown chain)
all_at P [] [] same h = tt
all_at P [] (e ∷ es) same h = absurd (omega (arith, same))
all_at P (w ∷ ws) [] same h = absurd (omega (arith, same))
all_at P (w ∷ ws) (e ∷ es) same h = (h 0 (omega arith), all_at P ws es (omega (arith, same)) (λ i lt. h (suc i) (omega (arith, lt))))

mapped_at : (P : ℕ → Signal → Type 0) (f : ℕ → ℕ) (waits : List ℕ) (signals : List Signal) → AreAt (λ w. P (f w)) waits signals
    → AreAt P (map f waits) signals
mapped_at P f [] [] a = tt
mapped_at P f [] (x ∷ xs) a = absurd a
mapped_at P f (w ∷ ws) [] a = absurd a
mapped_at P f (w ∷ ws) (x ∷ xs) a = (a.0, mapped_at P f ws xs a.1)

-- each signal of a node shows its word so late
signals_at_stages : (m : Module) (run reset : ℕ) (word : Signal) (latency : ℕ) (waits : List ℕ) (pipeline chain : List Element)
    → length pipeline ≡ latency → length chain ≡ length waits
    → IsTap m run reset (of_net word.net) (last_shown word pipeline).net latency
    → ((i : ℕ) → i < length chain
    → IsDelay m run reset (of_net (last_shown word pipeline).net) (shown (element_at chain i)).net (get_or waits i 0))
    → AreAt (λ n s. IsDelay m run reset (of_net word.net) s.net n) (stages_by latency waits) (end_of pipeline ++ map shown chain)
signals_at_stages m run reset word zero waits [] chain long same tap h =
    all_at (λ n s. IsDelay m run reset (of_net word.net) s.net n) waits chain same h
signals_at_stages m run reset word zero waits (e ∷ es) chain long same tap h = absurd (omega (arith, long))
signals_at_stages m run reset word (suc l) waits [] chain long same tap h = absurd (omega (arith, long))
signals_at_stages m run reset word (suc l) waits (e ∷ es) chain long same tap h = (
  tap,
  mapped_at (λ n s. IsDelay m run reset (of_net word.net) s.net n) (λ w. suc l + w) waits (map shown chain)
      (all_at (λ w s. IsDelay m run reset (of_net word.net) s.net (suc l + w)) waits chain same
      (λ i lt. tap_on m run reset (of_net word.net) (last_shown (shown e) es).net (shown (element_at chain i)).net (suc l) (get_or waits i 0) tap (h i lt))),
)

shown_length : (chain : List Element) → length (map shown chain) ≡ length chain
shown_length [] = refl
shown_length (e ∷ es) = ap suc (shown_length es)

waits_length : (f : ℕ → ℕ) (waits : List ℕ) → length (map f waits) ≡ length waits
waits_length f [] = refl
waits_length f (w ∷ ws) = ap suc (waits_length f ws)

-- a node has a signal for each stage
counted_signals : (latency : ℕ) (waits : List ℕ) (pipeline chain : List Element) → length pipeline ≡ latency → length chain ≡ length waits
    → length (end_of pipeline ++ map shown chain) ≡ length (stages_by latency waits)
counted_signals zero waits [] chain long same = shown_length chain ∙ same
counted_signals zero waits (e ∷ es) chain long same = absurd (omega (arith, long))
counted_signals (suc l) waits [] chain long same = absurd (omega (arith, long))
counted_signals (suc l) waits (e ∷ es) chain long same = ap suc (shown_length chain ∙ same ∙ sym (waits_length (λ w. suc l + w) waits))

pipeline_length : (latency : ℕ) (waits : List ℕ) (d : NodeDelays) → IsDelayedBy latency waits d → length d.pipeline ≡ latency
pipeline_length latency waits d h = chain_length 0 (up_to latency) d.pipeline h.pipeline ∙ registers_length latency

pub signals_length : (latency : ℕ) (waits : List ℕ) (d : NodeDelays) → IsDelayedBy latency waits d → length (signals_of d) ≡ length (stages_by latency waits)
signals_length latency waits d h =
    counted_signals latency waits d.pipeline d.waits (pipeline_length latency waits d h) (chain_length 0 waits d.waits h.behind)

-- the signals of a node's delays
pub late_node : (delays : List NodeDelays) (u : ℕ) → u < length delays → late_at (late_signals delays) u ≡ signals_of (delays_at delays u)
late_node [] u lt = absurd (omega arith)
late_node (d ∷ ds) zero lt = refl
late_node (d ∷ ds) (suc u) lt = late_node ds u (omega arith)

-- the signal that shows a node's word so late
late_delay : (m : Module) (run reset : ℕ) (words : List Signal) (delays : List NodeDelays) (layout : Layout)
    → AreDelays m run reset words delays → AreChains layout.pipeline layout.waits delays → (u behind : ℕ) → u < length delays
    → Contains (stages_at layout u) behind
    → IsDelay m run reset (of_net (signal_at words u).net) (late_of (stages_at layout u) (late_at (late_signals delays) u) behind).net behind
late_delay m run reset words delays layout kept are u behind lt has =
    let word = signal_at words u in
    let latency = get_or layout.pipeline u 0 in
    let waits = get_or layout.waits u [] in
    let d = delays_at delays u in
    let by = are.each u lt in
    let shows = kept layout.pipeline layout.waits are u lt in
    let all = signals_at_stages m run reset word latency waits d.pipeline d.waits (pipeline_length latency waits d by) (chain_length 0 waits d.waits by.behind)
    shows.pipeline shows.behind in
    subst (λ l. IsDelay m run reset (of_net word.net) (late_of (stages_at layout u) l behind).net behind) (sym (late_node delays u lt))
    (found_at (λ n s. IsDelay m run reset (of_net word.net) s.net n) (stages_by latency waits) (signals_of d) behind has.0 all has.1 has.2)

-- ---- reads

-- a word that is read as it is computed is that of a node that is read so
direct_among : (reads : List Read) (k : ℕ) → k < length reads → (read_at reads k).behind ≡ 0
    → (i : ℕ) × (i < length (direct_of reads)) × (get_or (direct_of reads) i 0 ≡ (read_at reads k).source)
direct_among [] k lt h = absurd (omega arith)
direct_among (r ∷ rs) zero lt h =
    let e : direct_of (r ∷ rs) ≡ r.source ∷ direct_of rs =
    ap (λ b. cond (eqb b 0) (r.source ∷ direct_of rs) (direct_of rs)) h in
    (0, (let q = ap length e in omega (arith, q)), ap (λ l. get_or l 0 0) e)
direct_among (r ∷ rs) (suc k) lt h =
    let q = direct_among rs k (omega arith) h in
    by_test q (eqb r.behind 0) refl
  where
    by_test : (i : ℕ) × (i < length (direct_of rs)) × (get_or (direct_of rs) i 0 ≡ (read_at rs k).source) → (b : Bool) → eqb r.behind 0 ≡ b
        → (i : ℕ) × (i < length (direct_of (r ∷ rs))) × (get_or (direct_of (r ∷ rs)) i 0 ≡ (read_at rs k).source)
    by_test q true t =
        let e : direct_of (r ∷ rs) ≡ r.source ∷ direct_of rs = ap (λ b. cond b (r.source ∷ direct_of rs) (direct_of rs)) t in
        (suc q.0, (let l = ap length e in let lq = q.1 in omega (arith, l, lq)), ap (λ l. get_or l (suc q.0) 0) e ∙ q.2)
    by_test q false t =
        let e : direct_of (r ∷ rs) ≡ direct_of rs = ap (λ b. cond b (r.source ∷ direct_of rs) (direct_of rs)) t in
        (q.0, (let l = ap length e in let lq = q.1 in omega (arith, l, lq)), ap (λ l. get_or l q.0 0) e ∙ q.2)

direct_at : (reads : List (List Read)) (n : ℕ) → n < length reads → get_or (map direct_of reads) n [] ≡ direct_of (get_or reads n [])
direct_at [] n lt = absurd (omega arith)
direct_at (r ∷ rs) zero lt = refl
direct_at (r ∷ rs) (suc n) lt = direct_at rs n (omega arith)

map_length : {A B : Type 0} (f : A → B) (xs : List A) → length (map f xs) ≡ length xs
map_length f [] = refl
map_length f (x ∷ xs) = ap suc (map_length f xs)

-- so its source comes before the reader
read_rising : (reads : List (List Read)) (rank : List ℕ) → IsRanked (map direct_of reads) rank → (n k : ℕ) → n < length reads
    → k < length (get_or reads n []) → (read_at (get_or reads n []) k).behind ≡ 0
    → get_or rank (read_at (get_or reads n []) k).source 0 < get_or rank n 0
read_rising reads rank h n k ln lk z =
    let d = direct_among (get_or reads n []) k lk z in
    let at = direct_at reads n ln in
    let count = map_length direct_of reads in
    let within : d.0 < length (get_or (map direct_of reads) n []) = let a = ap length at in let b = d.1 in omega (arith, a, b) in
    let r = h.rising n d.0 (omega (arith, ln, count)) within in
    let same : get_or (get_or (map direct_of reads) n []) d.0 0 ≡ (read_at (get_or reads n []) k).source = ap (λ l. get_or l d.0 0) at ∙ d.2 in
    subst (λ x. get_or rank x 0 < get_or rank n 0) same r

-- ---- times

-- whole numbers that are not below 0
whole : (x : ℤ) → pos 0 ≤ℤ x → pos (unsigned_abs x) ≡ x
whole x h = omega (arith, ints, h)

not_zero : (k : ℕ) → eqb (suc k) 0 ≡ false
not_zero k = grind arith

positive : (n : ℕ) → (n ≡ 0 → ⊥) → 0 < n
positive zero h = absurd (h refl)
positive (suc n) h = omega arith

record IsWaiting (ticks : ℕ) (behind : ℕ) (delay : ℤ) : Type 0 where
  wait : ℕ
  is : delay ≡ pos wait
  sum : ticks + wait ≡ behind

waiting : (to from offset delay : ℤ) (ticks behind : ℕ) → pos behind ≡ (to -ℤ from) -ℤ offset → delay ≡ ((to -ℤ from) -ℤ pos ticks) -ℤ offset → pos 0 ≤ℤ delay
    → IsWaiting ticks behind delay
waiting to from offset delay ticks behind b d h = record {
  wait = behind - ticks;
  is = omega (arith, ints, b, d, h);
  sum = omega (arith, ints, b, d, h);
}

-- ---- what is kept

-- the word of a read is kept so late as it is read
pub kept_stage : (nodes : List Node) (ticks : ℕ → ℕ) (times : Numbers) (layout : Layout) → IsOrderly nodes
    → AreLatencies ticks (length nodes) layout.pipeline → AreAllWaits nodes ticks times (length nodes) layout.waits
    → (n i : ℕ) (read : Read) → n < length nodes → is_offset (kind_at nodes n) ≡ false
    → i < length (operands_at nodes n) → IsRead nodes times n (operand_at nodes n i) read → (read.behind ≡ 0 → ⊥)
    → Contains (stages_at layout read.source) read.behind
kept_stage nodes ticks times layout orderly same all n i read ln f li r waits =
    let offset = (source_of nodes (operand_at nodes n i)).offset in
    let moves : is_steady (kind_at nodes read.source) ≡ false = ⊎_elim
    (λ (e : is_steady (kind_at nodes read.source) ≡ true). absurd (waits (r.steady e)))
    (λ (e : is_steady (kind_at nodes read.source) ≡ false). e)
    (cases_Bool (is_steady (kind_at nodes read.source))) in
    let a = edge_among nodes n i ln f li (ap (λ u. is_steady (kind_at nodes u)) (sym r.source) ∙ moves) in
    let at = among_is (edges_of nodes) a.0 _ (record { from = 0; to = 0; offset = pos 0 }) a.1 in
    let late = ap (behind_of times) at ∙ ap (λ u. (times n -ℤ times u) -ℤ offset) (sym r.source) ∙ sym (r.moving moves) in
    read_shown nodes ticks times read.source (get_or layout.pipeline read.source 0) (get_or layout.waits read.source []) (all.each read.source r.inside)
    (same.each read.source r.inside) read.behind (positive read.behind waits)
    (a.0, among_within (edges_of nodes) a.0 _ a.1, ap (λ (e : Edge). e.from) at ∙ sym r.source, late)

-- ---- taps

-- The word of a node is that of its signal, its taps are the nets of its reads, and its rank is that
-- of an order of the layout.
abbrev pub standing : Layout → List NodeDelays → List Signal → List ℕ → Standing
standing layout delays words rank = record {
  word = λ n. of_net (signal_at words n).net;
  taps = λ n. taps_at layout (late_signals delays) words n;
  rank = λ n. get_or rank n 0;
}

-- What is known of a kernel's layout and of the delays in its module.
pub record IsKept (m : Module) (nodes : List Node) (ticks : ℕ → ℕ) (times : Numbers) (layout : Layout) (delays : List NodeDelays) (words : List Signal)
    (rank : List ℕ)
    (run reset : ℕ) : Type 0
  where
    pub orderly : IsOrderly nodes
    pub begin : (v : ℕ) → v < length nodes → pos 0 ≤ℤ times v
    pub legal : IsLegal ticks (edges_of nodes) times
    pub reads : AreReads nodes times (length nodes) layout.reads
    pub pipeline : AreLatencies ticks (length nodes) layout.pipeline
    pub waits : AreAllWaits nodes ticks times (length nodes) layout.waits
    pub rising : IsRanked (map direct_of layout.reads) rank
    pub chains : AreChains layout.pipeline layout.waits delays
    pub late : AreDelays m run reset words delays

module _ (m : Module) (nodes : List Node) (ticks : ℕ → ℕ) (times : Numbers) (layout : Layout) (delays : List NodeDelays) (words : List Signal)
    (rank : List ℕ) (run reset : ℕ)
    (kept : IsKept m nodes ticks times layout delays words rank run reset) where
  abbrev pub now : ℕ → ℕ
  now = λ v. unsigned_abs (times v)

  edge_known : (n i : ℕ) → n < length nodes → is_offset (kind_at nodes n) ≡ false → i < length (operands_at nodes n)
      → is_steady (kind_at nodes (source_of nodes (operand_at nodes n i)).node) ≡ false
      → (j : ℕ) × (j < length (edges_of nodes)) × (edge_at (edges_of nodes) j ≡ edge_from nodes n (operand_at nodes n i))
  edge_known n i ln f li s =
      let a = edge_among nodes n i ln f li s in
      (a.0, among_within (edges_of nodes) a.0 _ a.1, among_is (edges_of nodes) a.0 _ (record { from = 0; to = 0; offset = pos 0 }) a.1)

  -- the tap of a read that waits
  is_tap : (u behind : ℕ) (read : Read) → read.source ≡ u → read.behind ≡ behind → u < length nodes
      → ((behind ≡ 0 → ⊥) → Contains (stages_at layout u) behind)
      → IsTap m run reset (of_net (signal_at words u).net) (read_net layout (late_signals delays) words read) behind
  is_tap u zero read e b lt has =
      let same : read_net layout (late_signals delays) words read ≡ (signal_at words u).net =
      ap (λ c. (cond c (signal_at words read.source) (late_of (stages_at layout read.source)
      (late_at (late_signals delays) read.source) read.behind)).net) (ap (λ x. eqb x 0) b)
      ∙ ap (λ x. (signal_at words x).net) e in
      λ c f h. ap f same
  is_tap u (suc k) read e b lt has =
      let late = late_signals delays in
      let from = of_net (signal_at words u).net in
      let counted = kept.waits.counted in
      let long = kept.chains.counted in
      let d : IsDelay m run reset from (late_of (stages_at layout u) (late_at late u) (suc k)).net (suc k) =
      late_delay m run reset words delays layout kept.late kept.chains u (suc k) (omega (arith, lt, counted, long)) (has (λ z. absurd (omega (arith, z)))) in
      let same : read_net layout late words read ≡ (late_of (stages_at layout u) (late_at late u) (suc k)).net =
      ap (λ c. (cond c (signal_at words read.source) (late_of (stages_at layout read.source) (late_at late read.source) read.behind)).net)
      (ap (λ x. eqb x 0) b ∙ not_zero k)
      ∙ ap (λ x. (late_of (stages_at layout x) (late_at late x) read.behind).net) e
      ∙ ap (λ x. (late_of (stages_at layout u) (late_at late u) x).net) b in
      let P : ℕ → Type 0 = λ t. IsDelay m run reset from t (suc k) in
      subst P (sym same) d

  moving_tap : (n i : ℕ) (read : Read) → n < length nodes → is_offset (kind_at nodes n) ≡ false → i < length (operands_at nodes n)
      → IsRead nodes times n (operand_at nodes n i) read
      → is_steady (kind_at nodes (source_of nodes (operand_at nodes n i)).node) ≡ false
      → (read.behind ≡ 0 → get_or rank read.source 0 < get_or rank n 0)
      → IsBehind m ticks now run reset (standing layout delays words rank) (edge_from nodes n (operand_at nodes n i))
      (read_net layout (late_signals delays) words read)
  moving_tap n i read ln f li r s direct =
      let operand = operand_at nodes n i in
      let src = (source_of nodes operand).node in
      let offset = (source_of nodes operand).offset in
      let inside : src < length nodes = let a = r.source in let b = r.inside in omega (arith, a, b) in
      let steady : is_steady (kind_at nodes read.source) ≡ false = ap (λ u. is_steady (kind_at nodes u)) r.source ∙ s in
      let moving : pos read.behind ≡ (times n -ℤ times src) -ℤ offset = r.moving steady ∙ ap (λ u. (times n -ℤ times u) -ℤ offset) r.source in
      let j = edge_known n i ln f li s in
      let legal : pos 0 ≤ℤ delay_of ticks times (edge_from nodes n operand) = subst (λ (e : Edge). pos 0 ≤ℤ delay_of ticks times e) j.2
      (kept.legal j.0 j.1) in
      let wt = waiting (times n) (times src) offset (delay_of ticks times (edge_from nodes n operand)) (ticks src) read.behind moving refl legal in
      let same : delay_of ticks (as_numbers now) (edge_from nodes n operand) ≡ delay_of ticks times (edge_from nodes n operand) =
      ap (λ x. ((x -ℤ pos (now src)) -ℤ pos (ticks src)) -ℤ offset) (whole (times n) (kept.begin n ln))
      ∙ ap (λ x. ((times n -ℤ x) -ℤ pos (ticks src)) -ℤ offset) (whole (times src) (kept.begin src inside)) in
      let has : (read.behind ≡ 0 → ⊥) → Contains (stages_at layout src) read.behind = λ some.
      subst (λ u. Contains (stages_at layout u) read.behind) r.source
      (kept_stage nodes ticks times layout kept.orderly kept.pipeline kept.waits n i read ln f li r some) in
      let tap = is_tap src read.behind read r.source refl inside has in
      record {
        delay = wt.wait;
        waits = same ∙ wt.is;
        late = subst (IsTap m run reset (of_net (signal_at words src).net) (read_net layout (late_signals delays) words read)) (sym wt.sum) tap;
        ranked = λ z. subst (λ u. get_or rank u 0 < get_or rank n 0) r.source (direct (sym wt.sum ∙ z));
      }

  tap_of : (n i : ℕ) (read : Read) → n < length nodes → is_offset (kind_at nodes n) ≡ false → i < length (operands_at nodes n)
      → IsRead nodes times n (operand_at nodes n i) read
      → (read.behind ≡ 0 → get_or rank read.source 0 < get_or rank n 0)
      → TapOf m nodes ticks now run reset (standing layout delays words rank) n (operand_at nodes n i)
      (read_net layout (late_signals delays) words read)
  tap_of n i read ln f li r direct =
      let operand = operand_at nodes n i in
      let src = (source_of nodes operand).node in
      let inside : src < length nodes = let a = r.source in let b = r.inside in omega (arith, a, b) in
      record {
        inside = inside;
        stream = (source_known nodes kept.orderly operand (kept.orderly.operands n i ln li)).stream;
        shows = ⊎_elim
            (λ (s : is_steady (kind_at nodes src) ≡ true).
            let z = r.steady (ap (λ u. is_steady (kind_at nodes u)) r.source ∙ s) in
            inl (s, is_tap src 0 read r.source z inside (λ no. absurd (no refl))))
            (λ (s : is_steady (kind_at nodes src) ≡ false). inr (moving_tap n i read ln f li r s direct))
            (cases_Bool (is_steady (kind_at nodes src)));
      }

  taps_each : (n : ℕ) (operands : List ℕ) (reads : List Read) → length reads ≡ length operands
      → ((i : ℕ) → i < length operands → TapOf m nodes ticks now run reset (standing layout delays words rank) n (get_or operands i 0)
      (read_net layout (late_signals delays) words (read_at reads i)))
      → TapsOf m nodes ticks now run reset (standing layout delays words rank) n operands (map (read_net layout (late_signals delays) words) reads)
  taps_each n [] [] same h = tt
  taps_each n [] (r ∷ rs) same h = absurd (omega (arith, same))
  taps_each n (o ∷ os) [] same h = absurd (omega (arith, same))
  taps_each n (o ∷ os) (r ∷ rs) same h = (h 0 (omega arith), taps_each n os rs (omega (arith, same)) (λ i lt. h (suc i) (omega arith)))

  pub counted_reads : (n : ℕ) → n < length nodes → is_offset (kind_at nodes n) ≡ false → length (get_or layout.reads n []) ≡ length (operands_at nodes n)
  counted_reads n ln f = (kept.reads.each n ln).counted ∙ ap (λ b. cond b 0 (length (operands_at nodes n))) f

  pub taps_of : (n : ℕ) → n < length nodes → is_offset (kind_at nodes n) ≡ false
      → TapsOf m nodes ticks now run reset (standing layout delays words rank) n (operands_at nodes n) ((standing layout delays words rank).taps n)
  taps_of n ln f =
      let reads = get_or layout.reads n [] in
      let same = counted_reads n ln f in
      let all = kept.reads.counted in
      let count = (kept.reads.each n ln).counted in
      taps_each n (operands_at nodes n) reads same
      (λ i li. tap_of n i (read_at reads i) ln f li ((kept.reads.each n ln).each i (omega (arith, li, same, count)))
      (λ z. read_rising layout.reads rank kept.rising n i (omega (arith, ln, all)) (omega (arith, li, same)) z))
