-- What a least schedule of a kernel gives its layout.
use Rattle.std.proofs.Common.{◌≡◌, ◌∙◌, ⊎_elim, ℕ, zero, suc, ◌+◌, ◌*◌, ◌<◌, ◌≤◌, ◌^◌}
use Rattle.std.proofs.Common.{true, false, List, [], length, get_or, ap, sym, subst, arith, length-append}
use Rattle.std.specs.Prelude.{All, ℤ, pos, ◌≤ℤ◌, Option, Some, None, unwrap_or, slice_index, unsigned_abs, int_lt}
use Rattle.std.specs.Int.{w128}
use mir.Val.{to_z, of_z, SFits}
use Rattle.std.proofs.lemmas.Int.{ints, clamps, to_z-of_z}
use Rattle.std.proofs.lemmas.Bool.{cases_lt}
use Rattle.std.proofs.lemmas.List.{get_or_past, get_or_default}
use Rattle.std.proofs.lemmas.List.Elements.{All-nil, All-cons, All-append}
use Rattle.cycle_find.specs.Constraints.{Numbers, numbers_of}
use Rattle.schedule_problem.specs.declared.problem.Term.{Term}
use Rattle.schedule_problem.specs.Flow.{TermsInRange, cost_of}
use Rattle.stream_graph.specs.declared.node.Kind.TheVariants as K
use Rattle.stream_graph.specs.declared.node.Node.{Node}
use Rattle.stream_graph.specs.Kernels.{AreKernel}
use Rattle.latency_table.specs.declared.table.Table.{Table}
use Rattle.offset_edges.specs.declared.edge.Edge.{Edge}
use Rattle.stream_graph.specs.LookUps.{kind_at, width_at, no_node}
use Rattle.stream_graph.specs.Kinds.{is_offset}
use Rattle.offset_edges.specs.Edges.{edges_of, edge_at}
use Rattle.offset_edges.specs.Latencies.{latency_as, ticks_of, AreLatencies}
use Rattle.offset_edges.specs.Problems.{term_of, terms_below, problem_over, reader_of}
use Rattle.offset_edges.specs.Schedules.{IsLegal, fifo_bits}
use Rattle.offset_edges.specs.Walks.{IsCausal, AreCovered}
use Rattle.stream_graph.proofs.NodeLemmas.{orderly}
use Rattle.offset_edges.proofs.EdgeLemmas.{edges_small}
use Rattle.offset_edges.proofs.SourceLemmas.{kind_cases}
use Rattle.kernel_schedule.specs.declared.schedule.Schedule.{Schedule}
use Rattle.kernel_layout.specs.declared.layout.Layout.{Layout}
use Rattle.kernel_layout.specs.Layouts.{IsLayout}
use Rattle.kernel_layout.specs.Waits.{IsReadBehind}
use Rattle.kernel_stages.specs.Numbers.{AreRising}
use Rattle.std.specs.Prelude.{Result, Ok, Err, IfErr}
use Rattle.std.specs.Result.{IsErrAnd}
use Rattle.kernel_plan.specs.declared.error.PlanError.{PlanError}
use Rattle.kernel_plan.specs.declared.planned.Plan.{Plan}
use Rattle.kernel_plan.specs.declared.error.PlanError.TheVariants as E
use Rattle.kernel_rtl.specs.Planned.{IsPlanned}
use Rattle.kernel_plan.specs.Planned.{IsScheduled}
use Rattle.kernel_plan.specs.Refused.{bits_in, IsRefused}
use Rattle.kernel_plan.proofs.Bits.{of_nodes, delay_at_most}
use Rattle.kernel_plan.proofs.Rising.{rising}

-- ---- latencies

-- a latency that was read is that of the node, also past the last one
ticks_read : (table : Table) (nodes : List Node) (ticks : List ℕ)
    → AreLatencies table nodes (length nodes) ticks → (n : ℕ) → get_or ticks n 0 ≡ ticks_of table nodes n
ticks_read table nodes ticks a n = ⊎_elim
    (λ (lt : n < length nodes). sym (ap (λ o. unwrap_or o 0) (a.each n lt)))
    (λ (ge : length nodes ≤ n).
    let c = a.counted in
    get_or_past ticks n 0 (omega arith)
    ∙ ap (λ node. unwrap_or (latency_as table nodes n node.view.kind) 0) (sym (get_or_past nodes n no_node ge)))
    (cases_lt n (length nodes))

pub same_ticks : (table : Table) (nodes : List Node) (ticks : List ℕ)
    → AreLatencies table nodes (length nodes) ticks → slice_index ticks ≡ ticks_of table nodes
same_ticks table nodes ticks a = λ i n. ticks_read table nodes ticks a n i

-- an offset has no latency
offset_free : (table : Table) (nodes : List Node) (n : ℕ) → is_offset (kind_at nodes n) ≡ true
    → ticks_of table nodes n ≡ 0
offset_free table nodes n e = ⊎_elim
    (λ (o : (t : ℤ) × (kind_at nodes n ≡ K.Offset t)). ap (λ k. unwrap_or (latency_as table nodes n k) 0) o.1)
    (λ (f : is_offset (kind_at nodes n) ≡ false). absurd (cc))
    (kind_cases (kind_at nodes n))

-- a chain has no latency
chain_free : (table : Table) (nodes : List Node) (n : ℕ) → kind_at nodes n ≡ K.Chain
    → ticks_of table nodes n ≡ 0
chain_free table nodes n e = ap (λ k. unwrap_or (latency_as table nodes n k) 0) e

-- a kernel whose closed walks are covered is causal
covered_causal : (ticks : ℕ → ℕ) (edges : List Edge) → AreCovered ticks edges → IsCausal edges
covered_causal ticks edges c v j js w = let h = c v j js w in omega (arith, ints, clamps, h)

-- ---- terms

term_one : (nodes : List Node) (u : ℕ) (reader : Option ℕ) → length (term_of nodes u reader) ≤ 1
term_one nodes u None = omega arith
term_one nodes u (Some r) = omega arith

terms_few : (nodes : List Node) (readers : ℕ → Option ℕ) (n : ℕ) → length (terms_below nodes readers n) ≤ n
terms_few nodes readers zero = omega arith
terms_few nodes readers (suc n) =
    let r = terms_few nodes readers n in
    let o = term_one nodes n (readers n) in
    let l = length-append (terms_below nodes readers n) (term_of nodes n (readers n)) in
    omega arith

record HasEnds (count : ℕ) (t : Term) : Type 0 where
  from : t.from < count
  to : t.to < count

term_ends : (nodes : List Node) (u : ℕ) (reader : Option ℕ) → u < length nodes
    → All (HasEnds (2 * length nodes)) (term_of nodes u reader)
term_ends nodes u None h = All-nil (HasEnds (2 * length nodes))
term_ends nodes u (Some r) h =
    All-cons (HasEnds (2 * length nodes)) (record { from = u; to = length nodes + u; weight = width_at nodes u; mid = r }) []
    (record { from = omega (arith, h); to = omega (arith, h) }) (All-nil (HasEnds (2 * length nodes)))

terms_end : (nodes : List Node) (readers : ℕ → Option ℕ) (n : ℕ) → n ≤ length nodes
    → All (HasEnds (2 * length nodes)) (terms_below nodes readers n)
terms_end nodes readers zero h = All-nil (HasEnds (2 * length nodes))
terms_end nodes readers (suc n) h =
    All-append (HasEnds (2 * length nodes)) (terms_below nodes readers n) (term_of nodes n (readers n))
    (terms_end nodes readers n (omega (arith, h))) (term_ends nodes n (readers n) (omega (arith, h)))

-- ---- the bound of the bits

pub many : (bits : ℤ) (said : ℕ) → said ≡ unsigned_abs bits → int_lt (pos (2 ^ 28)) bits ≡ true
    → (pos said ≡ bits) × (2 ^ 28 < said)
many bits said is above = (omega (arith, ints, is, above), omega (arith, ints, is, above))

enough : (bits : ℤ) → int_lt (pos (2 ^ 28)) bits ≡ false → bits ≤ℤ pos (2 ^ 28)
enough bits above = omega (arith, ints, above)

-- bits that aren't below 0 are said as they are
whole : (bits : ℤ) → pos 0 ≤ℤ bits → pos (unsigned_abs bits) ≡ bits
whole bits some = omega (arith, ints, some)

pub few_said : (bits : ℤ) (said : ℕ) → pos said ≡ bits → bits ≤ℤ pos (2 ^ 28) → said ≤ 2 ^ 28
few_said bits said is few = omega (arith, ints, is, few)

pub said_few : (bits : ℤ) (said : ℕ) → pos said ≡ bits → said ≤ 2 ^ 28 → bits ≤ℤ pos (2 ^ 28)
said_few bits said is few = omega (arith, ints, is, few)

-- want of memory comes where the bits are few enough
pub no_memory : (r : Result Plan PlanError) (bits : ℤ) → IsErrAnd r (λ e. e ≡ E.NoMemory)
    → bits ≤ℤ pos (2 ^ 28) → IfErr r (IsRefused bits)
no_memory (Ok plan) bits is few = absurd is
no_memory (Err e) bits is few = subst (IsRefused bits) (sym is) few

-- ---- a least schedule

module _ (nodes : List Node) (schedule : Schedule) (scheduled : IsScheduled nodes schedule) where
  abbrev table : Table
  table = scheduled.table

  abbrev x : Numbers
  x = numbers_of schedule.answer.times

  abbrev ticks : ℕ → ℕ
  ticks = slice_index schedule.latencies

  same : ticks ≡ ticks_of table nodes
  same = same_ticks table nodes schedule.latencies scheduled.least.latencies

  pub problem_is : schedule.problem ≡ problem_over ticks nodes (edges_of nodes)
  problem_is = scheduled.least.problem ∙ ap (λ t. problem_over t nodes (edges_of nodes)) (sym same)

  pub few_terms : length nodes ≤ 4096 → length schedule.problem.terms ≤ 2 ^ 20
  few_terms few =
      let l = terms_few nodes (reader_of (edges_of nodes)) (length nodes) in
      subst (λ p. length p.terms ≤ 2 ^ 20) (sym problem_is) (omega (arith, l, few))

  pub times_length : length schedule.answer.times ≡ 2 * length nodes
  times_length = scheduled.least.best.nodes ∙ ap (λ p. p.arcs.nodes) problem_is

  pub terms_inside : TermsInRange (length schedule.answer.times) schedule.problem.terms
  terms_inside =
      subst (λ n. TermsInRange n schedule.problem.terms) (sym times_length)
      (subst (λ p. TermsInRange (2 * length nodes) p.terms) (sym problem_is)
      (λ t h.
      let e = terms_end nodes (reader_of (edges_of nodes)) (length nodes) (omega arith) t
      (record { from = 0; to = 0; weight = 0; mid = 0 }) h in
      (e.from, e.to)))

  pub begin : (v : ℕ) → pos 0 ≤ℤ x v
  begin = scheduled.least.earliest.non_negative

  pub legal : IsLegal ticks (edges_of nodes) x
  legal = subst (λ t. IsLegal t (edges_of nodes) x) (sym same) scheduled.least.times.legal

  pub causal : IsCausal (edges_of nodes)
  causal = covered_causal (ticks_of table nodes) (edges_of nodes) scheduled.schedulable.covered

  bits_are : bits_in nodes schedule ≡ cost_of schedule.problem x
  bits_are = ap (λ t. fifo_bits t nodes (edges_of nodes) x) same ∙ scheduled.least.bits

  -- the bits as the cost of the times is read
  pub bits_read : (z : ℤ) (times : List ℤ) → SFits w128 z → z ≡ cost_of schedule.problem (numbers_of times)
      → times ≡ schedule.answer.times → to_z w128 (of_z w128 z) ≡ bits_in nodes schedule
  bits_read z times fits cost is =
      to_z-of_z w128 z fits
      ∙ (cost ∙ (ap (λ xs. cost_of schedule.problem (numbers_of xs)) is ∙ sym bits_are))

  pub some_bits : pos 0 ≤ℤ bits_in nodes schedule
  some_bits = of_nodes ticks nodes (edges_of nodes) x legal (length nodes)

  -- the bits as they are said
  pub bits_said : (z : ℤ) (times : List ℤ) → SFits w128 z → z ≡ cost_of schedule.problem (numbers_of times)
      → times ≡ schedule.answer.times → pos (unsigned_abs (to_z w128 (of_z w128 z))) ≡ bits_in nodes schedule
  bits_said z times fits cost is =
      ap (λ b. pos (unsigned_abs b)) (bits_read z times fits cost is) ∙ whole (bits_in nodes schedule) some_bits

  -- where the cost is tested, the bits are few enough
  pub few_bits : (z : ℤ) (times : List ℤ) → SFits w128 z → z ≡ cost_of schedule.problem (numbers_of times)
      → times ≡ schedule.answer.times → int_lt (pos (2 ^ 28)) (to_z w128 (of_z w128 z)) ≡ false
      → bits_in nodes schedule ≤ℤ pos (2 ^ 28)
  few_bits z times fits cost is test =
      enough (bits_in nodes schedule) (subst (λ b. int_lt (pos (2 ^ 28)) b ≡ false) (bits_read z times fits cost is) test)

  module _ (made : ∥ AreKernel nodes ∥₁) (few : length nodes ≤ 4096) (fits : bits_in nodes schedule ≤ℤ pos (2 ^ 28)) where
    late : (u b : ℕ) → IsReadBehind nodes x u b → b ≤ ticks u + 2 ^ 28
    late u b r =
        let j = r.0 in
        let e = edge_at (edges_of nodes) j in
        let small = edges_small nodes (orderly nodes made) few j r.1 in
        let wide = ((orderly nodes made).widths e.from small.from).0 in
        let d = delay_at_most ticks nodes (edges_of nodes) x legal j r.1 small.from wide in
        let is = r.3 in
        let t = ap ticks r.2 in
        omega (arith, ints, d, is, t, fits)

    pub planned : ((v : ℕ) → x v ≤ℤ pos (2 ^ 46)) → (layout : Layout) → IsLayout nodes ticks x layout → IsPlanned nodes x layout
    planned most layout laid = record {
      ticks = ticks;
      begin = λ v h. begin v;
      most = λ v h. most v;
      offsets = λ v h e. ap (λ t. t v) same ∙ offset_free table nodes v e;
      chains = λ v h e. ap (λ t. t v) same ∙ chain_free table nodes v e;
      legal = legal;
      laid = laid;
      near = λ k d h.
          let counted = laid.waits.counted in
          let a = laid.waits.each k (omega (arith, h, counted)) in
          (subst AreRising (get_or_default layout.waits k [] d h) (rising nodes ticks x k (get_or layout.waits k []) a (late k))).near;
    }
