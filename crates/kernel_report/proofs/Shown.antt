-- The times of a part that is shown are a least schedule.
use Rattle.std.proofs.Common.{◌≡◌, ℕ, zero, suc, ◌<◌, List, [], ◌∷◌, length, refl, ap, ◌∙◌, subst, arith}
use Rattle.std.specs.Prelude.{ℤ, pos, ◌+ℤ◌, ◌≤ℤ◌, ◌==◌, if◌then◌else◌, Some}
use Rattle.std.proofs.lemmas.Int.{ints}
use Rattle.cycle_find.specs.Constraints.{Numbers, numbers_of}
use Rattle.schedule_problem.specs.Flow.{flow_of}
use Rattle.schedule_problem.proofs.Duality.{flows_bound}
use Rattle.stream_graph.specs.declared.node.Node.{Node}
use Rattle.stream_graph.specs.declared.kernel.Kernel.{Kernel}
use Rattle.latency_table.specs.declared.table.Table.{Table}
use Rattle.offset_edges.specs.declared.edge.Edge.{Edge}
use Rattle.offset_edges.specs.Edges.{edge_at, edges_of, IsSmall}
use Rattle.offset_edges.specs.Latencies.{ticks_of}
use Rattle.offset_edges.specs.Problems.{reader_of, problem_of}
use Rattle.offset_edges.specs.Schedules.{
  delay_of,
  IsLegal,
  greater,
  greatest_delay,
  bits_of,
  bits_below,
  fifo_bits,
  SolutionsAreSchedules,
  SchedulesAreSolutions,
}
use Rattle.schedule_report.specs.declared.report.ReportKernel.{ReportKernel}
use Rattle.kernel_report.specs.Judging.{IsShown, IsLeastOf, times_in}
use Rattle.kernel_report.proofs.Kept.{whole_own}
use Rattle.kernel_report.proofs.Ranges.{ends_within, terms_within}

-- ---- times that are the same of all nodes

-- the ends of these edges are some of so many nodes
abbrev AreSmall : ℕ → List Edge → Type 0
AreSmall nodes edges = (j : ℕ) → j < length edges → IsSmall nodes (edge_at edges j)

module _ (ticks : ℕ → ℕ) (n : ℕ) (x s : Numbers) (same : (v : ℕ) → v < n → x v ≡ s v) where
  -- an edge's words wait as long
  delay_same : (e : Edge) → IsSmall n e → delay_of ticks x e ≡ delay_of ticks s e
  delay_same e small =
      let f = same e.from small.from in let t = same e.to small.to in omega (arith, ints, f, t)

  -- a node's greatest delay is the same
  greatest_same : (edges : List Edge) → AreSmall n edges → (u : ℕ)
      → greatest_delay ticks x edges u ≡ greatest_delay ticks s edges u
  greatest_same [] small u = refl
  greatest_same (e ∷ es) small u =
      ap (λ d. if e.from == u then Some (greater d (greatest_delay ticks x es u)) else greatest_delay ticks x es u)
      (delay_same e (small 0 (omega arith)))
      ∙ ap (λ o. if e.from == u then Some (greater (delay_of ticks s e) o) else o)
      (greatest_same es (λ j h. small (suc j) (omega arith)) u)

  -- the ones are legal where the others are
  legal_same : (edges : List Edge) → AreSmall n edges → IsLegal ticks edges x → IsLegal ticks edges s
  legal_same edges small legal = λ j h.
      subst (λ z. pos 0 ≤ℤ z) (delay_same (edge_at edges j) (small j h)) (legal j h)

  -- the FIFOs hold as many bits
  bits_same : (nodes : List Node) (edges : List Edge) → AreSmall n edges → (k : ℕ)
      → bits_below ticks nodes edges x k ≡ bits_below ticks nodes edges s k
  bits_same nodes edges small zero = refl
  bits_same nodes edges small (suc k) =
      ap (λ o. bits_below ticks nodes edges x k +ℤ bits_of nodes k o) (greatest_same edges small k)
      ∙ ap (λ z. z +ℤ bits_of nodes k (greatest_delay ticks s edges k)) (bits_same nodes edges small k)

-- ---- the part that is shown

module _ (table : Table) (kernel : Kernel) (small : AreSmall (length kernel.nodes) (edges_of kernel.nodes))
    (sols : SolutionsAreSchedules table kernel.nodes) (schedules : SchedulesAreSolutions table kernel.nodes)
    (part : ReportKernel) (shown : IsShown table kernel part) where
  -- the latencies of the kernel's nodes, their times in the part, and the bits of times
  abbrev ticks : ℕ → ℕ
  ticks = ticks_of table kernel.nodes

  abbrev s : Numbers
  s = numbers_of part.times

  abbrev bits : Numbers → ℤ
  bits y = fifo_bits ticks kernel.nodes (edges_of kernel.nodes) y

  -- in the times of the problem a node has its own
  own : (v : ℕ) → v < length kernel.nodes → times_in kernel part v ≡ s v
  own v h = whole_own kernel.nodes s v h

  -- its times are legal
  legal_times : IsLegal ticks (edges_of kernel.nodes) s
  legal_times =
      legal_same ticks (length kernel.nodes) (times_in kernel part) s own (edges_of kernel.nodes) small
      (sols (times_in kernel part) shown.legal).0

  -- the part's bits are no more than those of any legal schedule
  least_bits : (other : Numbers) → IsLegal ticks (edges_of kernel.nodes) other → pos part.bits ≤ℤ bits other
  least_bits other legal =
      let p = problem_of table kernel.nodes in
      let y = schedules other legal in
      let bound = flows_bound p (ends_within (length kernel.nodes) ticks (edges_of kernel.nodes) small)
      (terms_within kernel.nodes (reader_of (edges_of kernel.nodes))) y.0 (flow_of part.flow) y.1 shown.flow in
      let e = y.3 in
      let q = shown.equal in
      let b = shown.of.head.bits in
      omega (arith, ints, bound, e, q, b)

  -- the times' own are no more
  own_bits : bits s ≤ℤ pos part.bits
  own_bits =
      let most = (sols (times_in kernel part) shown.legal).1 in
      let same = bits_same ticks (length kernel.nodes) (times_in kernel part) s own kernel.nodes
      (edges_of kernel.nodes) small (length kernel.nodes) in
      let b = shown.of.head.bits in
      omega (arith, ints, most, same, b)

  -- so the times are a least schedule of these bits
  pub shown_least : IsLeastOf table kernel part
  shown_least = record {
    least = record {
      legal = legal_times;
      least = λ other legal. let l = least_bits other legal in let o = own_bits in omega (arith, ints, l, o);
    };
    bits = let l = least_bits s legal_times in let o = own_bits in omega (arith, ints, l, o);
  }
