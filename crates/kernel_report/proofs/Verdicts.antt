-- The verdict on the times and the flow of a part.
use Rattle.std.proofs.Common.{◌≡◌, ℕ, ◌+◌, ◌*◌, ◌≤◌, ◌<◌, ◌^◌, ℤ, List, length, inl, inr, ◌⊎◌, ap, sym, ◌∙◌, subst, arith}
use Rattle.std.specs.Prelude.{pos, unsigned_abs}
use Rattle.std.proofs.lemmas.Int.{ints}
use Rattle.std.proofs.lemmas.Bool.{cases_lt}
use Rattle.std.proofs.lemmas.List.{get_or_past}
use Rattle.cycle_find.specs.Constraints.{numbers_of, Solves, NeedsWithin}
use Rattle.cycle_find.specs.Search.{IsFirstBroken}
use Rattle.schedule_problem.specs.declared.problem.Problem.{Problem}
use Rattle.schedule_problem.specs.Flow.{cost_of}
use Rattle.schedule_problem.specs.Optimum.{IsProblem}
use Rattle.stream_graph.specs.declared.kernel.Kernel.{Kernel}
use Rattle.latency_table.specs.declared.table.Table.{Table}
use Rattle.offset_edges.specs.Edges.{edge_at, edges_of, IsSmall}
use Rattle.offset_edges.specs.Latencies.{ticks_of}
use Rattle.offset_edges.specs.Problems.{problem_of}
use Rattle.schedule_report.specs.declared.report.ReportKernel.{ReportKernel}
use Rattle.schedule_report.specs.Reports.{IsKernelPart}
use Rattle.dual_check.specs.declared.verdict.Verdict.{Verdict}
use Rattle.dual_check.specs.declared.verdict.Verdict.TheVariants as V
use Rattle.dual_check.specs.Verdicts.{IsCheckable, IsVerdict}
use Rattle.kernel_report.specs.Judging.{IsOf, IsJudged, times_in}
use Rattle.kernel_report.specs.Steps.{judgement_of}
use Rattle.kernel_report.proofs.Kept.{each_or, whole_near}
use Rattle.kernel_report.proofs.Ranges.{arcs_length}

module _ (table : Table) (kernel : Kernel) (part : ReportKernel) (times : List ℤ)
    (is : (v : ℕ) → numbers_of times v ≡ times_in kernel part v) where
  -- the times are those of the part, as a function of the node
  same : numbers_of times ≡ times_in kernel part
  same i v = is v i

  -- the times of the problem cost what those of the part do
  pub cost_same : (p : Problem) → cost_of p (numbers_of times) ≡ cost_of p (times_in kernel part)
  cost_same p = ap (λ x. cost_of p x) same

  -- what is said of the answer is said of the part
  pub judged : IsOf table kernel part → (verdict : Verdict)
      → IsVerdict (problem_of table kernel.nodes) (record { times = times; flow = part.flow }) verdict
      → IsJudged table kernel part (judgement_of verdict)
  judged of V.Good v = record {
    of = of;
    legal = subst (λ x. Solves x (problem_of table kernel.nodes).arcs.list) same v.legal;
    flow = v.flow;
    equal = sym (cost_same (problem_of table kernel.nodes)) ∙ v.equal;
  }
  judged of (V.BadTimes arc) v = record {
    of = of;
    first = subst (λ x. IsFirstBroken x (problem_of table kernel.nodes).arcs.list arc) same v;
  }
  judged of (V.BadFlow node) v = record {
    of = of;
    legal = subst (λ x. Solves x (problem_of table kernel.nodes).arcs.list) same v.legal;
    first = v.first;
  }
  judged of (V.CostsDiffer cost value) v = record {
    of = of;
    legal = subst (λ x. Solves x (problem_of table kernel.nodes).arcs.list) same v.legal;
    flow = v.balanced;
    costs = v.costs ∙ cost_same (problem_of table kernel.nodes);
    worth = v.worth;
    apart = v.apart;
  }

  -- the answer can be checked
  pub checkable : (p : Problem) → p ≡ problem_of table kernel.nodes → IsProblem p
      → length p.arcs.list ≤ 2 ^ 20 → NeedsWithin (2 ^ 32 + 64) p.arcs.list → IsKernelPart part
      → IsOf table kernel part → length times ≡ 2 * length kernel.nodes
      → ((j : ℕ) → j < length (edges_of kernel.nodes) → IsSmall (length kernel.nodes) (edge_at (edges_of kernel.nodes) j))
      → IsCheckable p (record { times = times; flow = part.flow })
  checkable p e solvable few needs fine of counted small =
      let nodes : p.arcs.nodes ≡ 2 * length kernel.nodes = ap (λ (q : Problem). q.arcs.nodes) e in
      let list : length p.arcs.list ≡ 2 * length (edges_of kernel.nodes) =
      ap (λ (q : Problem). length q.arcs.list) e
      ∙ arcs_length (length kernel.nodes) (ticks_of table kernel.nodes) (edges_of kernel.nodes) in
      let timely : (v : ℕ) → unsigned_abs (numbers_of part.times v) ≤ 2 ^ 46 = each_near in
      record {
        few = let f = few in omega arith;
        ends = solvable.arcs.ends;
        few_terms = solvable.count;
        term_ends = solvable.ends;
        size = 2 ^ 32 + 64;
        needs = needs;
        small = omega (arith, few);
        times = omega (arith, nodes, counted);
        flow = let c = fine.carried in let h = of.head.edges in omega (arith, list, c, h);
        near = λ v. let w = whole_near (numbers_of part.times) (2 ^ 46) timely kernel.nodes small v in let i = is v in omega (arith, ints, w, i);
        carried = each_or (λ f. f < 2 ^ 63) part.flow 0 fine.flow (omega arith);
      }
    where
      -- a node's time is from 0 to 2^46, and past the nodes it is 0
      each_near : (v : ℕ) → unsigned_abs (numbers_of part.times v) ≤ 2 ^ 46
      each_near v = by_place (cases_lt v (length kernel.nodes))
        where
          by_place : (v < length kernel.nodes) ⊎ (length kernel.nodes ≤ v) → unsigned_abs (numbers_of part.times v) ≤ 2 ^ 46
          by_place (inl l) = let t = of.timely v l in let low = t.0 in let high = t.1 in omega (arith, ints, low, high)
          by_place (inr g) =
              let c = fine.counted in
              let n = of.head.nodes in
              let past = get_or_past part.times v (pos 0) (omega arith) in
              omega (arith, ints, past)
