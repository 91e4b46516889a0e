-- The part that is written of a kernel.
use Rattle.std.proofs.Common.{◌≡◌, ℕ, ◌*◌, ◌≤◌, ◌<◌, ◌^◌, ℤ, true, List, length, take, ap, sym, ◌∙◌, subst, arith, length-take}
use Rattle.std.specs.Prelude.{All, pos, ◌≤ℤ◌, unsigned_abs}
use Rattle.std.proofs.lemmas.Int.{ints}
use Rattle.std.proofs.lemmas.List.{get_or_default, get_or-take}
use Rattle.cycle_find.specs.Constraints.{numbers_of, IsNonNegative}
use Rattle.schedule_problem.specs.declared.problem.Problem.{Problem}
use Rattle.schedule_problem.specs.Flow.{cost_of}
use Rattle.stream_graph.specs.declared.kernel.Kernel.{Kernel}
use Rattle.latency_table.specs.declared.table.Table.{Table}
use Rattle.offset_edges.specs.Edges.{edges_of}
use Rattle.offset_edges.specs.Latencies.{ticks_of}
use Rattle.kernel_calls.specs.Laws.{is_port_name}
use Rattle.kernel_schedule.specs.declared.schedule.Schedule.{Schedule}
use Rattle.kernel_schedule.specs.Schedules.{IsLeast}
use Rattle.schedule_report.specs.declared.report.ReportKernel.{ReportKernel}
use Rattle.stream_graph.proofs.NodeLemmas.{orderly}
use Rattle.offset_edges.proofs.EdgeLemmas.{edges_few}
use Rattle.kernel_report.specs.Parts.{IsPartOf}
use Rattle.kernel_report.proofs.Ranges.{arcs_length}

-- numbers of 0 to 2^46 are small, so far as they are taken
times_small : (n : ℕ) (times : List ℤ) → IsNonNegative (numbers_of times)
    → ((v : ℕ) → numbers_of times v ≤ℤ pos (2 ^ 46)) → All (λ s. unsigned_abs s ≤ 2 ^ 60) (take n times)
times_small n times low high = λ k d h.
    let l = length-take n times in
    let e = get_or_default (take n times) k d (pos 0) h in
    let t = get_or-take n times k (pos 0) (omega arith) in
    let a = low k in
    let b = high k in
    omega (arith, ints, e, t, a, b)

module _ (table : Table) (kernel : Kernel) (schedule : Schedule) (least : IsLeast table kernel.nodes schedule) where
  -- two arcs an edge, of which there are at most 2^19
  pub edges_double : length schedule.problem.arcs.list ≡ 2 * length (edges_of kernel.nodes)
  edges_double =
      ap (λ (p : Problem). length p.arcs.list) least.problem
      ∙ arcs_length (length kernel.nodes) (ticks_of table kernel.nodes) (edges_of kernel.nodes)

  pub few_edges : length (edges_of kernel.nodes) ≤ 2 ^ 19
  few_edges = edges_few kernel.nodes (orderly kernel.nodes kernel.made) kernel.few

  -- a part that says so is the kernel's
  pub part_is : (part : ReportKernel) → is_port_name kernel.name ≡ true
      → ((v : ℕ) → numbers_of schedule.answer.times v ≤ℤ pos (2 ^ 46)) → part.bits < 2 ^ 63
      → pos part.bits ≡ cost_of schedule.problem (numbers_of schedule.answer.times)
      → part.name ≡ kernel.name → part.nodes ≡ length kernel.nodes
      → part.edges ≡ length (edges_of kernel.nodes)
      → part.times ≡ take (length kernel.nodes) schedule.answer.times → part.flow ≡ schedule.answer.flow
      → IsPartOf kernel schedule part
  part_is part port most small bits name nodes edges times flow =
      let few = few_edges in
      let count = kernel.few in
      let double = edges_double in
      let all : schedule.problem.arcs.nodes ≡ 2 * length kernel.nodes = ap (λ (p : Problem). p.arcs.nodes) least.problem in
      let given = least.best.nodes in
      let taken = ap length times in
      let l = length-take (length kernel.nodes) schedule.answer.times in
      let carried = ap length flow in
      let each = least.best.arcs in
      record {
        is = record {
          named = subst (λ n. is_port_name n ≡ true) (sym name) port;
          nodes = omega arith;
          edges = omega arith;
          bits = small;
          counted = omega arith;
          carried = omega arith;
          times =
              subst (λ xs. All (λ s. unsigned_abs s ≤ 2 ^ 60) xs) (sym times)
              (times_small (length kernel.nodes) schedule.answer.times least.earliest.non_negative most);
          flow =
              subst (λ fs. All (λ f. f < 2 ^ 63) fs) (sym flow)
              (λ k d h. subst (λ f. f < 2 ^ 63) (get_or_default schedule.answer.flow k 0 d h) (least.small k));
        };
        named = name;
        nodes = nodes;
        edges = edges;
        bits = bits;
        times = times;
        flow = flow;
      }
