use Rattle.std.proofs.Common.{◌≡◌, ℕ, suc, ◌+◌, ◌≤◌, ◌^◌, pos, unsigned_abs, length, ap, sym, subst, ◌∙◌, arith, rules}
use Rattle.std.proofs.lemmas.Int.{ints}
use Rattle.schedule_problem.specs.declared.problem.Problem.{Problem}
use Rattle.offset_edges.specs.Edges.{edges_of}
use Rattle.offset_edges.specs.Latencies.{ticks_of}
use Rattle.cycle_find.specs.Constraints.{numbers_of}
use Rattle.stream_graph.proofs.NodeLemmas.{orderly}
use Rattle.offset_edges.proofs.EdgeLemmas.{edges_small}
use Rattle.kernel_report.specs.Judging.{HasHead, IsMismatch}
use Rattle.kernel_report.proofs.Kept.{each_or, whole_near}
use Rattle.kernel_report.proofs.Ranges.{arcs_length}
use Rattle.kernel_report.proofs.judging.judge.Goals as goal

pub has_counts-requires : goal.has_counts-requires
has_counts-requires c =
    let nodes = c.args.kernel.now.nodes in
    record {
      problem = ap (λ (q : Problem). length q.arcs.list) c.requires.problem
          ∙ arcs_length (length nodes) (ticks_of c.args.table.now nodes) (edges_of nodes);
    }

pub cost-requires-clause-within : goal.cost-requires-clause-within
cost-requires-clause-within c v =
    let kernel = c.args.kernel.now in
    let part = c.args.part.now in
    let near : (v : ℕ) → unsigned_abs (numbers_of c.as_slice.result.now v) ≤ 2 ^ 60 =
    subst (λ xs. (v : ℕ) → unsigned_abs (numbers_of xs v) ≤ 2 ^ 60) (sym c.as_slice.ensures)
    (each_or (λ s. unsigned_abs s ≤ 2 ^ 60) part.times (pos 0) c.requires.part.times (omega arith)) in
    let small = edges_small kernel.nodes (orderly kernel.nodes kernel.made) kernel.few in
    let w = whole_near (numbers_of c.as_slice.result.now) (2 ^ 60) near kernel.nodes small v in
    let i = c.in_ok-times.ensures.whole v in
    let e = ap (λ xs. numbers_of xs v) c.as_slice-2.ensures in
    omega (arith, ints, w, i, e)

pub returns-in-Some : goal.returns-in-Some
returns-in-Some c =
    let kernel = c.args.kernel.now in
    let part = c.args.part.now in
    let node = c.in-Some.node in
    let head : HasHead c.args.table.now kernel part = search rules in
    let first = c.in-Some.ensures.some in
    let place = first.node in
    let counted = c.requires.part.counted in
    let nodes = head.nodes in
    let one : suc node ≡ node + 1 = omega arith in
    subst (λ k. IsMismatch c.args.table.now kernel part k) one (head, omega arith, first.untimely, first.before)
