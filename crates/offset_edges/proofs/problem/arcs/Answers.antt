use Rattle.std.proofs.Common.{arith, ◌≤◌, ◌^◌}
use Rattle.std.specs.Prelude.{pos, slice_index, unsigned_abs}
use Rattle.std.proofs.lemmas.Int.{ints}
use Rattle.offset_edges.specs.Edges.{edge_at}
use Rattle.offset_edges.proofs.ProblemLemmas.{arcs_more}
use Rattle.offset_edges.proofs.problem.arcs.Goals as goal

pub loop-edge-preserved : goal.loop-edge-preserved
loop-edge-preserved c =
    let size : unsigned_abs (edge_at c.args.edges.now c.loop-edge.edge-index).offset ≤ 2 ^ 32 =
    (c.requires.edges c.loop-edge.edge-index c.loop-edge-test.true).offset in
    let few = c.requires.ticks (edge_at c.args.edges.now c.loop-edge.edge-index).from in
    let from = c.from-latency.ensures in
    arcs_more c.args.nodes (λ n. slice_index c.args.ticks.now n) c.args.edges.now
    c.push-in-loop-edge.new.self c.push.new.self
    c.loop-edge.arcs c.loop-edge.edge-index _ _
    (record { from = 0; to = 0; offset = pos 0 }) c.loop-edge-test.true c.loop-edge.invariant (omega
    (arith, ints, size, few, from)) (omega (arith, ints, size))
    c.in_ok-push.ensures.ok c.in_ok-push-2.ensures.ok
