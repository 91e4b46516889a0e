use Rattle.std.proofs.Common.{arith, get_or, ◌≤◌, ◌^◌}
use Rattle.std.specs.Prelude.{slice_index, unsigned_abs}
use Rattle.std.proofs.lemmas.Int.{ints}
use Rattle.offset_edges.specs.Edges.{edge_at}
use Rattle.offset_edges.proofs.ShownLemmas.{offsets_more, latencies_more, nodes_more, summed}
use Rattle.offset_edges.proofs.walk.sum_over.Goals as goal

pub loop-number-preserved : goal.loop-number-preserved
loop-number-preserved c =
    let edges = c.args.edges.now in
    let js = c.args.numbers.now in
    let i = c.loop-number.number-index in
    let h = c.loop-number-test.true in
    let size : unsigned_abs (edge_at edges (get_or js i 0)).offset ≤ 2 ^ 32 =
    (c.requires.edges (get_or js i 0) (c.requires.numbers i h)).offset in
    let most : get_or c.args.ticks.now (edge_at edges (get_or js i 0)).from 0 ≤ 64 =
    c.requires.ticks (edge_at edges (get_or js i 0)).from in
    let from = c.from-latency.ensures in
    let few = c.requires.few in
    let more = offsets_more edges js i h in
    let is = c.loop-number.invariant.2 in
    let latency = c.loop-number.invariant.3 in
    let offset = c.loop-number.invariant.4 in (
      nodes_more edges js c.push.new.self c.loop-number.nodes i h c.loop-number.invariant.0
          c.in_ok-push.ensures.ok,
      summed c.loop-number.latency c.from-latency.result _ _ _ c.loop-number.invariant.1 from
          (latencies_more (λ n. slice_index c.args.ticks.now n) edges js i h),
      omega (arith, ints, size, more, is, offset, few, h),
      omega (arith, from, most, latency),
      omega (arith, ints, size, offset, few, h),
    )
