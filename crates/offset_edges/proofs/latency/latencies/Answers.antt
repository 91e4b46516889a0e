use Rattle.std.proofs.Common.{rules, arith, sym, subst, ◌+◌}
use Rattle.offset_edges.specs.Latencies.{AreLatencies, IsMissing}
use Rattle.offset_edges.proofs.LatencyLemmas.{first_lacking, one_latency_more}
use Rattle.offset_edges.proofs.latency.latencies.Goals as goal

pub returns-in_err-latency-clause-err : goal.returns-in_err-latency-clause-err
returns-in_err-latency-clause-err c =
    let why : IsMissing c.args.table.now c.args.kernel.now.nodes c.in_err-latency.field-0.0 =
    first_lacking c.args.table.now c.args.kernel.now.nodes c.loop-number.number
    c.loop-number.ticks.items
    c.in_err-latency.field-0.0 c.loop-number.invariant
    (omega (arith, c.loop-number-test.true, c.count-number-end.ensures))
    c.in_err-latency.ensures.err in
    search rules

pub loop-number-preserved : goal.loop-number-preserved
loop-number-preserved c =
    subst (λ ts. AreLatencies c.args.table.now c.args.kernel.now.nodes (c.loop-number.number + 1)
    ts)
    (sym c.in_ok-push.ensures.items)
    (one_latency_more c.args.table.now c.args.kernel.now.nodes c.loop-number.number
    c.loop-number.ticks.items
    c.in_ok-latency.latency c.loop-number.invariant c.in_ok-latency.ensures.ok
    c.in_ok-latency.ensures.at_most)
