use Rattle.std.proofs.Common.{get_or}
use Rattle.std.specs.Prelude.{pos}
use Rattle.offset_edges.proofs.WalkLemmas.{one_constraint_more, need_fits}
use Rattle.offset_edges.proofs.causal.constraints.Goals as goal

pub loop-edge-preserved : goal.loop-edge-preserved
loop-edge-preserved c =
    one_constraint_more c.args.nodes c.args.edges.now c.push.new.self c.loop-edge.list
    c.loop-edge.edge-index _ (record { from = 0; to = 0; offset = pos 0 })
    c.loop-edge-test.true c.loop-edge.invariant
    (need_fits (get_or c.args.edges.now c.loop-edge.edge-index (record {
      from = 0;
      to = 0;
      offset =
          pos 0;
    })).offset c.from.result c.args.nodes
    (c.requires.edges c.loop-edge.edge-index c.loop-edge-test.true).offset c.requires.nodes
    c.from.ensures)
    c.in_ok-push.ensures.ok
