use Rattle.std.proofs.Common.{refl, arith}
use Rattle.digraph.proofs.FanIns.{collects_begin, collected}
use Rattle.digraph.proofs.cone.fan_in.Goals as goal

pub loop-done-init : goal.loop-done-init
loop-done-init c = record {
  collects = collects_begin c.args.graph.now c.args.end c.args.number c.args.seen.now
      c.meet.new.seen c.meet.new.nodes.items c.requires.size c.requires.end c.requires.earlier
      (rw c.new-nodes.ensures.items at c.in_ok-meet.ensures);
  left = refl;
}

pub returns-clause-nodes : goal.returns-clause-nodes
returns-clause-nodes c = collected c.args.graph.now c.args.end c.args.number c.loop-done.seen c.loop-done.nodes.items c.loop-done.done (omega arith) c.loop-done.invariant.collects
