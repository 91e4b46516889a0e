use Rattle.stream_graph.proofs.Faulty.{found, not_here, none_at_all}
use Rattle.stream_graph.proofs.fault.Fault.first.Goals as goal

pub returns-then-stands-clause-some : goal.returns-then-stands-clause-some
returns-then-stands-clause-some c =
    found c.args.self c.args.nodes.now c.loop-number.number c.new.result c.index-nodes-number.result c.stands.result
    c.new.ensures c.loop-number-test.true c.index-nodes-number.is c.stands.ensures c.if-stands.true
    c.loop-number.invariant

pub loop-number-preserved : goal.loop-number-preserved
loop-number-preserved c =
    not_here c.args.self c.args.nodes.now c.loop-number.number c.index-nodes-number.result c.stands.result
    c.loop-number-test.true c.index-nodes-number.is c.stands.ensures c.if-stands.false c.loop-number.invariant

pub returns-clause-none : goal.returns-clause-none
returns-clause-none c = none_at_all c.args.self c.args.nodes.now c.loop-number.number c.loop-number-test.false
    c.loop-number.invariant
