use Rattle.stream_graph.proofs.Meeting.{met_more}
use Rattle.stream_graph.proofs.names.Names.meet.Goals as goal

pub returns-clause-met : goal.returns-clause-met
returns-clause-met c = λ names h q. met_more c.args.name.now q.now names _ _ (c.in_ok-insert.ensures.updates.0 q)
    (h q)
