use Rattle.schedule_flow.specs.Adjacency.{IsLinkedBelow}
use Rattle.schedule_flow.proofs.adjacency.link.Given as goal

abbrev pub invariant-loop-number : goal.invariant-loop-number
invariant-loop-number l = IsLinkedBelow l.list l.number l.first l.before
