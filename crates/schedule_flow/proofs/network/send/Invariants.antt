use Rattle.schedule_flow.proofs.Sending.{Sending}
use Rattle.schedule_flow.proofs.network.send.Given as goal

abbrev pub invariant-loop-k : goal.invariant-loop-k
invariant-loop-k l = Sending l.problem l.initial.flow l.flow l.path l.amount l.k
