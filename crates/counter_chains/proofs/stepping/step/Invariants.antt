use Rattle.std.proofs.Common.{drop}
use Rattle.counter_chains.proofs.Suffixes.{IsStepped}
use Rattle.counter_chains.proofs.stepping.step.Given as goal

abbrev pub invariant-loop-place : goal.invariant-loop-place
invariant-loop-place l = IsStepped (drop l.place l.digits) l.state.bits l.next l.low l.ended
