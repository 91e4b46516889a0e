use Rattle.std.proofs.Common.{◌≡◌, None, replicate}
use Rattle.project_words.proofs.settle.all_open.Given as goal

abbrev pub invariant-loop : goal.invariant-loop
invariant-loop l = l.settled.items ≡ replicate l.counter None
