use Rattle.project_words.specs.Open.{IsNextOf}
use Rattle.project_words.proofs.open.next_open.Given as goal

-- of the kernels so far
abbrev pub invariant-loop-kernel : goal.invariant-loop-kernel
invariant-loop-kernel l = IsNextOf l.ranks l.settled l.kernel l.next
