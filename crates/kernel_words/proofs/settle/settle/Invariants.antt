use Rattle.kernel_words.proofs.Settling.{IsSettling, work}
use Rattle.kernel_words.proofs.settle.settle.Given as goal

abbrev pub invariant-loop-stack : goal.invariant-loop-stack
invariant-loop-stack l = IsSettling l.kernel.nodes l.run l.fn.streams l.streams l.taken l.stack.items l.fn.place

-- what is left to do
abbrev pub decreases-loop-stack : goal.decreases-loop-stack
decreases-loop-stack l = work l.kernel.nodes l.streams l.stack.items
