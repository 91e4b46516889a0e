use Rattle.std.proofs.Common.{◌≡◌, ◌++◌, drop}
use Rattle.kernel_rtl.specs.Words.{late_signals}
use Rattle.kernel_rtl.proofs.words.late_signals.Given as goal

-- what was made, and the signals of the nodes that are left
abbrev pub invariant-loop-node : goal.invariant-loop-node
invariant-loop-node l = l.late.items ++ late_signals (drop l.node-index l.delays) ≡ late_signals l.delays
