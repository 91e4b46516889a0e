use Rattle.kernel_layout.specs.Waits.{AreShared}
use Rattle.kernel_layout.proofs.waits.all_waits.Given as goal

-- the nodes so far have their waits
abbrev pub invariant-loop-node : goal.invariant-loop-node
invariant-loop-node l = record {
  shared : AreShared l.chains l.node l.waits.items;
}
