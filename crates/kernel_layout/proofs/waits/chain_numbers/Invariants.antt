use Rattle.kernel_layout.specs.Waits.{AreChainNumbers}
use Rattle.kernel_layout.proofs.waits.chain_numbers.Given as goal

-- the chains so far have their numbers
abbrev pub invariant-loop-number : goal.invariant-loop-number
invariant-loop-number l = record {
  numbered : AreChainNumbers l.chains l.number l.nodes l.numbers.items;
}
