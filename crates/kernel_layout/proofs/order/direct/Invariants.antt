use Rattle.std.proofs.Common.{◌≡◌, ◌++◌, drop}
use Rattle.kernel_layout.specs.Reads.{direct_of}
use Rattle.kernel_layout.proofs.order.direct.Given as goal

-- the nodes so far and those of the reads that are left are all
abbrev pub invariant-loop-read : goal.invariant-loop-read
invariant-loop-read l = record {
  told : l.nodes ++ direct_of (drop l.read-index l.reads) ≡ direct_of l.reads;
}
