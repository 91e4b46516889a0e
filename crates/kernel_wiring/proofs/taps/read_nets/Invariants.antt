use Rattle.std.proofs.Common.{◌≡◌, ◌++◌, map, drop}
use Rattle.kernel_wiring.specs.Words.{read_net}
use Rattle.kernel_wiring.proofs.taps.read_nets.Given as goal

-- the nets so far and those of the reads that are left are all
abbrev pub invariant-loop-read : goal.invariant-loop-read
invariant-loop-read l = record {
  told : l.nets.items ++ map (read_net l.layout l.late l.words) (drop l.read-index l.reads) ≡ map (read_net l.layout l.late l.words) l.reads;
}
