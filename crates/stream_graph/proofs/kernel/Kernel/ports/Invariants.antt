use Rattle.std.proofs.Common.{◌≡◌, ◌<◌, ◌++◌, length, drop}
use Rattle.std.specs.Prelude.{All}
use Rattle.stream_graph.specs.KernelPorts.{numbers_from}
use Rattle.stream_graph.specs.Kinds.{is_on}
use Rattle.stream_graph.proofs.kernel.Kernel.ports.Given as goal

-- the numbers so far are followed by those of the nodes that are left
abbrev pub invariant-loop-number : goal.invariant-loop-number
invariant-loop-number l = record {
  told : l.ports.items ++ numbers_from (is_on l.side) l.number (drop l.number l.self.nodes) ≡ numbers_from (is_on l.side) 0 l.self.nodes;
  within : All (λ n. n < length l.self.nodes) l.ports.items;
}
