use Rattle.std.proofs.Common.{◌≡◌, ◌++◌, drop}
use Rattle.manager_links.specs.Hosts.{own_hosts}
use Rattle.stream_graph.specs.Kinds.{is_input, is_output}
use Rattle.manager_links.proofs.hosts.own_hosts.Given as goal

abbrev pub invariant-loop-node : goal.invariant-loop-node
invariant-loop-node l = record {
  inputs : l.inputs ++ own_hosts is_input l.node (drop l.node l.kernel.nodes) ≡ own_hosts is_input 0 l.kernel.nodes;
  outputs : l.outputs ++ own_hosts is_output l.node (drop l.node l.kernel.nodes) ≡ own_hosts is_output 0 l.kernel.nodes;
}
