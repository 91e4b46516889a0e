use Rattle.std.proofs.Common.{take}
use Rattle.std.specs.Prelude.{All}
use Rattle.std.specs.List.{AllZip, filter_map}
use Rattle.manager_links.specs.Hosts.{IsHostInput, IsHostOutput, HasType}
use Rattle.manager_links.specs.Terminals.{terminals}
use Rattle.manager_links.proofs.CpuStreams.{from_name, to_name}
use Rattle.manager_links.proofs.hosts.managed_hosts.Given as goal

abbrev pub invariant-loop-number : goal.invariant-loop-number
invariant-loop-number l = record {
  inputs : AllZip (IsHostInput l.kernels l.plan.joins)
      (filter_map from_name (take l.number (terminals l.plan l.kernels))) l.inputs;
  outputs : AllZip (IsHostOutput l.kernels l.plan.joins)
      (filter_map to_name (take l.number (terminals l.plan l.kernels))) l.outputs;
  from_types : All (HasType l.kernels) l.inputs;
  to_types : All (HasType l.kernels) l.outputs;
}
