use Rattle.std.proofs.Common.{◌≡◌, ◌++◌, map, drop}
use Rattle.rtl_delays.specs.Elements.{shown}
use Rattle.kernel_stages.specs.Chains.{end_of}
use Rattle.kernel_stages.proofs.node.NodeDelays.signals.Given as goal

-- the signals so far, and those of the waits that are left
abbrev pub invariant-loop-wait : goal.invariant-loop-wait
invariant-loop-wait l = record {
  told : l.signals ++ map shown (drop l.wait-index l.wait-items) ≡ end_of l.self.pipeline ++ map shown l.wait-items;
}
