use Rattle.std.proofs.Common.{◌≡◌, ◌++◌, drop}
use Rattle.kernel_rtl.specs.Planned.{widths_of}
use Rattle.kernel_rtl.proofs.storage.widths.Given as goal

-- what was made, and the widths of the nodes that are left
abbrev pub invariant-loop-number : goal.invariant-loop-number
invariant-loop-number l = l.widths.items ++ widths_of (drop l.number l.kernel.nodes) ≡ widths_of l.kernel.nodes
