use Rattle.std.proofs.Common.{◌≡◌, take}
use Rattle.std.specs.List.{flat_map}
use Rattle.maxjc_core.specs.Checking.{least_line}
use Rattle.maxjc_core.proofs.summary.least_lines.Given as goal

-- the lines of the kernels so far
abbrev pub invariant-loop-part : goal.invariant-loop-part
invariant-loop-part l = l.lines.items ≡ flat_map least_line (take l.part-index l.parts)
