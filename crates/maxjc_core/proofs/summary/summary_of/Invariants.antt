use Rattle.std.proofs.Common.{◌≡◌, ◌++◌, take}
use Rattle.std.specs.List.{flat_map}
use Rattle.maxjc_core.specs.Compiling.{fifo_line, link_lines}
use Rattle.maxjc_core.proofs.summary.summary_of.Given as goal

-- the lines of the kernels so far
abbrev pub invariant-loop-part : goal.invariant-loop-part
invariant-loop-part l = l.lines.items ≡ flat_map fifo_line (take l.part-index l.parts)

-- those of all kernels, and of the links so far
abbrev pub invariant-loop-number : goal.invariant-loop-number
invariant-loop-number l =
    l.lines.items ≡ flat_map fifo_line l.parts ++ link_lines 0 (take l.number l.links)
