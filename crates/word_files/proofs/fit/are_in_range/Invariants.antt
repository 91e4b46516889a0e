use Rattle.std.proofs.Common.{◌≡◌, drop}
use Rattle.word_files.specs.RunFiles.{in_range}
use Rattle.word_files.proofs.fit.are_in_range.Given as goal

-- the ports left decide
abbrev pub invariant-loop-name : goal.invariant-loop-name
invariant-loop-name l = in_range l.scalars l.fn.ports ≡ in_range l.scalars (drop l.name-index l.name-items)
