use Rattle.std.proofs.Common.{◌≡◌, drop}
use Rattle.word_files.specs.RunFiles.{all_below}
use Rattle.word_files.proofs.fit.is_in_range.Given as goal

-- the scalars left decide
abbrev pub invariant-loop-scalar : goal.invariant-loop-scalar
invariant-loop-scalar l = all_below l.fn.scalars l.name l.width ≡ all_below (drop l.scalar-index l.scalar-items) l.name l.width
