use Rattle.std.proofs.Common.{◌≡◌, map, take}
use Rattle.word_files.specs.RunFiles.{scalar_entry}
use Rattle.word_files.proofs.scalars.scalar_names.Given as goal

-- the scalars so far
abbrev pub invariant-loop-scalar : goal.invariant-loop-scalar
invariant-loop-scalar l = l.scalars ≡ map scalar_entry (take l.scalar-index l.scalar-items)
