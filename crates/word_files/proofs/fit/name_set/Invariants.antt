use Rattle.std.proofs.Common.{map, take}
use Rattle.word_files.specs.Keys.{HasKeys}
use Rattle.word_files.proofs.fit.name_set.Given as goal

-- the set has the names so far
abbrev pub invariant-loop-item : goal.invariant-loop-item
invariant-loop-item g l = HasKeys l.set (map g.A.Named.name_of (take l.item-index l.item-items))
