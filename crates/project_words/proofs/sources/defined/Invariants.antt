use Rattle.std.proofs.Common.{◌≡◌, Some, map, take}
use Rattle.project_words.proofs.sources.defined.Given as goal

abbrev pub invariant-loop-word : goal.invariant-loop-word
invariant-loop-word l = l.list ≡ map Some (take l.word-index l.words)
