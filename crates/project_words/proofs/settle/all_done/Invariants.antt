use Rattle.std.proofs.Common.{◌≡◌, Some, map}
use Rattle.project_words.proofs.settle.all_done.Given as goal

abbrev pub invariant-loop-words : goal.invariant-loop-words
invariant-loop-words l = map Some l.done ≡ l.yielded
