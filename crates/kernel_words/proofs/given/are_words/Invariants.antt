use Rattle.std.proofs.Common.{◌≡◌, ℕ, ◌<◌, ◌^◌, Some}
use Rattle.stream_equations.specs.Equations.{chosen}
use Rattle.kernel_words.proofs.given.are_words.Given as goal

-- the words so far have so many bits
abbrev pub invariant-loop-word : goal.invariant-loop-word
invariant-loop-word l = (k x : ℕ) → k < l.word-index → chosen l.words k ≡ Some x → x < 2 ^ l.width
