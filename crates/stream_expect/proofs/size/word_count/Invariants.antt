use Rattle.std.proofs.Common.{◌≡◌, ◌+◌, ◌*◌, ◌≤◌, ◌^◌, drop}
use Rattle.project_words.specs.Given.{word_count}
use Rattle.stream_expect.proofs.size.word_count.Given as goal

-- the words of the kernels so far and of those from this one on are those of all
abbrev pub invariant-loop-number : goal.invariant-loop-number
invariant-loop-number l = record {
  sum : l.words + word_count (drop l.number l.kernels) (drop l.number l.ticks) ≡ word_count l.kernels l.ticks;
  few : l.words ≤ l.number * 2 ^ 76;
}
