use Rattle.std.proofs.Common.{ℕ, ◌<◌}
use Rattle.kernel_words.specs.Streams.{IsGivenAt}
use Rattle.kernel_words.proofs.given.is_given.Given as goal

-- what is given to the nodes so far has their widths
abbrev pub invariant-loop-number : goal.invariant-loop-number
invariant-loop-number l = (n : ℕ) → n < l.number → IsGivenAt l.kernel.nodes l.run n
