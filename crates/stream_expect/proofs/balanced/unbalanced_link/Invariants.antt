use Rattle.std.proofs.Common.{take}
use Rattle.std.specs.Prelude.{All}
use Rattle.project_streams.specs.Balanced.{IsEvenLink}
use Rattle.project_streams.specs.Streams.{GivenProject}
use Rattle.project_words.specs.Words.{values_of, HaveTicks}
use Rattle.stream_expect.proofs.balanced.unbalanced_link.Given as goal

-- no earlier link is dry or full
abbrev pub invariant-loop-number : goal.invariant-loop-number
invariant-loop-number l =
    (given : GivenProject)
    → HaveTicks given l.words
    → All (IsEvenLink l.project l.times l.links given (values_of l.words)) (take l.number l.links.links)
