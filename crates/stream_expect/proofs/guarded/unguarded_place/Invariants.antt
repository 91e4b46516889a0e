use Rattle.std.proofs.Common.{◌<◌}
use Rattle.project_streams.specs.Guarded.{Place, IsUnguarded}
use Rattle.project_streams.specs.Streams.{GivenProject}
use Rattle.project_words.specs.Words.{values_of, HaveTicks}
use Rattle.stream_expect.proofs.guarded.unguarded_place.Given as goal

-- no place of an earlier kernel is unguarded
abbrev pub invariant-loop-number : goal.invariant-loop-number
invariant-loop-number l =
    (given : GivenProject) (place : Place)
    → HaveTicks given l.words
    → place.kernel < l.number
    → IsUnguarded l.project given (values_of l.words) place
    → ⊥
