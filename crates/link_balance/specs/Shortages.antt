-- Where one end of a link is ahead of the other: dry and full, seen alike.
use Rattle.std.specs.Prelude.{ℕ, ◌≤◌, ◌<◌, ◌+◌, Option, Some, None}
use Rattle.stream_equations.specs.Equations.{count_before}
use Rattle.project_streams.specs.Ideal.{Port, IsDue, passed}

-- In this tick of a port a word is due, and at least as many words were due before it as the other
-- end of the link allows: those that were due there in the edges before, and this room.
pub record IsShort (port other : Port) (room t : ℕ) : Type 0 where
  pub due : IsDue port t
  pub short : room + passed other (port.begin + t) ≤ count_before port.due t

-- it is so in no tick, or this is the first one
abbrev pub IsFirstShort : Port → Port → ℕ → Option ℕ → Type 0
IsFirstShort port other room None = (t : ℕ) → IsShort port other room t → ⊥
IsFirstShort port other room (Some t) =
    IsShort port other room t × ((u : ℕ) → u < t → IsShort port other room u → ⊥)
