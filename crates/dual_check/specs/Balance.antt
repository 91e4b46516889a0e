-- Numbers at nodes: what is added at one, and the first that is not 0.
use Rattle.std.specs.Prelude.{◌≡◌, ◌≢◌, ℕ, ◌<◌, ◌==◌, if◌then◌else◌, pos}
use Rattle.cycle_find.specs.Constraints.{Numbers}

-- the amount at node a, and 0 elsewhere
abbrev pub at_node : ℕ → ℕ → Numbers
at_node a amount v = if (a == v) then pos amount else pos 0

-- the first number that is not 0, and stands below place n
pub record IsFirstOther (x : Numbers) (n v : ℕ) : Type 0 where
  pub place : v < n
  pub other : x v ≢ pos 0
  pub before : (u : ℕ) → u < v → x u ≡ pos 0
