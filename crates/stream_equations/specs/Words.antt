-- The words of a kernel's ports, and which runs are guarded.
use Rattle.std.specs.Prelude.{
  ◌≡◌,
  ℕ,
  zero,
  suc,
  ◌<◌,
  Bool,
  if◌then◌else◌,
  pos,
  List,
  [],
  ◌∷◌,
  ◌++◌,
  length,
  Option,
  Some,
  None,
}
use Rattle.stream_graph.specs.declared.node.Node.{Node}
use Rattle.stream_equations.specs.Equations.{GivenRun, Values, enabled}
use Rattle.stream_graph.specs.LookUps.{control_of}

-- the words at the ticks before this one that pass a test, in order
abbrev pub words_before : (ℕ → Bool) → (ℕ → Option ℕ) → ℕ → List (Option ℕ)
words_before test word zero = []
words_before test word (suc t) =
    if test t then words_before test word t ++ word t ∷ [] else words_before test word t

-- the words of an output are those of its enabled ticks; an undefined one is there, but may be any
abbrev pub port_words : List Node → GivenRun → Values → ℕ → List (Option ℕ)
port_words nodes run val n = words_before (enabled nodes val n) (λ t. val n (pos t)) run.ticks

-- a run is guarded where no control and no store is undefined in any tick
abbrev pub IsGuarded : List Node → GivenRun → Values → Type 0
IsGuarded nodes run val =
    (n control t : ℕ)
    → n < length nodes
    → control_of nodes n ≡ Some control
    → t < run.ticks
    → val control (pos t) ≡ None
    → ⊥
