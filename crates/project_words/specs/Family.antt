-- A project whose kernels are causal computes one family of words.
use Rattle.std.specs.Prelude.{◌≡◌, ℕ, ◌<◌, ℤ, length}
use Rattle.manager_links.specs.declared.project.Project.{Project}
use Rattle.project_streams.specs.Streams.{GivenProject, ProjectValues, ProjectEquations, nodes_at}
use Rattle.project_words.specs.Given.{AreCausal}

-- two families that satisfy the equations of all kernels in one run have the same words, in the
-- ticks of the run and outside of them
abbrev pub HasOneFamily : Project → Type 0
HasOneFamily project =
    (given : GivenProject) (one other : ProjectValues)
    → AreCausal project.kernels
    → ProjectEquations project given one
    → ProjectEquations project given other
    → (k n : ℕ) (t : ℤ)
    → k < length project.kernels
    → n < length (nodes_at project.kernels k)
    → one k n t ≡ other k n t
