-- What the tests of names say.
use Rattle.std.specs.Prelude.{◌≡◌, ℕ, List, map}
use Rattle.std.specs.Borrow.{Bor}
use Rattle.kernel_meaning.specs.declared.plan.Plan.{Plan}
use Rattle.stream_graph.specs.declared.kernel.Kernel.{Kernel}
use Rattle.manager_links.specs.declared.error.LinkError.{LinkError}
use Rattle.manager_links.specs.declared.error.LinkError.TheVariants as L
use Rattle.manager_links.specs.Lists.{IsFirstAgain}
use Rattle.manager_links.specs.Rules.{IsNameAgain}

abbrev pub texts_of : List (Bor (List ℕ)) → List (List ℕ)
texts_of names = map (λ (name : Bor (List ℕ)). name.now) names

-- memory was short, or the first of these names that is met again
abbrev pub SaysAgain : List (List ℕ) → LinkError → Type 0
SaysAgain names (L.SameName name) = IsFirstAgain names name
SaysAgain names error = error ≡ L.NoMemory

abbrev pub SaysNameAgain : Plan → List Kernel → LinkError → Type 0
SaysNameAgain plan kernels (L.SameName name) = IsNameAgain plan kernels name
SaysNameAgain plan kernels error = error ≡ L.NoMemory
