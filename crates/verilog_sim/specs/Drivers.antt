-- Which assignment gives a net its value, and what it reads; and assignments by rising rank of their targets.
use Rattle.std.specs.Prelude.{◌≡◌, ℕ, ◌<◌, List, [], length, Option, Some, None, slice_get, slice_index, slice_index_or}
use Rattle.digraph.specs.Graph.{reads_of}
use Rattle.rtl_ir.specs.declared.design.Module.{Module}
use Rattle.rtl_ir.specs.declared.design.Assign.{Assign}
use Rattle.rtl_ir.specs.Operands.{reads}

-- an assignment, by its number, to a net, with what the graph says that the net reads
pub record IsDriver (m : Module) (graph : List (List ℕ)) (n k : ℕ) : Type 0 where
  pub assign : Assign
  pub at : slice_get m.assigns k ≡ Some assign
  pub target : assign.target ≡ n
  pub reads : reads_of graph n ≡ reads assign.expr

-- of the first so many assignments of a module
pub record AreDrivers (m : Module) (graph : List (List ℕ)) (drivers : List (Option ℕ)) (count : ℕ) : Type 0 where
  pub nodes : length graph ≡ length m.nets
  pub nets : length drivers ≡ length m.nets
  pub sound : (n k : ℕ) → slice_index_or drivers n None ≡ Some k → IsDriver m graph n k
  pub below : (n k : ℕ) → slice_index_or drivers n None ≡ Some k → k < count
  pub whole : (k : ℕ) (a : Assign) → k < count → slice_get m.assigns k ≡ Some a → slice_index_or drivers a.target None ≡ Some k
  pub none : (n : ℕ) → slice_index_or drivers n None ≡ None → reads_of graph n ≡ []

-- the assignments to these nets, in the order of the nets
pub record AreGathered (assigns : List Assign) (drivers : List (Option ℕ)) (nodes : List ℕ) (order : List Assign) (count : ℕ) : Type 0 where
  pub place : ℕ → ℕ
  pub rising : (p q : ℕ) → p < q → q < length order → place p < place q
  pub within : (p : ℕ) → p < length order → place p < count
  pub from :
      (p : ℕ) (a : Assign)
      → slice_get order p ≡ Some a
      → (k : ℕ) × (slice_index_or drivers (slice_index nodes (place p)) None ≡ Some k) × (slice_get assigns k ≡ Some a)
  pub all :
      (i k : ℕ)
      → i < count
      → slice_index_or drivers (slice_index nodes i) None ≡ Some k
      → (p : ℕ) × (p < length order) × (place p ≡ i)

abbrev pub IsGathered : List Assign → List (Option ℕ) → List ℕ → List Assign → Type 0
IsGathered assigns drivers nodes order = AreGathered assigns drivers nodes order (length nodes)
