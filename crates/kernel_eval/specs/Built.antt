-- The kernel that a building run makes.
use Rattle.std.specs.Prelude.{◌≡◌, ℕ, List, [], Result, Ok, Err}
use Rattle.kernel_meaning.specs.declared.error.EvalError.TheVariants as E
use Rattle.kernel_meaning.specs.Answer.{Answer, calls_of, end_of}
use Rattle.stream_graph.specs.declared.error.GraphError.TheVariants as G
use Rattle.stream_graph.specs.declared.kernel.Kernel.{Kernel}
use Rattle.stream_graph.specs.Kernels.{IsSound, Refuses}
use Rattle.stream_graph.specs.Nodes.{later, AreNodes}
use Rattle.kernel_eval.specs.declared.building.BuildError.{BuildError}
use Rattle.kernel_eval.specs.declared.building.BuildError.TheVariants.{Eval, Graph}

-- the run ends, its calls keep all rules of a kernel, and these are its nodes and its name
pub record IsKernelOfRun (run : Answer) (name : List ℕ) (kernel : Kernel) : Type 0 where
  pub ends : end_of run ≡ Ok tt
  pub sound : IsSound (calls_of run)
  pub nodes : AreNodes (later [] (calls_of run)) kernel.nodes
  pub named : kernel.name ≡ name

-- The kernel of this name, or the refusal of the run, or that of the graph where the run ends. Want of memory says nothing.
abbrev pub IsBuilt : Answer → List ℕ → Result Kernel BuildError → Type 0
IsBuilt run name (Ok kernel) = IsKernelOfRun run name kernel
IsBuilt run name (Err (Eval E.NoMemory)) = Unit {0}
IsBuilt run name (Err (Eval error)) = end_of run ≡ Err error
IsBuilt run name (Err (Graph G.NoMemory)) = Unit {0}
IsBuilt run name (Err (Graph error)) = (end_of run ≡ Ok tt) × Refuses (calls_of run) error
