-- A causal kernel computes one family of words.
use Rattle.std.specs.Prelude.{◌≡◌, ℕ, ◌<◌, ℤ, List, length}
use Rattle.stream_graph.specs.declared.node.Node.{Node}
use Rattle.offset_edges.specs.Edges.{edges_of}
use Rattle.offset_edges.specs.Walks.{IsCausal}
use Rattle.stream_equations.specs.Equations.{GivenRun, Values, StreamEquations}

-- two families that satisfy the equations of a causal kernel in one run have the same words
abbrev pub HasOneFamily : List Node → Type 0
HasOneFamily nodes =
    (run : GivenRun) (one other : Values)
    → IsCausal (edges_of nodes)
    → StreamEquations nodes run one
    → StreamEquations nodes run other
    → (n : ℕ) (t : ℤ)
    → n < length nodes
    → one n t ≡ other n t
