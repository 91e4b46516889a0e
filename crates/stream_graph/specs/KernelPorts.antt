-- The ports of a kernel, by the numbers of their nodes.
use Rattle.std.specs.Prelude.{ℕ, ◌+◌, Bool, if◌then◌else◌, List, [], ◌∷◌}
use Rattle.stream_graph.specs.declared.node.Kind.{Kind}
use Rattle.stream_graph.specs.declared.node.Node.{Node}
use Rattle.stream_graph.specs.Kinds.{is_input, is_output, is_scalar}

-- the numbers, from this one on, of the nodes of a kind
abbrev pub numbers_from : (Kind → Bool) → ℕ → List Node → List ℕ
numbers_from is_kind n [] = []
numbers_from is_kind n (node ∷ nodes) =
    if is_kind node.view.kind then n ∷ numbers_from is_kind (n + 1) nodes
    else numbers_from is_kind (n + 1) nodes

abbrev pub inputs_of : List Node → List ℕ
inputs_of nodes = numbers_from is_input 0 nodes

abbrev pub outputs_of : List Node → List ℕ
outputs_of nodes = numbers_from is_output 0 nodes

abbrev pub scalars_of : List Node → List ℕ
scalars_of nodes = numbers_from is_scalar 0 nodes
