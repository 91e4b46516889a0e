-- The names of ports: an input, an output and a scalar may have one name, two ports of one kind may not.
use Rattle.std.specs.Prelude.{◌≡◌, ◌⊎◌, ℕ, Bool, true, false, List, [], ◌∷◌, bytes_eq}
use Rattle.std.specs.List.{list_any}
use Rattle.kernel_calls.specs.declared.call.Call.{Call}
use Rattle.kernel_calls.specs.declared.call.Call.TheVariants as C
use Rattle.stream_graph.specs.declared.error.GraphError.{GraphError}
use Rattle.stream_graph.specs.declared.error.GraphError.TheVariants as E
use Rattle.stream_graph.specs.Nodes.{name_by}

-- the names of the inputs, the outputs and the scalars
abbrev pub inputs_of : List Call → List (List ℕ)
inputs_of [] = []
inputs_of (C.Input name t control ∷ older) = name ∷ inputs_of older
inputs_of (_ ∷ older) = inputs_of older

abbrev pub outputs_of : List Call → List (List ℕ)
outputs_of [] = []
outputs_of (C.Output name value control t ∷ older) = name ∷ outputs_of older
outputs_of (_ ∷ older) = outputs_of older

abbrev pub scalars_of : List Call → List (List ℕ)
scalars_of [] = []
scalars_of (C.Scalar name t ∷ older) = name ∷ scalars_of older
scalars_of (_ ∷ older) = scalars_of older

abbrev pub is_among : List ℕ → List (List ℕ) → Bool
is_among name names = list_any (bytes_eq name) names

-- the call makes a port whose name a port of its kind has already
abbrev pub is_again : List Call → Call → Bool
is_again so_far (C.Input name t control) = is_among name (inputs_of so_far)
is_again so_far (C.Output name value control t) = is_among name (outputs_of so_far)
is_again so_far (C.Scalar name t) = is_among name (scalars_of so_far)
is_again so_far _ = false

-- none of the calls, which come after those so far, makes such a port
abbrev pub AllDiffer : List Call → List Call → Type 0
AllDiffer so_far [] = Unit {0}
AllDiffer so_far (call ∷ calls) = (is_again so_far call ≡ false) × AllDiffer (call ∷ so_far) calls

-- the first call that makes such a port gives it this name
abbrev pub FirstAgain : List Call → List Call → List ℕ → Type 0
FirstAgain so_far [] name = ⊥
FirstAgain so_far (call ∷ calls) name =
    ((is_again so_far call ≡ true) × (name ≡ name_by call)) ⊎
    ((is_again so_far call ≡ false) × FirstAgain (call ∷ so_far) calls name)

-- the error says the name of the first such port, or that memory was short
abbrev pub SaysAgain : List Call → GraphError → Type 0
SaysAgain calls error = (error ≡ E.NoMemory) ⊎ ((name : List ℕ) × (error ≡ E.SamePort name) × FirstAgain [] calls
    name)
