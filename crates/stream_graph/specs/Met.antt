-- What the sets of names hold.
use Rattle.std.specs.Prelude.{◌≡◌, ℕ, Bool, not, List, ◌∷◌, nat_eq}
use Rattle.std.specs.Borrow.{Bor}
use Rattle.std.specs.Cmp.Lexicographic.{pointwise}
use Rattle.std.specs.HashSet.{contains}
use Rattle.kernel_calls.specs.declared.call.Call.{Call}
use Rattle.stream_graph.specs.declared.names.Names.{Names}
use Rattle.stream_graph.specs.declared.names.PortNames.{PortNames}
use Rattle.stream_graph.specs.Ports.{inputs_of, outputs_of, scalars_of, is_among, is_again}

-- just these names were met
abbrev pub HaveMet : Names → List (List ℕ) → Type 0
HaveMet met names = (q : Bor (List ℕ)) →
    contains (λ x y. pointwise nat_eq x.now y.now) met.met q ≡ is_among q.now names

-- just the names of the ports of these calls were met
pub record AllMet (met : PortNames) (so_far : List Call) : Type 0 where
  pub inputs : HaveMet met.inputs (inputs_of so_far)
  pub outputs : HaveMet met.outputs (outputs_of so_far)
  pub scalars : HaveMet met.scalars (scalars_of so_far)

-- one more call was met, and whether its port's name is new
abbrev pub Meets : PortNames → Call → PortNames → Bool → Type 0
Meets old call new fresh = (so_far : List Call) → AllMet old so_far →
    AllMet new (call ∷ so_far) × (fresh ≡ not (is_again so_far call))
