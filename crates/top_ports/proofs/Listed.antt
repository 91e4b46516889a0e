-- What ports tell of the kernels, scalars and host streams.
use Rattle.std.specs.Prelude.{ℕ, List, [], ◌∷◌, Option, Some}
use Rattle.std.specs.List.{flat_map}
use Rattle.rtl_ir.specs.Ports.{PortView}
use Rattle.top_ports.specs.Shapes.{Name}
use Rattle.top_ports.specs.Roles.{RoleView, hold, scalar, stream, port_role}
use Rattle.top_ports.specs.declared.role.Side.TheVariants.{Input, Output}
use Rattle.top_ports.specs.declared.role.Part.TheVariants.{Data}

-- what a port with this role and width tells
abbrev pub kernel_in : Option RoleView → ℕ → List Name
kernel_in (Some (hold k)) width = k ∷ []
kernel_in r width = []

abbrev pub scalar_in : Option RoleView → ℕ → List (Name × Name × ℕ)
scalar_in (Some (scalar k a)) width = (k, a, width) ∷ []
scalar_in r width = []

abbrev pub input_in : Option RoleView → ℕ → List (Name × ℕ)
input_in (Some (stream Input Data x)) width = (x, width) ∷ []
input_in r width = []

abbrev pub output_in : Option RoleView → ℕ → List (Name × ℕ)
output_in (Some (stream Output Data x)) width = (x, width) ∷ []
output_in r width = []

-- what all ports tell, in order
abbrev pub gathered : {B : Type 0} → (Option RoleView → ℕ → List B) → List PortView → List B
gathered f ps = flat_map (λ (p : PortView). f (port_role p) p.width) ps
