-- The ports of a module, read one kind after another.
use Rattle.std.specs.Prelude.{◌≡◌, ℕ, ◌+◌, List, [], ◌∷◌, Option, Some, None, option_and_then, slice_get, if◌then◌else◌}
use Rattle.rtl_ir.specs.declared.design.Module.{Module}
use Rattle.rtl_ir.specs.declared.interface.KernelPorts.{KernelPorts}
use Rattle.rtl_ir.specs.declared.interface.ScalarPort.{ScalarPort}
use Rattle.rtl_ir.specs.declared.interface.StreamPorts.{StreamPorts}
use Rattle.rtl_ir.specs.Value.{width_of}
use Rattle.rtl_ir.specs.Ports.{ports_of, net_at}
use Rattle.top_ports.specs.Roles.{RoleView, hold, scalar, stream, port_role}
use Rattle.top_ports.specs.Stages.{same_side}
use Rattle.top_ports.specs.declared.role.Side.{Side}
use Rattle.top_ports.specs.declared.role.Part.TheVariants.{Data}

-- the role of the port at a place
abbrev pub role_at : Module → ℕ → Option RoleView
role_at m k = option_and_then port_role (slice_get (ports_of m) k)

-- the kernel, the scalar or the stream of which a port of this role at a place is the first
abbrev pub kernel_with : Module → ℕ → Option RoleView → Option KernelPorts
kernel_with m k (Some (hold name)) = Some (record { name = name; hold = net_at m k; ticks = net_at m (k + 1) })
kernel_with m k r = None

abbrev pub scalar_with : Module → ℕ → Option RoleView → Option ScalarPort
scalar_with m k (Some (scalar kernel name)) =
    Some (record { kernel = kernel; name = name; width = width_of m (net_at m k); net = net_at m k })
scalar_with m k r = None

abbrev pub stream_with : Module → Side → ℕ → Option RoleView → Option StreamPorts
stream_with m side k (Some (stream other Data name)) =
    if same_side side other
    then Some (record {
      name = name;
      width = width_of m (net_at m k);
      word = net_at m k;
      valid = net_at m (k + 1);
      ready = net_at m (k + 2);
    })
    else None
stream_with m side k r = None

abbrev pub kernel_at : Module → ℕ → Option KernelPorts
kernel_at m k = kernel_with m k (role_at m k)

abbrev pub scalar_at : Module → ℕ → Option ScalarPort
scalar_at m k = scalar_with m k (role_at m k)

abbrev pub stream_at : Module → Side → ℕ → Option StreamPorts
stream_at m side k = stream_with m side k (role_at m k)

-- these stand from a place on, each so many ports behind the one before, and none stands at the last place
abbrev pub AreRead : {B : Type 0} → (ℕ → Option B) → ℕ → ℕ → List B → ℕ → Type 0
AreRead at count k [] last = (at k ≡ None) × (last ≡ k)
AreRead at count k (b ∷ bs) last = (at k ≡ Some b) × AreRead at count (k + count) bs last
