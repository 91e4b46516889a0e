-- The ports of a top module: their names, widths and directions in order, and the nets by which a run sees them.
use Rattle.std.specs.Prelude.{◌≡◌, ℕ, ◌+◌, ◌*◌, ◌<◌, List, [], ◌∷◌, ◌++◌, length, map, Option, Some}
use Rattle.std.specs.Prelude.{None, slice_get, Bool, true, false, ◌&&◌, ◌||◌, nat_eq, IsTrue, codes}
use Rattle.std.specs.Prelude.{bytes_eq}
use Rattle.std.specs.List.{list_all, list_any}
use Rattle.rtl_ir.specs.declared.design.Port.{Port}
use Rattle.rtl_ir.specs.declared.design.Module.{Module}
use Rattle.rtl_ir.specs.Value.{width_of}
use Rattle.rtl_ir.specs.Names.{is_letter, is_digit}
use Rattle.rtl_ir.specs.Formed.{name_of}
use Rattle.rtl_ir.specs.Run.{Channel, Outer}

-- the names of the kernels; of each scalar its kernel, its name and its width; of each host input and output its name
-- and its width
pub record Shape : Type 0 where
  pub kernels : List (List ℕ)
  pub scalars : List (List ℕ × List ℕ × ℕ)
  pub inputs : List (List ℕ × ℕ)
  pub outputs : List (List ℕ × ℕ)

-- a port as it is declared
pub record PortView : Type 0 where
  pub name : List ℕ
  pub width : ℕ
  pub output : Bool

abbrev pub input_port : List ℕ → ℕ → PortView
input_port name width = record { name = name; width = width; output = false }

abbrev pub output_port : List ℕ → ℕ → PortView
output_port name width = record { name = name; width = width; output = true }

-- of each kernel: whether it is held, and how many ticks it runs
abbrev pub kernel_ports : List (List ℕ) → List PortView
kernel_ports [] = []
kernel_ports (k ∷ ks) =
    input_port (codes "hold$" ++ k) 1
    ∷ input_port (codes "ticks$" ++ k) 48
    ∷ kernel_ports ks

abbrev pub scalar_ports : List (List ℕ × List ℕ × ℕ) → List PortView
scalar_ports [] = []
scalar_ports (s ∷ ss) =
    input_port (codes "scalar$" ++ s.0 ++ codes "$" ++ s.1) s.2
    ∷ scalar_ports ss

abbrev pub host_input_ports : List (List ℕ × ℕ) → List PortView
host_input_ports [] = []
host_input_ports (x ∷ xs) =
    input_port (codes "in$" ++ x.0 ++ codes "$data") x.1
    ∷ input_port (codes "in$" ++ x.0 ++ codes "$valid") 1
    ∷ output_port (codes "in$" ++ x.0 ++ codes "$ready") 1
    ∷ host_input_ports xs

abbrev pub host_output_ports : List (List ℕ × ℕ) → List PortView
host_output_ports [] = []
host_output_ports (y ∷ ys) =
    output_port (codes "out$" ++ y.0 ++ codes "$data") y.1
    ∷ output_port (codes "out$" ++ y.0 ++ codes "$valid") 1
    ∷ input_port (codes "out$" ++ y.0 ++ codes "$ready") 1
    ∷ host_output_ports ys

-- the ports of this shape, in order
abbrev pub shape_ports : Shape → List PortView
shape_ports s =
    input_port (codes "clk") 1
    ∷ input_port (codes "reset") 1
    ∷ (kernel_ports s.kernels
    ++ scalar_ports s.scalars
    ++ host_input_ports s.inputs
    ++ host_output_ports s.outputs
    ++ output_port (codes "done") 1 ∷ [])

-- the ports of a module, in order
abbrev pub port_view : Module → Port → PortView
port_view m p = record { name = name_of m p.net; width = width_of m p.net; output = p.output }

abbrev pub ports_of : Module → List PortView
ports_of m = map (port_view m) m.ports

abbrev pub HasShape : Module → Shape → Type 0
HasShape m s = ports_of m ≡ shape_ports s

-- whether a text is a letter followed by letters, digits and '_'
abbrev pub is_plain_byte : ℕ → Bool
is_plain_byte b = is_letter b || is_digit b || nat_eq b 95

abbrev pub is_plain_name : List ℕ → Bool
is_plain_name [] = false
is_plain_name (b ∷ bs) = is_letter b && list_all is_plain_byte bs

-- a shape that a top module may have: there is a kernel, names are plain, and each scalar is one of a kernel
pub record IsShape (s : Shape) : Type 0 where
  pub some : 0 < length s.kernels
  pub kernels : IsTrue (list_all is_plain_name s.kernels)
  pub scalars : IsTrue (list_all (λ (a : List ℕ × List ℕ × ℕ). list_any (bytes_eq a.0) s.kernels && is_plain_name a.1) s.scalars)
  pub inputs : IsTrue (list_all (λ (x : List ℕ × ℕ). is_plain_name x.0) s.inputs)
  pub outputs : IsTrue (list_all (λ (y : List ℕ × ℕ). is_plain_name y.0) s.outputs)

-- the net of a port, by the port's number
abbrev pub port_net : Option Port → ℕ
port_net None = 0
port_net (Some p) = p.net

abbrev pub net_at : Module → ℕ → ℕ
net_at m k = port_net (slice_get m.ports k)

-- the nets of ports from number k on, as many as the list is long
abbrev pub nets_from : {A : Type 0} → Module → ℕ → List A → List ℕ
nets_from m k [] = []
nets_from m k (x ∷ xs) = net_at m k ∷ nets_from m (k + 1) xs

-- the same of every second port
abbrev pub second_nets_from : {A : Type 0} → Module → ℕ → List A → List ℕ
second_nets_from m k [] = []
second_nets_from m k (x ∷ xs) = net_at m k ∷ second_nets_from m (k + 2) xs

-- the same of three ports at a time, as the channels that they are
abbrev pub channels_from : {A : Type 0} → Module → ℕ → List A → List Channel
channels_from m k [] = []
channels_from m k (x ∷ xs) =
    record { word = net_at m k; valid = net_at m (k + 1); ready = net_at m (k + 2) }
    ∷ channels_from m (k + 3) xs

-- the number of the first port of each kind
abbrev pub first_scalar : Shape → ℕ
first_scalar s = 2 + 2 * length s.kernels

abbrev pub first_input : Shape → ℕ
first_input s = first_scalar s + length s.scalars

abbrev pub first_output : Shape → ℕ
first_output s = first_input s + 3 * length s.inputs

abbrev pub done_port : Shape → ℕ
done_port s = first_output s + 3 * length s.outputs

-- the nets by which a run sees a module of this shape
abbrev pub outer_of : Shape → Module → Outer
outer_of s m = record {
  clock = net_at m 0;
  reset = net_at m 1;
  holds = second_nets_from m 2 s.kernels;
  steady = second_nets_from m 3 s.kernels ++ nets_from m (first_scalar s) s.scalars;
  inputs = channels_from m (first_input s) s.inputs;
  outputs = channels_from m (first_output s) s.outputs;
  done = net_at m (done_port s);
}
