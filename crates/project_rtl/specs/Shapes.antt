-- The ports of the design of a project.
use Rattle.std.specs.Prelude.{ℕ, ◌+◌, List, map, length}
use Rattle.std.specs.List.{flat_map}
use Rattle.fix_arith.specs.Types.{width_of}
use Rattle.rtl_ir.specs.Ports.{Shape, done_port}
use Rattle.stream_graph.specs.declared.kernel.Kernel.{Kernel}
use Rattle.stream_graph.specs.LookUps.{node_at, width_at}
use Rattle.kernel_control.specs.Ports.{scalars_of}
use Rattle.manager_links.specs.declared.hosts.HostPort.{HostPort}
use Rattle.manager_links.specs.declared.project.Project.{Project}
use Rattle.manager_links.specs.Rules.{kernel_names}

-- the kernel of a scalar, its name and its width
abbrev pub scalar_shape : Kernel → ℕ → List ℕ × List ℕ × ℕ
scalar_shape kernel n = (kernel.name, (node_at kernel.nodes n).name, width_at kernel.nodes n)

-- the scalars of a kernel, in node order
abbrev pub scalar_shapes : Kernel → List (List ℕ × List ℕ × ℕ)
scalar_shapes kernel = map (scalar_shape kernel) (scalars_of kernel.nodes)

-- the name of a stream of the host, and the width of its words
abbrev pub host_shape : HostPort → List ℕ × ℕ
host_shape host = (host.name, width_of host.t)

-- the kernels of a project with their scalars, and the streams from and to the host
abbrev pub shape_of : Project → Shape
shape_of project = record {
  kernels = kernel_names project.kernels;
  scalars = flat_map scalar_shapes project.kernels;
  inputs = map host_shape project.joints.inputs;
  outputs = map host_shape project.joints.outputs;
}

-- how many ports the design has, of which `done` is the last one
abbrev pub port_count : Project → ℕ
port_count project = done_port (shape_of project) + 1
