-- Where the nets of the kernels stand in the top module of a project: each kernel has a block of
-- nets for itself, and these stand behind the nets of the ports, in the order of the kernels.
use Rattle.std.specs.Prelude.{
  ℕ,
  ◌+◌,
  ◌*◌,
  List,
  ◌++◌,
  length,
  take,
  nat_eq,
  sum_by,
  unwrap_or,
}
use Rattle.std.specs.List.{position}
use Rattle.rtl_ir.specs.Ports.{first_scalar}
use Rattle.stream_graph.specs.declared.kernel.Kernel.{Kernel}
use Rattle.stream_graph.specs.declared.node.Node.{Node}
use Rattle.kernel_control.specs.Ports.{inputs_of, outputs_of, scalars_of}
use Rattle.manager_links.specs.declared.links.PortAt.{PortAt}
use Rattle.manager_links.specs.declared.project.Project.{Project}
use Rattle.project_streams.specs.Streams.{nodes_at}
use Rattle.project_rtl.specs.Shapes.{shape_of, port_count}

-- the nodes of a kernel that are streams: the inputs and then the outputs, each in node order
abbrev pub streams_of : List Node → List ℕ
streams_of nodes = inputs_of nodes ++ outputs_of nodes

-- how many inputs and outputs a kernel has
abbrev pub stream_count : Kernel → ℕ
stream_count kernel = length (streams_of kernel.nodes)

-- how many scalars it has
abbrev pub scalar_count : Kernel → ℕ
scalar_count kernel = length (scalars_of kernel.nodes)

-- how many nets it has for itself: data, valid and ready of each stream, and whether it has ended
abbrev pub block_size : Kernel → ℕ
block_size kernel = 3 * stream_count kernel + 1

-- the first net of the block of the kernel of this number, and behind the last kernel the first net
-- that is in no block
abbrev pub first_net : Project → ℕ → ℕ
first_net project k = port_count project + sum_by block_size (take k project.kernels)

-- the place of a number among these, from 0
abbrev pub place_of : ℕ → List ℕ → ℕ
place_of n ns = unwrap_or (position (nat_eq n) ns) 0

-- the net of the data of a stream, by its port. Its valid and its ready are the next ones
abbrev pub stream_net : Project → PortAt → ℕ
stream_net project port =
    first_net project port.kernel
    + 3 * place_of port.node (streams_of (nodes_at project.kernels port.kernel))

-- the net that says whether the kernel of this number has ended, the last one of its block
abbrev pub ended_net : Project → ℕ → ℕ
ended_net project k =
    first_net project k + 3 * length (streams_of (nodes_at project.kernels k))

-- the number of the port of the first scalar of the kernel of this number
abbrev pub first_scalar_port : Project → ℕ → ℕ
first_scalar_port project k =
    first_scalar (shape_of project) + sum_by scalar_count (take k project.kernels)
