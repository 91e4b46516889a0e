-- The top module of the design of a project, net by net.
use Rattle.std.specs.Prelude.{
  ℕ,
  zero,
  suc,
  ◌+◌,
  ◌-◌,
  ◌*◌,
  List,
  [],
  ◌∷◌,
  ◌++◌,
  map,
  length,
  replicate,
  codes,
}
use Rattle.std.specs.Fmt.{decimal}
use Rattle.std.specs.List.{flat_map}
use Rattle.rtl_ir.specs.declared.design.Net.{Net}
use Rattle.rtl_ir.specs.declared.design.Port.{Port}
use Rattle.rtl_ir.specs.declared.design.Instance.{Instance}
use Rattle.rtl_ir.specs.declared.design.Module.{Module}
use Rattle.rtl_ir.specs.declared.design.Assign.{Assign}
use Rattle.rtl_ir.specs.declared.design.Sign.TheVariants.{And}
use Rattle.rtl_ir.specs.declared.design.Expr.TheVariants as exprs
use Rattle.rtl_ir.specs.Ports.{PortView, shape_ports, first_input, first_output, done_port}
use Rattle.stream_graph.specs.declared.kernel.Kernel.{Kernel}
use Rattle.stream_graph.specs.declared.node.Node.{Node}
use Rattle.stream_graph.specs.LookUps.{width_at}
use Rattle.link_fifo.specs.Netlist.{wire, port, gets, wires_from}
use Rattle.manager_links.specs.declared.hosts.HostPort.{HostPort}
use Rattle.manager_links.specs.declared.links.LinkEnds.{LinkEnds}
use Rattle.manager_links.specs.declared.project.Project.{Project}
use Rattle.project_rtl.specs.Shapes.{shape_of, port_count}
use Rattle.project_rtl.specs.Blocks.{
  streams_of,
  scalar_count,
  block_size,
  first_net,
  stream_net,
  ended_net,
  first_scalar_port,
}

-- so many numbers, from one on
abbrev pub range : ℕ → ℕ → List ℕ
range from zero = []
range from (suc count) = from ∷ range (from + 1) count

-- ---- the instances

-- the instance of the module with this number, by its name and its nets
abbrev pub instance : ℕ → List ℕ → List ℕ → Instance
instance of name nets = record { «module» = of; name = name; nets = nets }

-- the nets of a FIFO: clk and reset, and data, valid and ready of the stream that it takes words
-- from and of the one that it gives them to, each from the net of its data on
abbrev pub fifo_nets : ℕ → ℕ → List ℕ
fifo_nets taken given = range 0 2 ++ range taken 3 ++ range given 3

-- the FIFOs of these streams from the host: the first one is of this module, and the first port has
-- this number
abbrev pub input_instances : Project → ℕ → ℕ → List HostPort → List Instance
input_instances project of port [] = []
input_instances project of port (host ∷ hosts) =
    instance of (codes "fifo$in$" ++ host.name) (fifo_nets port (stream_net project host.port))
    ∷ input_instances project (of + 1) (port + 3) hosts

-- those of these streams to the host likewise
abbrev pub output_instances : Project → ℕ → ℕ → List HostPort → List Instance
output_instances project of port [] = []
output_instances project of port (host ∷ hosts) =
    instance of (codes "fifo$out$" ++ host.name) (fifo_nets (stream_net project host.port) port)
    ∷ output_instances project (of + 1) (port + 3) hosts

-- those of these links, which are numbered from this number on
abbrev pub link_instances : Project → ℕ → ℕ → List LinkEnds → List Instance
link_instances project of number [] = []
link_instances project of number (link ∷ links) =
    instance of (codes "fifo$link$" ++ decimal number)
    (fifo_nets (stream_net project link.from) (stream_net project link.to))
    ∷ link_instances project (of + 1) (number + 1) links

-- the nets of a kernel, by its number: clk and reset, whether it is held and how many ticks it runs,
-- its scalars, and its own block
abbrev pub kernel_nets : Project → ℕ → Kernel → List ℕ
kernel_nets project k kernel =
    range 0 2 ++ range (2 + 2 * k) 2 ++ range (first_scalar_port project k) (scalar_count kernel)
    ++ range (first_net project k) (block_size kernel)

-- these kernels, which are numbered from this number on
abbrev pub kernel_instances : Project → ℕ → ℕ → List Kernel → List Instance
kernel_instances project of k [] = []
kernel_instances project of k (kernel ∷ kernels) =
    instance of (codes "kernel$" ++ kernel.name) (kernel_nets project k kernel)
    ∷ kernel_instances project (of + 1) (k + 1) kernels

-- how many FIFOs there are for the streams of the host
abbrev pub host_count : Project → ℕ
host_count project = length project.joints.inputs + length project.joints.outputs

-- how many FIFOs there are
abbrev pub fifo_count : Project → ℕ
fifo_count project = host_count project + length project.joints.links

-- each module but the top has one instance, in the order of the modules
abbrev pub instances_of : Project → List Instance
instances_of project =
    input_instances project 0 (first_input (shape_of project)) project.joints.inputs
    ++ (output_instances project (length project.joints.inputs) (first_output (shape_of project))
    project.joints.outputs
    ++ (link_instances project (host_count project) 0 project.joints.links
    ++ kernel_instances project (fifo_count project) 0 project.kernels))

-- ---- the nets

-- the net of a port
abbrev pub port_net : PortView → Net
port_net p = wire p.name p.width

-- ports whose nets have their numbers, from this one on
abbrev pub ports_from : ℕ → List PortView → List Port
ports_from n [] = []
ports_from n (p ∷ ps) = port n p.output ∷ ports_from (n + 1) ps

-- the widths of the data, valid and ready of these nodes
abbrev pub stream_widths : List Node → List ℕ → List ℕ
stream_widths nodes [] = []
stream_widths nodes (n ∷ ns) = width_at nodes n ∷ 1 ∷ 1 ∷ stream_widths nodes ns

-- the widths of the nets of a kernel's block
abbrev pub block_widths : Kernel → List ℕ
block_widths kernel = stream_widths kernel.nodes (streams_of kernel.nodes) ++ 1 ∷ []

-- how many wires `done` needs: one for each kernel behind the first, whether it and all before it
-- have ended; and for each stream to the host whether its FIFO is empty, and whether all FIFOs so
-- far are and the kernels have ended
abbrev pub done_count : Project → ℕ
done_count project = (length project.kernels - 1) + 2 * length project.joints.outputs

-- the widths of the nets that are no ports: the blocks of the kernels, and the wires of `done`
abbrev pub wire_widths : Project → List ℕ
wire_widths project =
    flat_map block_widths project.kernels ++ replicate (done_count project) 1

-- ---- whether all is done

-- each of these nets is 0 where a FIFO is empty. The net `last` is 1 where the kernels have ended
-- and the FIFOs before are empty. The wires are numbered from `next`.
abbrev pub empty_assigns : ℕ → ℕ → ℕ → List ℕ → List Assign
empty_assigns done next last [] = gets done (exprs.Net last) ∷ []
empty_assigns done next last (valid ∷ valids) =
    gets next (exprs.Not valid)
    ∷ gets (next + 1) (exprs.Binary And last next)
    ∷ empty_assigns done (next + 2) (next + 1) valids

-- Each net of the first list is 1 where a kernel has ended. The net `last` is 1 where those before
-- have. Then come the FIFOs, by the nets of the second list.
abbrev pub ended_assigns : ℕ → ℕ → ℕ → List ℕ → List ℕ → List Assign
ended_assigns done next last [] valids = empty_assigns done next last valids
ended_assigns done next last (ended ∷ rest) valids =
    gets next (exprs.Binary And last ended) ∷ ended_assigns done (next + 1) next rest valids

-- the nets that say whether these streams to the host are valid, where the data of the first one has
-- this net
abbrev pub valid_nets : ℕ → List HostPort → List ℕ
valid_nets port [] = []
valid_nets port (host ∷ hosts) = (port + 1) ∷ valid_nets (port + 3) hosts

-- the nets that say whether the kernels behind the first one have ended
abbrev pub ended_nets : Project → List ℕ
ended_nets project = map (ended_net project) (range 1 (length project.kernels - 1))

-- the port `done` is 1 where all kernels have ended and no stream to the host is valid
abbrev pub done_assigns : Project → List Assign
done_assigns project =
    ended_assigns (done_port (shape_of project)) (first_net project (length project.kernels))
    (ended_net project 0) (ended_nets project)
    (valid_nets (first_output (shape_of project)) project.joints.outputs)

-- The top module: ports, FIFOs and kernels, and nothing that is stored.
abbrev pub top_module : Project → Module
top_module project = record {
  name = codes "top$project";
  ports = ports_from 0 (shape_ports (shape_of project));
  nets =
      map port_net (shape_ports (shape_of project))
      ++ wires_from (port_count project) (wire_widths project);
  mems = [];
  assigns = done_assigns project;
  updates = [];
  instances = instances_of project;
}
