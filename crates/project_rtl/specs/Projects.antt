-- The modules of the design of a project.
use Rattle.std.specs.Prelude.{◌≡◌, ℕ, ◌+◌, List, [], ◌∷◌, ◌++◌, map, length, codes}
use Rattle.std.specs.Fmt.{decimal}
use Rattle.fix_arith.specs.Types.{width_of}
use Rattle.rtl_ir.specs.declared.design.Design.{Design}
use Rattle.rtl_ir.specs.declared.design.Module.{Module}
use Rattle.stream_graph.specs.declared.kernel.Kernel.{Kernel}
use Rattle.stream_graph.specs.LookUps.{width_at}
use Rattle.link_fifo.specs.Fifo.{IsFifoModule}
use Rattle.manager_links.specs.declared.hosts.HostPort.{HostPort}
use Rattle.manager_links.specs.declared.links.Link.{Link}
use Rattle.manager_links.specs.declared.links.Links.{Links}
use Rattle.manager_links.specs.declared.links.PortAt.{PortAt}
use Rattle.manager_links.specs.declared.project.Project.{Project}
use Rattle.manager_links.specs.Joined.{ends_of_link}
use Rattle.project_streams.specs.Streams.{nodes_at}
use Rattle.project_rtl.specs.Tops.{top_module}

-- ---- the FIFOs

-- the width of a FIFO's words, and how many it holds
pub record Queue : Type 0 where
  pub width : ℕ
  pub depth : ℕ

-- the FIFO of a stream of the host holds two words
abbrev pub host_queue : HostPort → Queue
host_queue host = record { width = width_of host.t; depth = 2 }

-- the width of the words of a port
abbrev pub port_width : List Kernel → PortAt → ℕ
port_width kernels port = width_at (nodes_at kernels port.kernel) port.node

-- the FIFO of a link is as deep as the link
abbrev pub link_queue : List Kernel → Link → Queue
link_queue kernels link = record { width = port_width kernels link.from; depth = link.depth }

-- the FIFOs of all streams from the host, of all streams to it, and of all links
abbrev pub queues_of : Project → Links → List Queue
queues_of project made =
    map host_queue project.joints.inputs
    ++ (map host_queue project.joints.outputs ++ map (link_queue project.kernels) made.links)

-- the name of the FIFO of this number
abbrev pub fifo_name : ℕ → List ℕ
fifo_name number = codes "fifo$" ++ decimal number

-- these modules are such FIFOs, with numbers from this one on
abbrev pub AreFifos : ℕ → List Queue → List Module → Type 0
AreFifos number [] [] = Unit {0}
AreFifos number (queue ∷ queues) (m ∷ ms) =
    IsFifoModule (fifo_name number) queue.width queue.depth m × AreFifos (number + 1) queues ms
AreFifos number [] (m ∷ ms) = ⊥
AreFifos number (queue ∷ queues) [] = ⊥

-- ---- the design

-- The design has a FIFO for each stream of the host and for each link of the project, then the
-- module of each kernel, and last the top module.
pub record IsProjectOf (project : Project) (made : Links) (inners : List Module) (d : Design)
    : Type 0
  where
    pub links : map ends_of_link made.links ≡ project.joints.links
    pub kernels : length inners ≡ length project.kernels
    pub fifos : List Module
    pub are_fifos : AreFifos 0 (queues_of project made) fifos
    pub modules : d.modules ≡ fifos ++ (inners ++ top_module project ∷ [])
