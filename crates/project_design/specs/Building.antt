-- What the builders of the top module and of the FIFOs say of their parts.
use Rattle.std.specs.Prelude.{
  ◌≡◌,
  ℕ,
  ℤ,
  ◌+◌,
  ◌≤◌,
  ◌<◌,
  ◌^◌,
  List,
  [],
  ◌∷◌,
  ◌++◌,
  All,
  Some,
  length,
  slice_get,
  IsSome,
}
use Rattle.rtl_ir.specs.declared.design.Module.{Module}
use Rattle.rtl_ir.specs.Ports.{
  PortView,
  first_scalar,
  first_input,
  first_output,
  done_port,
}
use Rattle.rtl_build.specs.Ports.{with_port}
use Rattle.stream_graph.specs.declared.kernel.Kernel.{Kernel}
use Rattle.kernel_control.specs.Ports.{scalars_of}
use Rattle.manager_links.specs.declared.links.Link.{Link}
use Rattle.manager_links.specs.declared.links.Links.{Links}
use Rattle.manager_links.specs.declared.links.PortAt.{PortAt}
use Rattle.manager_links.specs.declared.project.Project.{Project}
use Rattle.manager_links.specs.Links.{AreLinksOf, IsWithinLimit}
use Rattle.manager_links.specs.Ports.{node_of}
use Rattle.project_design.specs.declared.blocks.Block.{Block}
use Rattle.project_design.specs.declared.blocks.Blocks.{Blocks}
use Rattle.project_design.specs.declared.places.Places.{Places}
use Rattle.project_rtl.specs.Shapes.{shape_of}
use Rattle.project_rtl.specs.Blocks.{streams_of, first_net, first_scalar_port}
use Rattle.project_design.specs.Nodes.{AreWithin}
use Rattle.project_rtl.specs.Projects.{Queue, AreFifos, queues_of}

-- ---- what is asked for

-- the links that the project has at some times, within the limit
pub record AreMade (project : Project) (made : Links) : Type 0 where
  pub times : List (List ℤ)
  pub links : AreLinksOf project times made
  pub within : All IsWithinLimit made.links

-- ---- ports

-- the module with these ports behind its own, one after another
abbrev pub with_ports : Module → List PortView → Module
with_ports m [] = m
with_ports m (p ∷ ps) = with_ports (with_port m p.name p.width p.output) ps

-- where the ports of each kind begin, each place small
pub record ArePlaces (project : Project) (p : Places) : Type 0 where
  pub scalars : p.scalars ≡ first_scalar (shape_of project)
  pub inputs : p.inputs ≡ first_input (shape_of project)
  pub outputs : p.outputs ≡ first_output (shape_of project)
  pub done : p.done ≡ done_port (shape_of project)
  pub small : p.done ≤ 2 ^ 22

-- ---- blocks

-- what is kept of the block of a kernel whose first scalar has this port, and whose first net is this
-- one
pub record IsBlockAt (kernel : Kernel) (first_scalar first_net : ℕ) (block : Block) : Type 0 where
  pub scalars : block.scalars.items ≡ scalars_of kernel.nodes
  pub streams : block.streams.items ≡ streams_of kernel.nodes
  pub scalar_is : block.first_scalar ≡ first_scalar
  pub net_is : block.first_net ≡ first_net
  pub scalars_within : AreWithin kernel.nodes block.scalars.items
  pub streams_within : AreWithin kernel.nodes block.streams.items
  pub few_scalars : length block.scalars.items ≤ 2 ^ 12
  pub few_streams : length block.streams.items ≤ 2 ^ 13

-- that of the kernel of this number of a project, which is small
pub record IsBlock (project : Project) (k : ℕ) (kernel : Kernel) (block : Block) : Type 0 where
  pub is : IsBlockAt kernel (first_scalar_port project k) (first_net project k) block
  pub scalar_small : block.first_scalar + 2 ^ 12 ≤ 2 ^ 24
  pub net_small : block.first_net + 2 ^ 15 ≤ 2 ^ 24

-- there is one for each kernel of the project
pub record AreBlocks (blocks : Blocks) : Type 0 where
  pub count : length blocks.each.items ≡ length blocks.project.now.kernels
  pub each :
      (k : ℕ) (kernel : Kernel) (block : Block)
      → slice_get blocks.project.now.kernels k ≡ Some kernel
      → slice_get blocks.each.items k ≡ Some block
      → IsBlock blocks.project.now k kernel block

-- a port of one of the kernels
abbrev pub IsKnown : Project → PortAt → Type 0
IsKnown project port = port.kernel < length project.kernels

-- ---- FIFOs

-- the link comes from a node of a kernel
abbrev pub IsLinkedFrom : List Kernel → Link → Type 0
IsLinkedFrom kernels link = IsSome (node_of kernels link.from)

-- the modules have these FIFOs behind the old ones, with numbers from this one on
pub record AddsFifos (number : ℕ) (queues : List Queue) (old new : List Module) : Type 0 where
  pub fifos : List Module
  pub are_fifos : AreFifos number queues fifos
  pub is : new ≡ old ++ fifos

-- these are the FIFOs of the project
abbrev pub HasFifos : Project → Links → List Module → Type 0
HasFifos project made modules = AreFifos 0 (queues_of project made) modules
