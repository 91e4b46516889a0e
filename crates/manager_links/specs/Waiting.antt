-- What the starts of kernels are asked for by the links between them.
use Rattle.std.specs.Prelude.{ℕ, ◌^◌, ◌<◌, ◌≤◌, ℤ, pos, ◌+ℤ◌, ◌-ℤ◌, ◌≤ℤ◌, ◌<ℤ◌, ◌+◌, unsigned_abs, List, length, All, slice_index, IsSome}
use Rattle.cycle_find.specs.Constraints.{numbers_of}
use Rattle.cycle_find.specs.declared.arcs.Arc.{Arc}
use Rattle.manager_links.specs.declared.links.LinkEnds.{LinkEnds}
use Rattle.manager_links.specs.declared.links.PortAt.{PortAt}
use Rattle.manager_links.specs.declared.links.Link.{Link}
use Rattle.manager_links.specs.Ports.{node_of}
use Rattle.manager_links.specs.Starts.{own_times, depth_of}
use Rattle.stream_graph.specs.declared.kernel.Kernel.{Kernel}

-- the time of a port's node, as a whole number
abbrev pub number_at : List (List ℤ) → PortAt → ℤ
number_at times port = numbers_of (own_times times port.kernel) port.node

-- there is a time for the node of a port
pub record IsTimedPort (times : List (List ℤ)) (port : PortAt) : Type 0 where
  pub kernel : port.kernel < length times
  pub node : port.node < length (own_times times port.kernel)
  pub begin : pos 0 ≤ℤ number_at times port
  pub most : number_at times port ≤ℤ pos (2 ^ 46)

pub record IsTimedLink (times : List (List ℤ)) (link : LinkEnds) : Type 0 where
  pub from : IsTimedPort times link.from
  pub to : IsTimedPort times link.to

-- the kernel that a link goes to starts so late that it reads an edge after the words are written
abbrev pub arc_of : List (List ℤ) → LinkEnds → Arc
arc_of times link = record {
  from = link.from.kernel;
  to = link.to.kernel;
  need = (number_at times link.from +ℤ pos 1) -ℤ number_at times link.to;
}

-- the ends of links are ports of kernels whose nodes have times
pub record AreKnownLinks (kernels : List Kernel) (times : List (List ℤ)) (links : List LinkEnds)
    : Type 0
  where
    pub from : All (λ (link : LinkEnds). IsSome (node_of kernels link.from)) links
    pub to : All (λ (link : LinkEnds). IsSome (node_of kernels link.to)) links
    pub timed : All (IsTimedLink times) links

-- a link with its depth
abbrev pub deep_link : List Kernel → List (List ℤ) → List ℕ → LinkEnds → Link
deep_link kernels times starts link = record {
  from = link.from;
  to = link.to;
  depth = depth_of kernels times (slice_index starts) link;
}

-- kernels have numbers that rise along links
pub record AreRising (links : List LinkEnds) : Type 0 where
  pub rank : ℕ → ℕ
  pub rises :
      All (λ (link : LinkEnds). rank link.from.kernel < rank link.to.kernel) links

-- starts are small
abbrev pub AreSmall : List ℕ → Type 0
AreSmall starts = (kernel : ℕ) → slice_index starts kernel ≤ 2 ^ 60

-- numbers from 0 on, and one more than each of them
abbrev pub AreSmallNumbers : List ℤ → Type 0
AreSmallNumbers numbers =
    (v : ℕ) → (pos 0 ≤ℤ numbers_of numbers v) × (numbers_of numbers v <ℤ pos (2 ^ 60))

abbrev pub one_later : ℤ → ℕ
one_later number = unsigned_abs number + 1
