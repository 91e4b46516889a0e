-- When the kernels of a project start, and how deep its links are.
--
-- A kernel's nodes have times, in edges from where the kernel starts. What is written into a link
-- in an edge can be read from the next one on.
use Rattle.std.specs.Prelude.{
  ◌≡◌,
  ℕ,
  ◌+◌,
  ◌-◌,
  ◌^◌,
  ◌<◌,
  ◌≤◌,
  ◌||◌,
  if◌then◌else◌,
  ℤ,
  pos,
  ◌≤ℤ◌,
  unsigned_abs,
  List,
  [],
  length,
  All,
  slice_index,
  slice_index_or,
}
use Rattle.std.specs.List.{AllZip}
use Rattle.cycle_find.specs.Constraints.{numbers_of}
use Rattle.stream_graph.specs.declared.kernel.Kernel.{Kernel}
use Rattle.manager_links.specs.declared.links.PortAt.{PortAt}
use Rattle.manager_links.specs.declared.links.LinkEnds.{LinkEnds}
use Rattle.manager_links.specs.Ports.{is_controlled}

-- ---- times

-- the first of these numbers are times of the kernel's nodes, in node order
pub record IsTimed (kernel : Kernel) (times : List ℤ) : Type 0 where
  pub each : length kernel.nodes ≤ length times
  pub begin : (v : ℕ) → v < length kernel.nodes → pos 0 ≤ℤ numbers_of times v
  pub most : (v : ℕ) → v < length kernel.nodes → numbers_of times v ≤ℤ pos (2 ^ 46)

-- there are times for each kernel
abbrev pub AreTimes : List Kernel → List (List ℤ) → Type 0
AreTimes kernels times = AllZip IsTimed kernels times

-- the times of a kernel's nodes
abbrev pub own_times : List (List ℤ) → ℕ → List ℤ
own_times times kernel = slice_index_or times kernel []

-- the time of a port's node
abbrev pub time_of : List (List ℤ) → PortAt → ℕ
time_of times port = unsigned_abs (numbers_of (own_times times port.kernel) port.node)

-- ---- starts

-- a number for each kernel
abbrev pub Starts : Type 0
Starts = ℕ → ℕ

-- the edge in which a port is in tick 0
abbrev pub first_edge : List (List ℤ) → Starts → PortAt → ℕ
first_edge times start port = start port.kernel + time_of times port

-- legal starts of so many kernels: what is read of a link in tick 0 was written in an earlier edge
pub record AreLegal (times : List (List ℤ)) (kernels : ℕ) (links : List LinkEnds) (start : Starts)
    : Type 0
  where
    pub one : (k : ℕ) → k < kernels → 1 ≤ start k
    pub behind :
        All (λ link. first_edge times start link.from + 1 ≤ first_edge times start link.to) links

-- the starts of so many kernels: legal ones, none of which is above that of any legal ones
pub record AreStarts (times : List (List ℤ)) (kernels : ℕ) (links : List LinkEnds) (starts : List ℕ)
    : Type 0
  where
    pub each : length starts ≡ kernels
    pub legal : AreLegal times kernels links (slice_index starts)
    pub least : (other : Starts) → AreLegal times kernels links other
        → (k : ℕ) → k < kernels → slice_index starts k ≤ other k

-- ---- depths

-- the depth of each link with a control, at its output or at its input
abbrev pub controlled_depth : ℕ
controlled_depth = 512

-- the most words that a link may hold
abbrev pub most_words : ℕ
most_words = 65536

-- how deep a link is: without controls as many words as are written before the edge in which the
-- first one is read, and one more for that edge
abbrev pub depth_of : List Kernel → List (List ℤ) → Starts → LinkEnds → ℕ
depth_of kernels times start link =
    if is_controlled kernels link.from || is_controlled kernels link.to
    then controlled_depth
    else first_edge times start link.to - first_edge times start link.from + 1
