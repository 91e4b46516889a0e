-- The schedules of a kernel: which are legal, and how many bits their FIFOs hold.
use Rattle.std.specs.Prelude.{
  ◌≡◌,
  ℕ,
  zero,
  suc,
  ◌<◌,
  ◌==◌,
  if◌then◌else◌,
  ℤ,
  pos,
  ◌+ℤ◌,
  ◌-ℤ◌,
  ◌*ℤ◌,
  ◌≤ℤ◌,
  List,
  [],
  ◌∷◌,
  length,
  Option,
  Some,
  None,
}
use Rattle.std.specs.Int.{int_max}
use Rattle.cycle_find.specs.Constraints.{Numbers, Solves}
use Rattle.schedule_problem.specs.Flow.{cost_of}
use Rattle.stream_graph.specs.declared.node.Node.{Node}
use Rattle.latency_table.specs.declared.table.Table.{Table}
use Rattle.offset_edges.specs.declared.edge.Edge.{Edge}
use Rattle.offset_edges.specs.Edges.{edges_of, edge_at}
use Rattle.stream_graph.specs.LookUps.{width_at}
use Rattle.offset_edges.specs.Latencies.{ticks_of}
use Rattle.offset_edges.specs.Problems.{problem_of}

-- how many ticks the words of an edge wait, where node v has the time s v
abbrev pub delay_of : (ℕ → ℕ) → Numbers → Edge → ℤ
delay_of ticks s edge = ((s edge.to -ℤ s edge.from) -ℤ pos (ticks edge.from)) -ℤ edge.offset

-- no words wait less than no tick
abbrev pub IsLegal : (ℕ → ℕ) → List Edge → Numbers → Type 0
IsLegal ticks edges s = (j : ℕ) → j < length edges → pos 0 ≤ℤ delay_of ticks s (edge_at edges j)

-- the greater of a number and another one, if there is one
abbrev pub greater : ℤ → Option ℤ → ℤ
greater d None = d
greater d (Some e) = int_max d e

-- the greatest delay of the edges from a node; none where no edge leads from it
abbrev pub greatest_delay : (ℕ → ℕ) → Numbers → List Edge → ℕ → Option ℤ
greatest_delay ticks s [] u = None
greatest_delay ticks s (edge ∷ edges) u =
    if edge.from == u then Some (greater (delay_of ticks s edge) (greatest_delay ticks s edges u))
    else greatest_delay ticks s edges u

-- the bits of the FIFO of a node: as many words as the greatest delay
abbrev pub bits_of : List Node → ℕ → Option ℤ → ℤ
bits_of nodes u None = pos 0
bits_of nodes u (Some delay) = pos (width_at nodes u) *ℤ delay

abbrev pub bits_below : (ℕ → ℕ) → List Node → List Edge → Numbers → ℕ → ℤ
bits_below ticks nodes edges s zero = pos 0
bits_below ticks nodes edges s (suc u) =
    bits_below ticks nodes edges s u +ℤ bits_of nodes u (greatest_delay ticks s edges u)

-- the bits of all FIFOs
abbrev pub fifo_bits : (ℕ → ℕ) → List Node → List Edge → Numbers → ℤ
fifo_bits ticks nodes edges s = bits_below ticks nodes edges s (length nodes)

-- times that solve the problem of a kernel make a legal schedule, whose FIFOs hold no more bits
-- than they cost
abbrev pub SolutionsAreSchedules : Table → List Node → Type 0
SolutionsAreSchedules table nodes = (x : Numbers) → Solves x (problem_of table nodes).arcs.list →
    IsLegal (ticks_of table nodes) (edges_of nodes) x
    × (fifo_bits (ticks_of table nodes) nodes (edges_of nodes) x ≤ℤ cost_of (problem_of table nodes)
    x)

-- and each legal schedule is part of times that solve the problem and cost what its FIFOs hold
abbrev pub SchedulesAreSolutions : Table → List Node → Type 0
SchedulesAreSolutions table nodes = (s : Numbers) → IsLegal (ticks_of table nodes) (edges_of nodes)
    s →
    (x : Numbers) × Solves x (problem_of table nodes).arcs.list × ((v : ℕ) → v < length nodes
    → x v ≡ s v)
    × (cost_of (problem_of table nodes) x ≡ fifo_bits (ticks_of table nodes) nodes (edges_of nodes)
    s)
