-- Why a kernel has no problem, and the line that says it.
use Rattle.std.specs.Prelude.{
  ℕ,
  pos,
  ◌≤ℤ◌,
  ◌<ℤ◌,
  ◌-ℤ◌,
  List,
  [],
  ◌∷◌,
  map,
  Option,
  Some,
  None,
  codes,
}
use Rattle.std.specs.Int.{int_max}
use Rattle.std.specs.Fmt.{decimal, signed_decimal}
use Rattle.refusal_line.specs.Lines.{refused}
use Rattle.stream_graph.specs.declared.node.Node.{Node}
use Rattle.latency_table.specs.Names.{name_of}
use Rattle.latency_table.specs.declared.table.Table.{Table}
use Rattle.offset_edges.specs.declared.error.EdgeError.{EdgeError}
use Rattle.offset_edges.specs.declared.error.EdgeError.TheVariants as E
use Rattle.offset_edges.specs.declared.walk.ClosedWalk.{ClosedWalk}
use Rattle.offset_edges.specs.Edges.{edges_of}
use Rattle.offset_edges.specs.Latencies.{ticks_of, AllTimed, IsFirstLacking}
use Rattle.offset_edges.specs.Walks.{IsShown}

-- the walk goes over edges of the kernel, and looks back no tick
pub record IsAhead (table : Table) (nodes : List Node) (walk : ClosedWalk) : Type 0 where
  pub shown : IsShown (ticks_of table nodes) (edges_of nodes) walk
  pub ahead : pos 0 ≤ℤ walk.offset

-- the walk goes over edges of the kernel, and looks back fewer ticks than the greater of 1 and the
-- sum of its latencies
pub record IsUncovered (table : Table) (nodes : List Node) (walk : ClosedWalk) : Type 0 where
  pub shown : IsShown (ticks_of table nodes) (edges_of nodes) walk
  pub uncovered : (pos 0 -ℤ walk.offset) <ℤ int_max (pos 1) (pos walk.latency)

-- the first node without a latency, or, where all have one, a walk that shows that the kernel isn't
-- causal
abbrev pub IsRefused : Table → List Node → EdgeError → Type 0
IsRefused table nodes (E.NoLatency op width) = (n : ℕ) × IsFirstLacking table nodes n op width
IsRefused table nodes (E.Cycle walk) = AllTimed table nodes × IsAhead table nodes walk
IsRefused table nodes E.NoMemory = Unit {0}

-- the words of a walk in a line: its latency, how many ticks it looks back, and its nodes
abbrev pub words_of_walk : ClosedWalk → List (List ℕ)
words_of_walk walk =
    codes "latency" ∷ decimal walk.latency ∷ codes "back" ∷ signed_decimal (pos 0 -ℤ walk.offset) ∷
    codes "nodes"
    ∷ map decimal walk.nodes

-- the line of a refusal that shows a walk of a kernel
abbrev pub line_of_walk : List ℕ → List ℕ → ClosedWalk → List ℕ
line_of_walk code kernel walk = refused code (kernel ∷ words_of_walk walk)

-- the line of the refusal of a kernel of this name. Want of memory is none
abbrev pub said : List ℕ → EdgeError → Option (List ℕ)
said kernel (E.NoLatency op width) = Some (refused (codes "L1") (kernel ∷ name_of op ∷ decimal width
    ∷ []))
said kernel (E.Cycle walk) = Some (line_of_walk (codes "C1") kernel walk)
said kernel E.NoMemory = None
