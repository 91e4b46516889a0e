-- The ideal run of a project, in which nothing waits. Edges are counted from 0. A kernel is in the
-- tick 0 of a node in the edge that its start and the node's time sum to, and in each edge one tick
-- further.
use Rattle.std.specs.Prelude.{◌≡◌, ℕ, ◌+◌, ◌-◌, ◌<◌, ◌≤◌, min, Bool, true, ℤ, List}
use Rattle.stream_equations.specs.Equations.{enabled, count_before}
use Rattle.manager_links.specs.declared.links.PortAt.{PortAt}
use Rattle.manager_links.specs.declared.project.Project.{Project}
use Rattle.manager_links.specs.Starts.{Starts, first_edge}
use Rattle.project_streams.specs.declared.side.Side.{Side}
use Rattle.project_streams.specs.declared.side.Side.TheVariants.{Dry, Full}
use Rattle.project_streams.specs.Streams.{GivenProject, ProjectValues, nodes_at}

-- ---- a link by its ports

-- A port in the ideal run: the edge in which it is in tick 0, how many ticks it has, and in which
-- of them a word is due.
pub record Port : Type 0 where
  pub begin : ℕ
  pub ticks : ℕ
  pub due : ℕ → Bool

-- how many words are due at a port in the edges before this one
abbrev pub passed : Port → ℕ → ℕ
passed port edge = count_before port.due (min port.ticks (edge - port.begin))

-- a word is due in this tick of the run
pub record IsDue (port : Port) (t : ℕ) : Type 0 where
  pub within : t < port.ticks
  pub due : port.due t ≡ true

-- The link is dry at a tick of its consumer in which a word is due: the word of this number wasn't
-- written in an earlier edge.
pub record IsDry (producer consumer : Port) (t : ℕ) : Type 0 where
  pub due : IsDue consumer t
  pub dry : passed producer (consumer.begin + t) ≤ count_before consumer.due t

-- The link, of this depth, is full at a tick of its producer in which a word is due: so many words
-- more were written than read in earlier edges.
pub record IsFull (producer consumer : Port) (depth t : ℕ) : Type 0 where
  pub due : IsDue producer t
  pub full : depth + passed consumer (producer.begin + t) ≤ count_before producer.due t

-- the link is so at this tick: dry at one of the consumer, full at one of the producer
abbrev pub IsFaulty : Port → Port → ℕ → Side → ℕ → Type 0
IsFaulty producer consumer depth Dry t = IsDry producer consumer t
IsFaulty producer consumer depth Full t = IsFull producer consumer depth t

-- the edge in which that is
abbrev pub edge_of : Port → Port → Side → ℕ → ℕ
edge_of producer consumer Dry t = consumer.begin + t
edge_of producer consumer Full t = producer.begin + t

-- dry comes before full
abbrev pub IsFormer : Side → Side → Type 0
IsFormer Dry Full = Unit {0}
IsFormer one other = ⊥

-- the link is at no tick dry or full
abbrev pub IsEven : Port → Port → ℕ → Type 0
IsEven producer consumer depth =
    (side : Side) (t : ℕ) → IsFaulty producer consumer depth side t → ⊥

-- the first tick, by edge, at which it is dry or else full
pub record IsFirstFault (producer consumer : Port) (depth : ℕ) (side : Side) (t : ℕ) : Type 0 where
  pub here : IsFaulty producer consumer depth side t
  pub before :
      (other : Side) (u : ℕ)
      → edge_of producer consumer other u < edge_of producer consumer side t
      → IsFaulty producer consumer depth other u
      → ⊥
  pub former :
      (other : Side) (u : ℕ)
      → edge_of producer consumer other u ≡ edge_of producer consumer side t
      → IsFormer other side
      → IsFaulty producer consumer depth other u
      → ⊥

-- ---- ports of a project

-- a port in the ideal run of a project at these times, where its kernels start so
abbrev pub port_in : Project → List (List ℤ) → Starts → GivenProject → ProjectValues → PortAt → Port
port_in project times start given values port = record {
  begin = first_edge times start port;
  ticks = given.ticks port.kernel;
  due = enabled (nodes_at project.kernels port.kernel) (values port.kernel) port.node;
}

-- The word of an output in an enabled tick has left the design of a balanced run once nothing waited
-- for the host in so many edges: two more than are before the edge of this tick in the ideal run.
abbrev pub due_count : List (List ℤ) → Starts → PortAt → ℕ → ℕ
due_count times start port t = first_edge times start port + t + 2
