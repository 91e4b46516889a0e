-- The plans by which kernels get their modules.
use Rattle.std.specs.Prelude.{
  ◌≡◌,
  ℕ,
  ◌+◌,
  ◌*◌,
  ◌<◌,
  ◌≤◌,
  ◌^◌,
  true,
  pos,
  ◌≤ℤ◌,
  ℤ,
  unsigned_abs,
  List,
  map,
  length,
  All,
}
use Rattle.cycle_find.specs.Constraints.{Numbers, numbers_of}
use Rattle.fix_arith.specs.Types.{width_of}
use Rattle.stream_graph.specs.declared.node.Kind.TheVariants as K
use Rattle.stream_graph.specs.declared.node.Node.{Node}
use Rattle.stream_graph.specs.LookUps.{kind_at}
use Rattle.stream_graph.specs.Kinds.{is_offset}
use Rattle.offset_edges.specs.Edges.{edges_of}
use Rattle.offset_edges.specs.Schedules.{IsLegal}
use Rattle.kernel_control.specs.Ports.{inputs_of, outputs_of, ended_port}
use Rattle.kernel_layout.specs.declared.layout.Layout.{Layout}
use Rattle.kernel_layout.specs.Layouts.{IsLayout}
use Rattle.kernel_stages.specs.Numbers.{differences, register_count, wait_count, ring_count}
use Rattle.kernel_states.specs.States.{state_count, step_nets}
use Rattle.kernel_wiring.specs.Costs.{word_nets}

-- each of these waits is at most 2^28 advances longer than the one before it
abbrev pub AreNear : List ℕ → Type 0
AreNear waits = All (λ advances. advances ≤ 2 ^ 28) (differences 0 waits)

-- The layout is that of a kernel of these nodes with some latencies at these times, which are a
-- legal schedule of these latencies from 0 to 2^46. Offsets and chains have no latency, and a word
-- waits at most 2^28 advances more than for the wait before.
pub record IsPlanned (nodes : List Node) (times : Numbers) (layout : Layout) : Type 0 where
  pub ticks : ℕ → ℕ
  pub begin : (v : ℕ) → v < length nodes → pos 0 ≤ℤ times v
  pub most : (v : ℕ) → v < length nodes → times v ≤ℤ pos (2 ^ 46)
  pub offsets :
      (v : ℕ) → v < length nodes → is_offset (kind_at nodes v) ≡ true → ticks v ≡ 0
  pub chains : (v : ℕ) → v < length nodes → kind_at nodes v ≡ K.Chain → ticks v ≡ 0
  pub legal : IsLegal ticks (edges_of nodes) times
  pub laid : IsLayout nodes ticks times layout
  pub near : All AreNear layout.waits

-- the times of nodes, none of which is below 0, as natural numbers
abbrev pub times_of : List ℤ → ℕ → ℕ
times_of times = λ n. unsigned_abs (numbers_of times n)

-- The most nets that the module of a kernel with this layout has: those of its ports and of its
-- position, the wires of its nodes' words, one for a state and the wires by which it steps, one for
-- each advance of a pipeline, one for a wait and 9 more for one whose delay is a ring, and 11 for a
-- port's handshake and 12 beside for the control.
abbrev pub most_nets : List Node → Layout → ℕ
most_nets nodes layout =
    (ended_port nodes + 2) + word_nets nodes
    + state_count nodes + step_nets nodes
    + register_count layout.pipeline + wait_count layout.waits + 9 * ring_count layout.waits
    + 11 * (length (inputs_of nodes) + length (outputs_of nodes))
    + 12

-- the bits of each node's words, in node order
abbrev pub widths_of : List Node → List ℕ
widths_of nodes = map (λ (node : Node). width_of node.view.t) nodes
