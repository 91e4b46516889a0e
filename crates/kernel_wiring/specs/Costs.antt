-- What each node of a kernel may take in the kernel's module, and what the module has beside its
-- nodes.
use Rattle.std.specs.Prelude.{ℕ, ◌+◌, ◌*◌, Bool, if◌then◌else◌, List, map, length, sum_by}
use Rattle.stream_graph.specs.declared.node.Kind.{Kind}
use Rattle.stream_graph.specs.declared.node.Kind.TheVariants as K
use Rattle.stream_graph.specs.declared.node.Node.{Node}
use Rattle.stream_graph.specs.Kinds.{is_input, is_output, is_scalar}
use Rattle.stream_graph.specs.LookUps.{type_at}
use Rattle.rtl_ops.specs.Costs.{most_wires}
use Rattle.kernel_states.specs.States.{has_state, step_wires}

-- ---- one node

-- ports, the wires that are none, registers and memories
pub record Parts : Type 0 where
  pub ports : ℕ
  pub wires : ℕ
  pub registers : ℕ
  pub memories : ℕ

-- one where this holds
abbrev pub one_if : Bool → ℕ
one_if b = if b then 1 else 0

-- the most wires of a node of this kind for its word, by its operands
abbrev pub word_wires : List Node → Kind → List ℕ → ℕ
word_wires nodes (K.Operation op mode amount) operands =
    most_wires op (map (type_at nodes) operands)
word_wires nodes (K.Constant word) operands = 1
word_wires nodes (K.Part place) operands = 1
word_wires nodes K.Hold operands = 8
word_wires nodes _ operands = 0

-- A stream has three ports, and 11 wires of its handshake; a scalar has one port.
abbrev pub port_parts : Kind → Parts
port_parts kind = record {
  ports = 3 * one_if (is_input kind) + 3 * one_if (is_output kind) + one_if (is_scalar kind);
  wires = 11 * one_if (is_input kind) + 11 * one_if (is_output kind);
  registers = 0;
  memories = 0;
}

-- The most parts of a node: those of a port, the wires of its word, the register of its state and
-- the wires by which it steps, and a register for each tick of its latency, at most 64. For each
-- operand a delay may stand behind these: a register, or a memory with a register for its place and
-- 9 wires.
abbrev pub parts_of : List Node → Node → Parts
parts_of nodes node = record {
  ports = (port_parts node.view.kind).ports;
  wires =
      (port_parts node.view.kind).wires + word_wires nodes node.view.kind node.operands
      + step_wires node
      + 9 * length node.operands;
  registers = one_if (has_state node.view.kind) + 64 + length node.operands;
  memories = length node.operands;
}

-- The parts of a module beside those of its nodes: the ports of the clock, the reset, the hold, the
-- ticks and the end, 12 wires that tell where the kernel advances and has ended, and the position.
abbrev pub own_parts : Parts
own_parts = record { ports = 5; wires = 12; registers = 1; memories = 0 }

-- ---- what they are in a text

-- each port, wire and register is a net
abbrev pub nets_of : Parts → ℕ
nets_of parts = parts.ports + parts.wires + parts.registers

-- the most bytes of the name of a port: `out$`, a name of 64 bytes and `$valid`
abbrev pub port_name : ℕ
port_name = 74

-- and of that of another net or of a memory: a letter and 20 digits
abbrev pub own_name : ℕ
own_name = 21

-- The most bytes of a text for these parts: 100 a net or memory beside names, its own name where it
-- is declared and where it is given its value, and the names of three nets that this value reads,
-- which may be those of ports. A port is listed once more, and its name is longer in both places.
abbrev pub bytes_of : Parts → ℕ
bytes_of parts =
    (100 + 3 * port_name) * parts.ports
    + (100 + 2 * own_name + 3 * port_name) * (nets_of parts + parts.memories)

-- ---- a kernel's module

-- the most wires of all nodes for their words
abbrev pub word_nets : List Node → ℕ
word_nets nodes =
    sum_by (λ (node : Node). word_wires nodes node.view.kind node.operands) nodes

-- what the module of a kernel of these nodes may have of something that parts have
abbrev pub in_all : (Parts → ℕ) → List Node → ℕ
in_all count nodes =
    count own_parts + sum_by (λ (node : Node). count (parts_of nodes node)) nodes

abbrev pub all_ports : List Node → ℕ
all_ports nodes = in_all (λ parts. parts.ports) nodes

abbrev pub all_nets : List Node → ℕ
all_nets nodes = in_all nets_of nodes

abbrev pub all_memories : List Node → ℕ
all_memories nodes = in_all (λ parts. parts.memories) nodes

-- the most bytes of its text, beside the name of the kernel
abbrev pub all_bytes : List Node → ℕ
all_bytes nodes = 200 + in_all bytes_of nodes

-- ---- limits

-- The most nets of a kernel's module for each node and each operand, and the most bytes of its text.
-- A project has some bytes more of these, and stays below 2^11 wires and 2^18 bytes a part.
abbrev pub nets_a_part : ℕ
nets_a_part = 625

abbrev pub bytes_a_part : ℕ
bytes_a_part = 228500
