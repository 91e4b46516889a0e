-- The nodes of a kernel that are ports, as a builder has them.
use Rattle.std.specs.Prelude.{◌≡◌, ℕ, ◌<◌, List, length, All}
use Rattle.stream_graph.specs.declared.node.Node.{Node}
use Rattle.kernel_control.specs.Ports.{inputs_of, outputs_of, scalars_of}
use Rattle.project_design.specs.declared.nodes.PortNodes.{PortNodes}

-- each of these is a node of the kernel
abbrev pub AreWithin : List Node → List ℕ → Type 0
AreWithin nodes ns = All (λ n. n < length nodes) ns

-- these are the ports of the kernel, each kind in node order
pub record ArePortNodes (nodes : List Node) (p : PortNodes) : Type 0 where
  pub scalars : p.scalars.items ≡ scalars_of nodes
  pub inputs : p.inputs.items ≡ inputs_of nodes
  pub outputs : p.outputs.items ≡ outputs_of nodes
  pub scalars_within : AreWithin nodes p.scalars.items
  pub inputs_within : AreWithin nodes p.inputs.items
  pub outputs_within : AreWithin nodes p.outputs.items
