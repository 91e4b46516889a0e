use Rattle.std.proofs.Common.{◌≡◌, ℕ, ◌<◌, length, Some}
use Rattle.std.specs.Prelude.{slice_get}
use Rattle.rtl_build.specs.declared.signal.Signal.{Signal}
use Rattle.stream_graph.specs.declared.node.Kind.TheVariants as K
use Rattle.stream_graph.specs.LookUps.{kind_at}
use Rattle.kernel_ports.specs.declared.signals.NodeSignal.{NodeSignal}
use Rattle.kernel_ports.specs.declared.signals.StreamSignals.{StreamSignals}
use Rattle.kernel_states.specs.States.{state_at}
use Rattle.kernel_wiring.specs.Words.{signal_at}
use Rattle.kernel_rtl.specs.Words.{IsGivenWord, IsGivenScalar}
use Rattle.kernel_rtl.proofs.words.given_words.Given as goal

-- the nodes of the ports of inputs so far have words of their ports
abbrev pub invariant-loop-port : goal.invariant-loop-port
invariant-loop-port l = record {
  counted : length l.words.items ≡ length l.kernel.nodes;
  each : (port : StreamSignals) (i : ℕ) → i < l.port-index → slice_get l.ports.inputs i ≡ Some port → IsGivenWord l.ports.inputs l.words.items port.node;
}

-- so have all inputs, and the nodes of the ports of scalars so far
abbrev pub invariant-loop-port-2 : goal.invariant-loop-port-2
invariant-loop-port-2 l = record {
  counted : length l.words.items ≡ length l.kernel.nodes;
  inputs : (n : ℕ) → n < length l.kernel.nodes → kind_at l.kernel.nodes n ≡ K.Input → IsGivenWord l.ports.inputs l.words.items n;
  each : (port : NodeSignal) (i : ℕ) → i < l.port-index → slice_get l.ports.scalars i ≡ Some port → IsGivenScalar l.ports.scalars l.words.items port.node;
}

-- so have all scalars too, and the nodes so far that keep a state have their registers
abbrev pub invariant-loop-node : goal.invariant-loop-node
invariant-loop-node l = record {
  counted : length l.words.items ≡ length l.kernel.nodes;
  inputs : (n : ℕ) → n < length l.kernel.nodes → kind_at l.kernel.nodes n ≡ K.Input → IsGivenWord l.ports.inputs l.words.items n;
  scalars : (n : ℕ) → n < length l.kernel.nodes → kind_at l.kernel.nodes n ≡ K.Scalar → IsGivenScalar l.ports.scalars l.words.items n;
  kept : (n : ℕ) (s : Signal) → n < l.node → state_at l.states n ≡ Some s → signal_at l.words.items n ≡ s;
}
