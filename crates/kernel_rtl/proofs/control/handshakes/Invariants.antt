use Rattle.std.proofs.Common.{◌≡◌, ◌++◌, map, drop}
use Rattle.std.specs.Prelude.{slice_index}
use Rattle.kernel_rtl.specs.Handshakes.{enable_at, input_handshake, output_handshake, handshakes_of}
use Rattle.kernel_rtl.proofs.control.handshakes.Given as goal

-- what was made, and the handshakes of the inputs that are left
abbrev pub invariant-loop-input : goal.invariant-loop-input
invariant-loop-input l =
    l.made.items ++ map (input_handshake (slice_index l.times) (enable_at l.enables)) (drop l.input-index l.ports.inputs)
    ≡ map (input_handshake (slice_index l.times) (enable_at l.enables)) l.ports.inputs

-- what was made, and the handshakes of the outputs that are left
abbrev pub invariant-loop-output : goal.invariant-loop-output
invariant-loop-output l =
    l.made.items ++ map (output_handshake (slice_index l.times) (enable_at l.enables)) (drop l.output-index l.ports.outputs)
    ≡ handshakes_of (slice_index l.times) (enable_at l.enables) l.ports
