use Rattle.std.proofs.Common.{◌≡◌, ◌<◌, ◌++◌, ℕ, Some}
use Rattle.std.specs.Prelude.{slice_get}
use Rattle.rtl_ir.specs.declared.interface.StreamPorts.{StreamPorts}
use Rattle.rtl_ir.specs.Interfaces.{stream_channel}
use Rattle.verilog_sim.specs.declared.offer.Event.{Event}
use Rattle.verilog_sim.specs.Calls.{event_of}
use Rattle.verilog_sim.specs.Contents.{family_of}
use Rattle.verilog_sim.proofs.evaluate.tell.Given as goal

abbrev pub invariant-loop-k : goal.invariant-loop-k
invariant-loop-k l =
    (j : ℕ) (x : StreamPorts) (e : Event) → j < l.k → slice_get (l.interface.inputs ++ l.interface.outputs) j ≡ Some x → slice_get l.events j ≡ Some e
    → e ≡ event_of (family_of l.values) (stream_channel x)
