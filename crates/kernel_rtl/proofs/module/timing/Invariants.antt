use Rattle.std.proofs.Common.{◌≡◌, ℕ, ◌<◌, length}
use Rattle.std.specs.Prelude.{slice_index}
use Rattle.kernel_rtl.specs.Planned.{times_of}
use Rattle.kernel_rtl.proofs.module.timing.Given as goal

-- the times of the nodes so far
abbrev pub invariant-loop-node : goal.invariant-loop-node
invariant-loop-node l = record {
  counted : length l.whole ≡ l.node;
  each : (v : ℕ) → v < l.node → slice_index l.whole v ≡ times_of l.times v;
}
