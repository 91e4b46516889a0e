use Rattle.std.proofs.Common.{◌≡◌, ◌<◌, ℕ, length, get_or, None}
use Rattle.kernel_wiring.specs.Words.{control_at}
use Rattle.kernel_wiring.proofs.controls.port_controls.Given as goal

-- the nodes so far have their controls
abbrev pub invariant-loop-number : goal.invariant-loop-number
invariant-loop-number l = record {
  counted : length l.controls.items ≡ l.number;
  each : (n : ℕ) → n < l.number → get_or l.controls.items n None ≡ control_at l.kernel.nodes l.layout l.late l.words n;
}
