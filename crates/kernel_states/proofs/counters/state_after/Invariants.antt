use Rattle.std.proofs.Common.{◌≡◌, ◌*◌, ◌-◌, length, drop}
use Rattle.counter_chains.specs.Chains.{bits_of}
use Rattle.kernel_states.proofs.Suffixes.{AreStepped}
use Rattle.kernel_states.proofs.counters.state_after.Given as goal

-- the wires of the counters from a place on, whose words stand in the low bits of the state
abbrev pub invariant-loop-place : goal.invariant-loop-place
invariant-loop-place l = record {
  made : AreStepped l.fn.netlist l.netlist (10 * (length l.digits - l.place)) l.state.net (drop l.place l.digits) l.later;
  low : l.low ≡ bits_of (drop l.place l.digits);
}
