use Rattle.std.proofs.Common.{◌≡◌, ◌≤◌, ◌<◌, ◌+◌, ◌-◌, ℕ, min, length}
use Rattle.stream_equations.specs.Equations.{count_before}
use Rattle.link_balance.specs.Ports.{port_of}
use Rattle.link_balance.specs.Shortages.{IsShort}
use Rattle.link_balance.proofs.shortage.first_short.Given as goal

-- no tick so far is short
abbrev pub invariant-loop-tick : goal.invariant-loop-tick
invariant-loop-tick l = record {
  words : l.words ≡ count_before (port_of l.port).due l.tick;
  few : l.words ≤ l.tick;
  others : l.passed.words ≡ count_before (port_of l.other).due l.passed.ticks;
  behind : l.passed.ticks ≤ min (length l.other.due) (l.port.begin + l.tick - l.other.begin);
  none : (t : ℕ) → t < l.tick → IsShort (port_of l.port) (port_of l.other) l.room t → ⊥;
}
