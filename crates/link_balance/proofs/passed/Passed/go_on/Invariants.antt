use Rattle.std.proofs.Common.{◌≡◌, ◌≤◌, ◌-◌, min, length}
use Rattle.stream_equations.specs.Equations.{count_before}
use Rattle.link_balance.specs.Ports.{port_of}
use Rattle.link_balance.proofs.passed.Passed.go_on.Given as goal

-- the words of the ticks that are passed are counted
abbrev pub invariant-loop-self : goal.invariant-loop-self
invariant-loop-self l = record {
  words : l.self.words ≡ count_before (port_of l.port).due l.self.ticks;
  before : l.self.ticks ≤ min (length l.port.due) (l.edge - l.port.begin);
}

abbrev pub decreases-loop-self : goal.decreases-loop-self
decreases-loop-self l = length l.due - l.self.ticks
