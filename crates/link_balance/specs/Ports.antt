-- Ports and faults of the ideal run, as the code has them.
use Rattle.std.specs.Prelude.{ℕ, false, length, slice_index_or, Option, Some, None}
use Rattle.project_streams.specs.Ideal.{Port, IsEven, IsFirstFault}
use Rattle.link_balance.specs.declared.fault.LinkFault.{LinkFault}
use Rattle.link_balance.specs.declared.port_run.PortRun.{PortRun}

-- the port that a value of the code stands for
abbrev pub port_of : PortRun → Port
port_of run = record {
  begin = run.begin;
  ticks = length run.due;
  due = λ t. slice_index_or run.due t false;
}

-- a link is at no tick dry or full exactly where there is no fault, and else this is the first one
abbrev pub IsEvenBut : Port → Port → ℕ → Option LinkFault → Type 0
IsEvenBut producer consumer depth None = IsEven producer consumer depth
IsEvenBut producer consumer depth (Some fault) =
    IsFirstFault producer consumer depth fault.side fault.tick
