-- How the code ends where a run ended or was stopped.
use Rattle.std.specs.Prelude.{ℕ, List, if◌then◌else◌}
use Rattle.simulation.specs.declared.stop.Outcome.{Outcome}
use Rattle.simulation.specs.declared.stop.Stop.{Stop}
use Rattle.simulation.specs.declared.stop.Stop.TheVariants as stops
use Rattle.maxjc_core.specs.SimulateRuns.{done_line, limit_line}
use Rattle.maxjc_core.specs.declared.status.Status.{Status}
use Rattle.maxjc_core.specs.declared.status.Status.TheVariants.{Done, Refused, ReadFault, WriteFault, NoMemory, EdgeLimit}

abbrev pub end_status : Outcome → Status
end_status o = if o.done then Done else EdgeLimit

abbrev pub end_line : Outcome → List ℕ
end_line o = if o.done then done_line o.edges else limit_line o.edges

abbrev pub stop_status : Stop → Status
stop_status (stops.TooManyCells n) = Refused
stop_status (stops.BadLine file line) = Refused
stop_status (stops.WordRange file line) = Refused
stop_status stops.ReadFault = ReadFault
stop_status stops.WriteFault = WriteFault
stop_status stops.NoMemory = NoMemory
