-- What the errors of the parts of a run are to it.
use Rattle.verilog_sim.specs.declared.error.SimError.{SimError}
use Rattle.verilog_sim.specs.declared.error.SimError.TheVariants as refusals
use Rattle.word_files.specs.declared.error.WordError.{WordError}
use Rattle.word_files.specs.declared.error.WordError.TheVariants as errors
use Rattle.simulation.specs.declared.stop.Stop.{Stop}
use Rattle.simulation.specs.declared.stop.Stop.TheVariants.{TooManyCells, BadLine, WordRange, ReadFault, WriteFault, NoMemory}

-- what a reader or a writer of words answers
abbrev pub stop_of : WordError → Stop
stop_of (errors.BadLine file line) = BadLine file line
stop_of (errors.WordRange file line) = WordRange file line
stop_of errors.ReadFault = ReadFault
stop_of errors.WriteFault = WriteFault
stop_of errors.NoMemory = NoMemory

abbrev pub refused_by : SimError → Stop
refused_by (refusals.TooManyCells n) = TooManyCells n
refused_by refusals.NoMemory = NoMemory

-- reading stops a run so
abbrev pub IsReadStop : Stop → Type 0
IsReadStop (TooManyCells n) = ⊥
IsReadStop (BadLine file line) = Unit {0}
IsReadStop (WordRange file line) = Unit {0}
IsReadStop ReadFault = Unit {0}
IsReadStop WriteFault = ⊥
IsReadStop NoMemory = Unit {0}

-- an edge stops a run so
abbrev pub IsEdgeStop : Stop → Type 0
IsEdgeStop (TooManyCells n) = ⊥
IsEdgeStop (BadLine file line) = Unit {0}
IsEdgeStop (WordRange file line) = Unit {0}
IsEdgeStop ReadFault = Unit {0}
IsEdgeStop WriteFault = Unit {0}
IsEdgeStop NoMemory = Unit {0}

-- making a bench stops so
abbrev pub IsNewStop : Stop → Type 0
IsNewStop (TooManyCells n) = Unit {0}
IsNewStop (BadLine file line) = ⊥
IsNewStop (WordRange file line) = ⊥
IsNewStop ReadFault = ⊥
IsNewStop WriteFault = Unit {0}
IsNewStop NoMemory = Unit {0}
