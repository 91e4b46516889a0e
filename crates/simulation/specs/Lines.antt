-- The line that a run says that is refused.
use Rattle.std.specs.Prelude.{ℕ, List, [], ◌∷◌, Option, Some, None, codes}
use Rattle.std.specs.Fmt.{decimal}
use Rattle.refusal_line.specs.Lines.{refused}
use Rattle.simulation.specs.declared.stop.Stop.{Stop}
use Rattle.simulation.specs.declared.stop.Stop.TheVariants.{TooManyCells, BadLine, WordRange, ReadFault, WriteFault, NoMemory}

-- the line of the refusal. A call that failed and want of memory are none
abbrev pub said : Stop → Option (List ℕ)
said (TooManyCells cells) = Some (refused (codes "V5") (decimal cells ∷ []))
said (BadLine file line) = Some (refused (codes "U3") (file ∷ decimal line ∷ []))
said (WordRange file line) = Some (refused (codes "U4") (file ∷ decimal line ∷ []))
said ReadFault = None
said WriteFault = None
said NoMemory = None
