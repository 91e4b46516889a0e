-- The line that a graph says that is no kernel.
use Rattle.std.specs.Prelude.{◌≡◌, List, [], ◌∷◌, ℕ, Option, Some, None, codes}
use Rattle.std.specs.Fmt.{decimal}
use Rattle.refusal_line.specs.Lines.{refused}
use Rattle.stream_graph.specs.declared.error.GraphError.{GraphError}
use Rattle.stream_graph.specs.declared.error.GraphError.TheVariants as E

-- The line of a fault of the kernel of this name. An offset out of range is refused where it is made, and want of memory
-- says none.
abbrev pub fault_line : List ℕ → GraphError → Option (List ℕ)
fault_line kernel (E.Unconnected n) = Some (refused (codes "G1") (kernel ∷ decimal n ∷ []))
fault_line kernel (E.ConnectedTwice n) = Some (refused (codes "G2") (kernel ∷ decimal n ∷ []))
fault_line kernel (E.SamePort name) = Some (refused (codes "G3") (kernel ∷ name ∷ []))
fault_line kernel (E.TooManyNodes n) = Some (refused (codes "G4") (kernel ∷ decimal n ∷ []))
fault_line kernel (E.EmptyChain n) = Some (refused (codes "G6") (kernel ∷ decimal n ∷ []))
fault_line kernel (E.OffsetRange k) = None
fault_line kernel E.NoMemory = None
