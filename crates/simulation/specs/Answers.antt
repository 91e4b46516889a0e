-- What the answer of a simulation says of its run.
use Rattle.std.specs.Prelude.{◌≡◌, ◌<◌, ℕ, List, ◌∷◌, length, if◌then◌else◌, Result, Ok, Err}
use Rattle.mx_base.specs.Files.{Name, Held}
use Rattle.rtl_ir.specs.Flat.{Families}
use Rattle.rtl_ir.specs.Parts.{own_of}
use Rattle.stall_source.specs.Stalls.{Answers}
use Rattle.simulation.specs.Inputs.{LineFault}
use Rattle.simulation.specs.Inputs as lines
use Rattle.simulation.specs.Outputs.{AreWritten, AreBegun}
use Rattle.simulation.specs.Runs.{Setup, IsRun}
use Rattle.simulation.specs.Ends.{End, Done, Limit, Stopped, Ends}
use Rattle.simulation.specs.declared.stop.Outcome.{Outcome}
use Rattle.simulation.specs.declared.stop.Stop.{Stop}
use Rattle.simulation.specs.declared.stop.Stop.TheVariants.{TooManyCells, BadLine, WordRange, ReadFault, WriteFault, NoMemory}

abbrev pub end_of : Outcome → End
end_of o = if o.done then Done o.edges else Limit o.edges

-- a run that ends so, all of whose words the output files hold
pub record Finishes (stalls : Answers) (s : Setup) (outputs : List (Name × ℕ)) (now : Held) (end : End) : Type 0 where
  pub restart : Families
  pub vs : List Families
  pub ends : Ends stalls s restart vs end
  pub written : AreWritten now (own_of (restart ∷ vs)) s.outer.outputs outputs

-- a run that ends so, of whose words the output files hold the first
pub record Breaks (stalls : Answers) (s : Setup) (outputs : List (Name × ℕ)) (now : Held) (end : End) : Type 0 where
  pub restart : Families
  pub vs : List Families
  pub ends : Ends stalls s restart vs end
  pub begun : AreBegun now (own_of (restart ∷ vs)) s.outer.outputs outputs

-- the run up to the edge before which a read failed, of whose words the output files hold the first. It has made fewer than
-- the most edges
pub record IsInterrupted (stalls : Answers) (s : Setup) (outputs : List (Name × ℕ)) (now : Held) : Type 0 where
  pub restart : Families
  pub vs : List Families
  pub run : IsRun stalls s restart vs
  pub within : length vs < s.edges
  pub begun : AreBegun now (own_of (restart ∷ vs)) s.outer.outputs outputs

-- what an answer says of the run
abbrev pub Tells : Answers → Setup → List (Name × ℕ) → Held → Result Outcome Stop → Type 0
Tells stalls s outputs now (Ok o) = Finishes stalls s outputs now (end_of o)
Tells stalls s outputs now (Err (TooManyCells n)) = Unit {0}
Tells stalls s outputs now (Err (BadLine file line)) = Breaks stalls s outputs now (Stopped (lines.BadLine file line))
Tells stalls s outputs now (Err (WordRange file line)) = Breaks stalls s outputs now (Stopped (lines.WordRange file line))
Tells stalls s outputs now (Err ReadFault) = IsInterrupted stalls s outputs now
Tells stalls s outputs now (Err WriteFault) = Unit {0}
Tells stalls s outputs now (Err NoMemory) = Unit {0}

-- a run that ends where a file isn't held
pub record IsMissing (stalls : Answers) (s : Setup) : Type 0 where
  pub restart : Families
  pub vs : List Families
  pub ends : Ends stalls s restart vs (Stopped lines.Missing)

-- the answers that there may be where a run ends so: its own, a failure of the files, or want of memory
abbrev pub IsOrFails : End → Result Outcome Stop → Type 0
IsOrFails end (Ok o) = end ≡ end_of o
IsOrFails end (Err (TooManyCells n)) = ⊥
IsOrFails end (Err (BadLine file line)) = end ≡ Stopped (lines.BadLine file line)
IsOrFails end (Err (WordRange file line)) = end ≡ Stopped (lines.WordRange file line)
IsOrFails end (Err ReadFault) = Unit {0}
IsOrFails end (Err WriteFault) = Unit {0}
IsOrFails end (Err NoMemory) = Unit {0}
