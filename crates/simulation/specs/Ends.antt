-- How a run ends.
use Rattle.std.specs.Prelude.{◌≡◌, ℕ, ◌<◌, ◌≤◌, true, false, List, [], ◌∷◌, length, map, Some, None}
use Rattle.rtl_ir.specs.Flat.{Families}
use Rattle.rtl_ir.specs.Value.{Family}
use Rattle.rtl_ir.specs.Parts.{own_of}
use Rattle.rtl_ir.specs.Run.{Channel, Event, left_of}
use Rattle.stall_source.specs.Stalls.{Answers}
use Rattle.simulation.specs.Inputs.{LineFault, words_of}
use Rattle.simulation.specs.Asked.{IsAsked}
use Rattle.simulation.specs.Runs.{Setup, IsRun, IsDoneAt, Looks, fault_at, contents_after}

pub data End : Type 0 where
  Done : ℕ → End  -- done is 1 after so many edges
  Limit : ℕ → End  -- done isn't 1 after so many edges, and these are all that may be made
  Stopped : LineFault → End  -- an input was to read a line that it can't read

-- the words of each input that are left after these edges
abbrev pub left_after : List Channel → List (List ℕ) → List Family → List (List ℕ)
left_after chs words [] = words
left_after chs words (v ∷ vs) = left_after chs (left_of chs words v) vs

-- in the edge after these, this input is the first, in the order of the ports, that looks for a line and can't read it
pub record IsStopped (stalls : Answers) (s : Setup) (vs : List Families) (fault : LineFault) : Type 0 where
  pub event : Event
  pub asked : IsAsked stalls s.pick (length vs) s.outer event
  pub input : ℕ
  pub looks : Looks event (left_after s.outer.inputs (map words_of s.inputs) (own_of vs)) input
  pub is : fault_at s input ≡ Some fault
  pub earlier : (j : ℕ) → j < input → Looks event (left_after s.outer.inputs (map words_of s.inputs) (own_of vs)) j → fault_at s j ≡ None

-- a run, whether done is 1 after it, and how it ends there
pub data Ends (stalls : Answers) (s : Setup) (restart : Families) (vs : List Families) : End → Type 0 where
  done :
      IsRun stalls s restart vs
      → length vs ≤ s.edges
      → IsDoneAt s (contents_after s s.contents (restart ∷ vs)) true
      → Ends stalls s restart vs (Done (length vs))
  limit :
      IsRun stalls s restart vs
      → length vs ≡ s.edges
      → IsDoneAt s (contents_after s s.contents (restart ∷ vs)) false
      → Ends stalls s restart vs (Limit (length vs))
  stopped :
      (fault : LineFault)
      → IsRun stalls s restart vs
      → length vs < s.edges
      → IsDoneAt s (contents_after s s.contents (restart ∷ vs)) false
      → IsStopped stalls s vs fault
      → Ends stalls s restart vs (Stopped fault)
