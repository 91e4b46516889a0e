-- A run of a design under a pattern of stalls, over the words of files: the reset edge, and edges up to a moment before
-- which the port done was never 1 and no input looked for a line that it can't read.
use Rattle.std.specs.Prelude.{◌≡◌, ℕ, Bool, true, false, nat_eq, List, [], ◌∷◌, map, Option, Some, None, slice_get, option_and_then}
use Rattle.rtl_ir.specs.declared.design.Design.{Design}
use Rattle.rtl_ir.specs.declared.design.Module.{Module}
use Rattle.rtl_ir.specs.Value.{Family}
use Rattle.rtl_ir.specs.Flat.{AllContents, Families, FitsFlat, EdgesFlat, after_flat}
use Rattle.rtl_ir.specs.Parts.{own_of}
use Rattle.rtl_ir.specs.Run.{Channel, Outer, Event, Same, AllZero, NoneOffered, NoneAccepted, IsDriven, left_of}
use Rattle.stall_source.specs.Stalls.{Answers}
use Rattle.simulation.specs.Inputs.{InputFile, LineFault, words_of, fault_behind}
use Rattle.simulation.specs.Asked.{AreAsked}

-- what is run: the design, its top module, the nets of its outer ports, the values of the ports that keep one value, what
-- registers and memories hold before the reset edge, the input files, the pattern number, and the most edges
pub record Setup : Type 0 where
  pub design : Design
  pub top : Module
  pub outer : Outer
  pub steady : List ℕ
  pub contents : AllContents
  pub inputs : List InputFile
  pub pick : ℕ
  pub edges : ℕ

-- an input that isn't valid has the word 0
abbrev pub IdleAtZero : List Channel → Family → Type 0
IdleAtZero [] v = Unit {0}
IdleAtZero (ch ∷ chs) v = (v ch.valid ≡ 0 → v ch.word ≡ 0) × IdleAtZero chs v

abbrev pub AllIdleAtZero : List Channel → List Family → Type 0
AllIdleAtZero chs [] = Unit {0}
AllIdleAtZero chs (v ∷ vs) = IdleAtZero chs v × AllIdleAtZero chs vs

-- all inputs are 0 but for the ports that keep one value
pub record IsIdle (o : Outer) (steady : List ℕ) (v : Family) : Type 0 where
  pub clock : v o.clock ≡ 0
  pub reset : v o.reset ≡ 0
  pub steadily : Same o.steady steady v
  pub not_held : AllZero o.holds v
  pub none_offered : NoneOffered o.inputs v
  pub words : IdleAtZero o.inputs v
  pub none_accepted : NoneAccepted o.outputs v

-- whether the port done is 1 with these contents, while all inputs are 0 but for the ports that keep one value
pub record IsDoneAt (s : Setup) (c : AllContents) (answer : Bool) : Type 0 where
  pub family : Families
  pub fits : FitsFlat s.design s.top c family
  pub idle : IsIdle s.outer s.steady (family [])
  pub answer_is : answer ≡ nat_eq (family [] s.outer.done) 1

-- done is not 1 before any of these edges, which begin with these contents
abbrev pub UndoneBefore : Setup → AllContents → List Families → Type 0
UndoneBefore s c [] = Unit {0}
UndoneBefore s c (v ∷ vs) = IsDoneAt s c false × UndoneBefore s (after_flat s.design s.top c v) vs

-- an input looks for its next line in an edge: it doesn't stall, and no word of its waits
abbrev pub Looks : Event → List (List ℕ) → ℕ → Type 0
Looks e left k = (e.offers k ≡ true) × (slice_get left k ≡ Some [])

-- why the input of this number can't read the line behind its words, if it can't
abbrev pub fault_at : Setup → ℕ → Option LineFault
fault_at s k = option_and_then fault_behind (slice_get s.inputs k)

-- in none of these edges an input looks for a line that it can't read. So many words of each wait before the first of them
abbrev pub ReadableBefore : Setup → List (List ℕ) → List Event → List Family → Type 0
ReadableBefore s left [] vs = Unit {0}
ReadableBefore s left (e ∷ es) [] = Unit {0}
ReadableBefore s left (e ∷ es) (v ∷ vs) = ((k : ℕ) → Looks e left k → fault_at s k ≡ None) × ReadableBefore s (left_of s.outer.inputs left v) es vs

-- the contents after these edges
abbrev pub contents_after : Setup → AllContents → List Families → AllContents
contents_after s c [] = c
contents_after s c (v ∷ vs) = contents_after s (after_flat s.design s.top c v) vs

-- the reset edge and these edges after it
pub record IsRun (stalls : Answers) (s : Setup) (restart : Families) (vs : List Families) : Type 0 where
  pub edges : EdgesFlat s.design s.top s.contents (restart ∷ vs)
  pub events : List Event
  pub asked : AreAsked stalls s.pick 0 s.outer events
  pub driven : IsDriven s.outer s.steady (map words_of s.inputs) events (own_of (restart ∷ vs))
  pub idle : AllIdleAtZero s.outer.inputs (own_of (restart ∷ vs))
  pub undone : UndoneBefore s (after_flat s.design s.top s.contents restart) vs
  pub readable : ReadableBefore s (map words_of s.inputs) events (own_of vs)
