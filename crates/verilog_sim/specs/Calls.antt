-- What the calls of a simulator do, in the words of the meaning of a design.
use Rattle.std.specs.Prelude.{◌≡◌, ℕ, ◌++◌, List, [], Bool, true, false, nat_eq, map}
use Rattle.rtl_ir.specs.declared.design.Module.{Module}
use Rattle.rtl_ir.specs.Value.{Family, bit}
use Rattle.rtl_ir.specs.Flat.{Families, FitsFlat, after_flat}
use Rattle.rtl_ir.specs.Run.{Channel, Outer, Same, moves}
use Rattle.verilog_sim.specs.declared.offer.Offer.{Offer}
use Rattle.verilog_sim.specs.declared.offer.Event.{Event}
use Rattle.verilog_sim.specs.State.{State, contents, last_family}

-- the values of the outer inputs in an edge: the clock reads as 0
pub record Given (o : Outer) (reset : Bool) (steady : List ℕ) (offers : List Offer) (accepts holds : List Bool) (v : Family) : Type 0 where
  pub clock : v o.clock ≡ 0
  pub restarts : v o.reset ≡ bit reset
  pub steadily : Same o.steady steady v
  pub held : Same o.holds (map bit holds) v
  pub words : Same (map (λ (c : Channel). c.word) o.inputs) (map (λ (x : Offer). x.word) offers) v
  pub valid : Same (map (λ (c : Channel). c.valid) o.inputs) (map (λ (x : Offer). bit x.valid) offers) v
  pub accepted : Same (map (λ (c : Channel). c.ready) o.outputs) (map bit accepts) v

-- nothing is offered, and the word is 0
abbrev pub nothing : Offer
nothing = record { valid = false; word = 0 }

-- the family of an edge in which the outer inputs have these values
pub record Settled (m : Module) (s : State) (reset : Bool) (offers : List Offer) (accepts holds : List Bool) (v : Families) : Type 0 where
  pub fits : FitsFlat s.design m (contents s) v
  pub given : Given s.outer reset s.steady offers accepts holds (v [])

-- the same where nothing is offered, accepted or held
abbrev pub SettledAlone : Module → State → Bool → Families → Type 0
SettledAlone m s reset v = Settled m s reset (map (λ c. nothing) s.outer.inputs) (map (λ c. false) s.outer.outputs) (map (λ n. false) s.outer.holds) v

-- what an event tells of a stream
abbrev pub event_of : Family → Channel → Event
event_of v c = record { moved = moves c v; word = v c.word }

-- an edge without reset: its family is the last one then, after it registers and memories hold what the meaning says, and the
-- events are its moves
pub record IsEdge (m : Module) (offers : List Offer) (accepts holds : List Bool) (old new : State) (events : List Event) : Type 0 where
  pub settled : Settled m old false offers accepts holds (last_family new)
  pub after : contents new ≡ after_flat old.design m (contents old) (last_family new)
  pub events_are : events ≡ map (event_of (last_family new [])) (old.outer.inputs ++ old.outer.outputs)

-- an edge with reset
pub record IsResetEdge (m : Module) (old new : State) : Type 0 where
  pub settled : SettledAlone m old true (last_family new)
  pub after : contents new ≡ after_flat old.design m (contents old) (last_family new)

-- whether the port done is 1
pub record IsDone (m : Module) (s : State) (answer : Bool) : Type 0 where
  pub family : Families
  pub settled : SettledAlone m s false family
  pub answer_is : answer ≡ nat_eq (family [] s.outer.done) 1
