-- Registers for the states of nodes that are added to a module.
use Rattle.std.specs.Prelude.{
  ◌≡◌,
  ℕ,
  ◌+◌,
  true,
  false,
  if◌then◌else◌,
  List,
  [],
  ◌∷◌,
  length,
  Option,
}
use Rattle.rtl_ir.specs.declared.design.Module.{Module}
use Rattle.rtl_ir.specs.Value.{is_reg}
use Rattle.rtl_build.specs.declared.signal.Signal.{Signal}
use Rattle.rtl_delays.specs.Extends.{Extends}
use Rattle.rtl_delays.specs.Driven.{KeepsUndriven}
use Rattle.rtl_delays.specs.Stored.{stored_bits}
use Rattle.stream_graph.specs.declared.node.Node.{Node}
use Rattle.stream_graph.specs.LookUps.{kind_at, width_at}
use Rattle.kernel_states.specs.States.{
  has_state,
  state_bits,
  state_count,
  IsState,
  AreStates,
  AreFree,
  is_state_of,
}

-- each register of the new module is one of these or was one of the old one
abbrev pub AddsRegistersOf : Module → Module → List (Option Signal) → Type 0
AddsRegistersOf old new states =
    (n : ℕ) → is_reg new n ≡ true → is_state_of states n ≡ false → is_reg old n ≡ true

-- The register of the state of node number n was added, if the node keeps one. Nothing writes it
-- yet, and it comes after all nets that stood.
pub record AddsState (old new : Module) (nodes : List Node) (n : ℕ) (state : Option Signal) : Type 0
  where
    pub extends : Extends old new
    pub is : IsState new nodes n state
    pub free : AreFree new (length old.nets) (state ∷ []) (length new.nets)
    pub updates : new.updates ≡ old.updates
    pub only : AddsRegistersOf old new (state ∷ [])
    pub undriven : KeepsUndriven old new
    pub stored :
        stored_bits new
        ≡ stored_bits old + (if has_state (kind_at nodes n) then width_at nodes n else 0)
    pub nets :
        length new.nets ≡ length old.nets + (if has_state (kind_at nodes n) then 1 else 0)
    pub mems : new.mems ≡ old.mems

-- The registers of the states of these nodes were added, which nothing writes yet. They come after
-- all nets that stood.
pub record AddsStates (old new : Module) (nodes : List Node) (states : List (Option Signal))
    : Type 0
  where
    pub extends : Extends old new
    pub are : AreStates new nodes states
    pub free : AreFree new (length old.nets) states (length new.nets)
    pub updates : new.updates ≡ old.updates
    pub only : AddsRegistersOf old new states
    pub undriven : KeepsUndriven old new
    pub stored : stored_bits new ≡ stored_bits old + state_bits nodes
    pub nets : length new.nets ≡ length old.nets + state_count nodes
    pub mems : new.mems ≡ old.mems
