-- The position of a kernel's module, the states of its nodes and the delays of their words, before
-- anything writes them.
use Rattle.std.specs.Prelude.{◌≡◌, ℕ, ◌+◌, true, false, nat_eq, List, length, codes, Option}
use Rattle.rtl_ir.specs.declared.design.Module.{Module}
use Rattle.rtl_ir.specs.Value.{is_reg}
use Rattle.rtl_ir.specs.Formed.{name_of}
use Rattle.rtl_build.specs.declared.signal.Signal.{Signal}
use Rattle.rtl_delays.specs.declared.elements.Element.{Element}
use Rattle.rtl_delays.specs.Extends.{Extends, AddsOneRegister}
use Rattle.rtl_delays.specs.Driven.{KeepsUndriven}
use Rattle.rtl_delays.specs.Stored.{stored_bits}
use Rattle.rtl_delays.specs.Elements.{AreFree}
use Rattle.stream_graph.specs.declared.node.Node.{Node}
use Rattle.kernel_control.specs.Nets.{HasWideRegister}
use Rattle.kernel_layout.specs.declared.layout.Layout.{Layout}
use Rattle.kernel_stages.specs.Numbers.{
  register_count,
  wait_count,
  ring_count,
  pipeline_bits,
  all_word_bits,
  all_pointer_bits,
}
use Rattle.kernel_stages.specs.Chains.{joined, is_register_of, AreChains, AreWide}
use Rattle.kernel_states.specs.States.{
  state_bits,
  state_count,
  AreStates,
  AreFree as AreFreeStates,
  is_state_of,
}
use Rattle.kernel_rtl.specs.declared.storage.Storage.{Storage}
use Rattle.kernel_rtl.specs.Planned.{widths_of}

-- A register of 48 bits was added, named `position`, which nothing writes yet.
pub record AddsPosition (old new : Module) (position : Signal) : Type 0 where
  pub extends : Extends old new
  pub wide : HasWideRegister new position
  pub named : name_of new position.net ≡ codes "position"
  pub last : length new.nets ≡ position.net + 1
  pub nets : length new.nets ≡ length old.nets + 1
  pub updates : new.updates ≡ old.updates
  pub only : AddsOneRegister old new position.net
  pub undriven : KeepsUndriven old new
  pub stored : stored_bits new ≡ stored_bits old + 48

-- each register of the new module is the position, that of a state or of one of the delays, or one
-- of the old one
abbrev pub AddsRegistersFor :
    Module → Module → ℕ → List (Option Signal) → List Element → Type 0
AddsRegistersFor old new position states es =
    (n : ℕ)
    → is_reg new n ≡ true
    → nat_eq position n ≡ false
    → is_state_of states n ≡ false
    → is_register_of es n ≡ false
    → is_reg old n ≡ true

-- The position, a register for each node that keeps a state and the delays of all nodes by this
-- layout were added, which nothing writes yet. The position comes before the states, and these
-- before the registers of the delays.
pub record AddsStorage (old new : Module) (nodes : List Node) (layout : Layout)
    (storage : Storage) : Type 0
  where
    pub extends : Extends old new
    pub wide : HasWideRegister new storage.position
    pub named : name_of new storage.position.net ≡ codes "position"
    pub states : AreStates new nodes storage.states
    pub between : ℕ
    pub states_free : AreFreeStates new (storage.position.net + 1) storage.states between
    pub late : AreChains layout.pipeline layout.waits storage.delays
    pub widths : AreWide (widths_of nodes) storage.delays
    pub memory : ℕ
    pub free :
        AreFree new between memory (joined storage.delays) (length new.nets) (length new.mems)
    pub updates : new.updates ≡ old.updates
    pub only :
        AddsRegistersFor old new storage.position.net storage.states (joined storage.delays)
    pub undriven : KeepsUndriven old new
    pub stored :
        stored_bits new
        ≡ stored_bits old + 48 + state_bits nodes
        + pipeline_bits (widths_of nodes) layout.pipeline
        + all_word_bits (widths_of nodes) layout.waits
        + all_pointer_bits layout.waits
    pub nets :
        length new.nets
        ≡ length old.nets + 1 + state_count nodes + register_count layout.pipeline
        + wait_count layout.waits
        + ring_count layout.waits
    pub mems : length new.mems ≡ length old.mems + ring_count layout.waits
