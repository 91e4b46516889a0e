-- Delays of nodes that are added to a module.
use Rattle.std.specs.Prelude.{◌≡◌, ℕ, ◌+◌, ◌*◌, List, length, All}
use Rattle.rtl_ir.specs.declared.design.Module.{Module}
use Rattle.rtl_delays.specs.declared.elements.Element.{Element}
use Rattle.rtl_delays.specs.Extends.{Extends}
use Rattle.rtl_delays.specs.Driven.{KeepsUndriven}
use Rattle.rtl_delays.specs.Stored.{stored_bits}
use Rattle.rtl_delays.specs.Elements.{shown, AreFree}
use Rattle.kernel_stages.specs.Numbers.{
  last_from,
  register_count,
  wait_count,
  rings_from,
  ring_count,
  pointer_bits,
  all_pointer_bits,
  pipeline_bits,
  all_word_bits,
}
use Rattle.kernel_stages.specs.declared.node.NodeDelays.{NodeDelays}
use Rattle.kernel_stages.specs.Chains.{
  elements_of,
  joined,
  IsChain,
  IsDelayedBy,
  AreChains,
  AreWide,
  AddsRegistersOf,
}

-- the delays stand in the new module, nothing writes them yet, and their registers and memories
-- come after those of the old one, in rising order
abbrev pub ComeAfter : Module → Module → List Element → Type 0
ComeAfter old new es =
    AreFree new (length old.nets) (length old.mems) es (length new.nets) (length new.mems)

-- A chain of delays was added for these stages, which nothing writes yet. Their registers and
-- memories come after all that stood.
pub record AddsChain (old new : Module) (width : ℕ) (stages : List ℕ) (chain : List Element)
    : Type 0
  where
    pub extends : Extends old new
    pub late : IsChain 0 stages chain
    pub wide : All (λ e. (shown e).width ≡ width) chain
    pub free : ComeAfter old new chain
    pub updates : new.updates ≡ old.updates
    pub only : AddsRegistersOf old new chain
    pub undriven : KeepsUndriven old new
    pub stored :
        stored_bits new ≡ stored_bits old + width * last_from 0 stages + pointer_bits stages
    pub nets : length new.nets ≡ length old.nets + length stages + rings_from 0 stages
    pub mems : length new.mems ≡ length old.mems + rings_from 0 stages

-- The delays of one node were added, which nothing writes yet. Their registers and memories come
-- after all that stood.
pub record AddsDelays (old new : Module) (width latency : ℕ) (waits : List ℕ) (d : NodeDelays)
    : Type 0
  where
    pub extends : Extends old new
    pub late : IsDelayedBy latency waits d
    pub wide : All (λ e. (shown e).width ≡ width) (elements_of d)
    pub free : ComeAfter old new (elements_of d)
    pub updates : new.updates ≡ old.updates
    pub only : AddsRegistersOf old new (elements_of d)
    pub undriven : KeepsUndriven old new
    pub stored :
        stored_bits new
        ≡ stored_bits old + width * latency + width * last_from 0 waits + pointer_bits waits
    pub nets :
        length new.nets ≡ length old.nets + latency + length waits + rings_from 0 waits
    pub mems : length new.mems ≡ length old.mems + rings_from 0 waits

-- The delays of all nodes were added, which nothing writes yet. Their registers and memories come
-- after all that stood.
pub record AddsChains (old new : Module) (widths latencies : List ℕ) (waits : List (List ℕ))
    (delays : List NodeDelays) : Type 0
  where
    pub extends : Extends old new
    pub late : AreChains latencies waits delays
    pub wide : AreWide widths delays
    pub free : ComeAfter old new (joined delays)
    pub updates : new.updates ≡ old.updates
    pub only : AddsRegistersOf old new (joined delays)
    pub undriven : KeepsUndriven old new
    pub stored :
        stored_bits new
        ≡ stored_bits old + pipeline_bits widths latencies + all_word_bits widths waits
        + all_pointer_bits waits
    pub nets :
        length new.nets
        ≡ length old.nets + register_count latencies + wait_count waits + ring_count waits
    pub mems : length new.mems ≡ length old.mems + ring_count waits
