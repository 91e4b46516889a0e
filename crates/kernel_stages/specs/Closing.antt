-- Delays of nodes that follow the words of the nodes.
use Rattle.std.specs.Prelude.{◌≡◌, ℕ, ◌<◌, true, false, List, [], ◌∷◌, length, slice_index, All}
use Rattle.rtl_ir.specs.declared.design.Module.{Module}
use Rattle.rtl_build.specs.declared.signal.Signal.{Signal}
use Rattle.rtl_build.specs.Signals.{HasSignal}
use Rattle.rtl_delays.specs.declared.elements.Element.{Element}
use Rattle.rtl_delays.specs.Steps.{writes_reg, writes_mem}
use Rattle.rtl_delays.specs.Delays.{IsDelay, IsTap, of_net}
use Rattle.rtl_delays.specs.Elements.{shown, advances_of}
use Rattle.kernel_stages.specs.declared.node.NodeDelays.{NodeDelays}
use Rattle.kernel_stages.specs.Numbers.{waits_at}
use Rattle.kernel_stages.specs.Chains.{
  word_at,
  elements_of,
  delays_at,
  element_at,
  last_shown,
  AreChains,
  is_register_of,
  is_memory_of,
}

-- a delay may follow a signal of the module, of its width
pub record MayFollow (m : Module) (s : Signal) (e : Element) : Type 0 where
  pub signal : HasSignal m s
  pub width : s.width ≡ (shown e).width

-- the delays of each node may follow its word; of a node without delays nothing is asked
abbrev pub MayFollowWords : Module → List Signal → List NodeDelays → Type 0
MayFollowWords m words delays =
    (u : ℕ)
    → u < length delays
    → All (MayFollow m (word_at words u)) (elements_of (delays_at delays u))

-- the word of each node that has delays is a signal of the module, of the node's width
abbrev pub AreWords : Module → List ℕ → List Signal → List NodeDelays → Type 0
AreWords m widths words delays =
    (u : ℕ)
    → 0 < length (elements_of (delays_at delays u))
    → HasSignal m (word_at words u) × ((word_at words u).width ≡ slice_index widths u)

-- of registers and memories that were not written, no others are written than those of these delays
pub record LeavesOthers (old new : Module) (es : List Element) : Type 0 where
  pub regs :
      (n : ℕ)
      → writes_reg n old.updates ≡ false
      → is_register_of es n ≡ false
      → writes_reg n new.updates ≡ false
  pub mems :
      (k : ℕ)
      → writes_mem k old.updates ≡ false
      → is_memory_of es k ≡ false
      → writes_mem k new.updates ≡ false

-- the register of each of these delays is written
abbrev pub AreWritten : Module → List Element → Type 0
AreWritten m es = (n : ℕ) → is_register_of es n ≡ true → writes_reg n m.updates ≡ true

-- each delay of a chain follows the one before it, and the first one the net `from`
abbrev pub Follows : Module → ℕ → ℕ → ℕ → List Element → Type 0
Follows m run reset from [] = Unit {0}
Follows m run reset from (e ∷ chain) =
    IsDelay m run reset (of_net from) (shown e).net (advances_of e)
    × Follows m run reset (shown e).net chain

-- a node's pipeline follows its word, and its waits the end of the pipeline
pub record IsFollowed (m : Module) (run reset : ℕ) (word : Signal) (d : NodeDelays) : Type 0 where
  pub pipeline : Follows m run reset word.net d.pipeline
  pub waits : Follows m run reset (last_shown word d.pipeline).net d.waits

-- The end of a node's pipeline shows its word after its latency, and each wait what the end of the
-- pipeline showed so many advances ago.
pub record IsDelayed (m : Module) (run reset : ℕ) (word : Signal) (latency : ℕ) (waits : List ℕ)
    (d : NodeDelays) : Type 0
  where
    pub pipeline : IsTap m run reset (of_net word.net) (last_shown word d.pipeline).net latency
    pub behind :
        (i : ℕ)
        → i < length d.waits
        → IsDelay m run reset (of_net (last_shown word d.pipeline).net)
        (shown (element_at d.waits i)).net
        (slice_index waits i)

-- so it is with each node, whatever the latencies and waits are that the delays are for
abbrev pub AreDelays : Module → ℕ → ℕ → List Signal → List NodeDelays → Type 0
AreDelays m run reset words delays =
    (latencies : List ℕ) (waits : List (List ℕ))
    → AreChains latencies waits delays
    → (u : ℕ)
    → u < length delays
    → IsDelayed m run reset (word_at words u) (slice_index latencies u) (waits_at waits u)
    (delays_at delays u)
