-- The delays of nodes, two chains for each node: the first delay of its pipeline follows the word
-- of the node, the first one of its waits the end of the pipeline, and each other one the delay
-- before it.
use Rattle.std.specs.Prelude.{
  ◌≡◌,
  ℕ,
  ◌+◌,
  ◌<◌,
  Bool,
  true,
  false,
  ◌||◌,
  nat_eq,
  List,
  [],
  ◌∷◌,
  ◌++◌,
  length,
  map,
  slice_index,
  slice_index_or,
  All,
}
use Rattle.rtl_ir.specs.declared.design.Module.{Module}
use Rattle.rtl_ir.specs.Value.{is_reg}
use Rattle.rtl_build.specs.declared.signal.Signal.{Signal}
use Rattle.rtl_delays.specs.declared.elements.Element.{Element}
use Rattle.rtl_delays.specs.declared.elements.Element.TheVariants.{Register, Ring}
use Rattle.rtl_delays.specs.Extends.{is_number}
use Rattle.rtl_delays.specs.Elements.{shown, advances_of, reg_of, mem_of, AreFree}
use Rattle.kernel_stages.specs.declared.node.NodeDelays.{NodeDelays}
use Rattle.kernel_stages.specs.Numbers.{up_to, waits_at}

-- what stands past the last signal
abbrev pub no_signal : Signal
no_signal = record { net = 0; width = 0 }

-- what stands past the last delay
abbrev pub no_element : Element
no_element = Register no_signal

-- the word of node u
abbrev pub word_at : List Signal → ℕ → Signal
word_at words u = slice_index_or words u no_signal

-- the delays of a node, those of its pipeline first
abbrev pub elements_of : NodeDelays → List Element
elements_of d = d.pipeline ++ d.waits

abbrev pub no_delays : NodeDelays
no_delays = record { pipeline = []; waits = [] }

-- the delays of node u, and none past the last node
abbrev pub delays_at : List NodeDelays → ℕ → NodeDelays
delays_at delays u = slice_index_or delays u no_delays

-- delay number i of a chain
abbrev pub element_at : List Element → ℕ → Element
element_at chain i = slice_index_or chain i no_element

-- the delays of all nodes, one node after another
abbrev pub joined : List NodeDelays → List Element
joined [] = []
joined (d ∷ delays) = elements_of d ++ joined delays

-- the signal of the last delay of a chain, and this one where there is none
abbrev pub last_shown : Signal → List Element → Signal
last_shown s [] = s
last_shown s (e ∷ chain) = last_shown (shown e) chain

-- the end of the pipeline of node u, which shows its word after its latency
abbrev pub end_at : List Signal → List NodeDelays → ℕ → Signal
end_at words delays u = last_shown (word_at words u) (delays_at delays u).pipeline

-- the end of a pipeline, if it has delays
abbrev pub end_of : List Element → List Signal
end_of [] = []
end_of (e ∷ chain) = last_shown (shown e) chain ∷ []

-- the signals that show a node's word later
abbrev pub signals_of : NodeDelays → List Signal
signals_of d = end_of d.pipeline ++ map shown d.waits

-- there is one delay for each stage, by the advances from the stage before it, and from `prior` to
-- the first one
abbrev pub IsChain : ℕ → List ℕ → List Element → Type 0
IsChain prior [] [] = Unit {0}
IsChain prior [] (e ∷ chain) = ⊥
IsChain prior (stage ∷ stages) [] = ⊥
IsChain prior (stage ∷ stages) (e ∷ chain) =
    (prior + advances_of e ≡ stage) × IsChain stage stages chain

-- a node's pipeline has a register for each advance of its latency, and behind it there is one
-- delay for each wait
pub record IsDelayedBy (latency : ℕ) (waits : List ℕ) (d : NodeDelays) : Type 0 where
  pub pipeline : IsChain 0 (up_to latency) d.pipeline
  pub behind : IsChain 0 waits d.waits

-- so it is for each node
pub record AreChains (latencies : List ℕ) (waits : List (List ℕ)) (delays : List NodeDelays)
    : Type 0
  where
    pub counted : length delays ≡ length waits
    pub numbered : length latencies ≡ length waits
    pub each :
        (u : ℕ)
        → u < length delays
        → IsDelayedBy (slice_index latencies u) (waits_at waits u) (delays_at delays u)

-- the delays of each node have its width
abbrev pub AreWide : List ℕ → List NodeDelays → Type 0
AreWide widths delays =
    (u : ℕ)
    → u < length delays
    → All (λ e. (shown e).width ≡ slice_index widths u) (elements_of (delays_at delays u))

-- how many of these delays are rings
abbrev pub ring_delays : List Element → ℕ
ring_delays [] = 0
ring_delays (Register s ∷ es) = ring_delays es
ring_delays (Ring r ∷ es) = 1 + ring_delays es

-- whether net n is the register of one of these delays
abbrev pub is_register_of : List Element → ℕ → Bool
is_register_of [] n = false
is_register_of (e ∷ es) n = nat_eq (reg_of e) n || is_register_of es n

-- whether memory k is that of one of these delays
abbrev pub is_memory_of : List Element → ℕ → Bool
is_memory_of [] k = false
is_memory_of (e ∷ es) k = is_number (mem_of e) k || is_memory_of es k

-- the delays stand in the module, nothing writes them yet, and their registers and memories have
-- rising numbers
pub record AreFreeIn (m : Module) (es : List Element) : Type 0 where
  pub reg : ℕ
  pub mem : ℕ
  pub nets : ℕ
  pub mems : ℕ
  pub free : AreFree m reg mem es nets mems

-- each register of the new module is that of one of these delays or was one of the old one
abbrev pub AddsRegistersOf : Module → Module → List Element → Type 0
AddsRegistersOf old new es =
    (n : ℕ) → is_reg new n ≡ true → is_register_of es n ≡ false → is_reg old n ≡ true
