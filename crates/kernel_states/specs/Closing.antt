-- Registers of states that step.
use Rattle.std.specs.Prelude.{
  ◌≡◌,
  ℕ,
  ◌+◌,
  ◌*◌,
  ◌<◌,
  ◌≤◌,
  true,
  false,
  if◌then◌else◌,
  nat_eq,
  List,
  [],
  ◌∷◌,
  length,
  Option,
  Some,
  None,
  slice_index_or,
}
use Rattle.counter_chains.specs.Chains.{chain_at}
use Rattle.rtl_ir.specs.declared.design.Module.{Module}
use Rattle.rtl_ir.specs.Value.{Family, Contents}
use Rattle.rtl_ir.specs.Grow.{Holds}
use Rattle.rtl_build.specs.declared.signal.Signal.{Signal}
use Rattle.rtl_delays.specs.Steps.{Step, writes_reg, writes_mem}
use Rattle.rtl_delays.specs.Extends.{Extends, AddsNoRegister, KeepsStill, LeavesFree}
use Rattle.rtl_delays.specs.Driven.{KeepsUndriven}
use Rattle.rtl_delays.specs.Stored.{stored_bits}
use Rattle.stream_graph.specs.declared.node.Kind.TheVariants as K
use Rattle.stream_graph.specs.declared.node.Node.{Node}
use Rattle.stream_graph.specs.LookUps.{kind_at, width_at, digits_at}
use Rattle.kernel_control.specs.Nets.{HasWidth}
use Rattle.kernel_refinement.specs.States.{IsCounter, IsKeeper, IsPosition, IsStepping}
use Rattle.kernel_states.specs.declared.registers.AdvanceNets.{AdvanceNets}
use Rattle.kernel_types.specs.Types.{counts}
use Rattle.kernel_states.specs.Stepping.{state_after}
use Rattle.kernel_states.specs.States.{has_state, step_nets, state_at, is_state_of}

-- the nets are bits, and the position has 48
pub record AreAdvanceNets (m : Module) (nets : AdvanceNets) : Type 0 where
  pub run : HasWidth m 1 nets.run
  pub reset : HasWidth m 1 nets.reset
  pub position : HasWidth m 48 nets.position

-- what stands past the last signal
abbrev pub no_signal : Signal
no_signal = record { net = 0; width = 0 }

-- the word of a node
abbrev pub word_at : List Signal → ℕ → Signal
word_at words n = slice_index_or words n no_signal

-- The register takes a net's word where another net is 1, and a reset edge clears it.
pub record IsClearable (m : Module) (enable reset value register : ℕ) : Type 0 where
  pub cleared :
      (c : Contents) (f : Family) (d : Contents)
      → Step m c f d
      → f reset ≡ 1
      → d.regs register ≡ 0
  pub takes :
      (c : Contents) (f : Family) (d : Contents)
      → Step m c f d
      → f reset ≡ 0
      → d.regs register ≡ if nat_eq (f enable) 1 then f value else c.regs register

-- A register that nothing wrote is written now, by at most so many wires more, and nothing else was
-- added. Where `run` and `reset` are 0 it isn't.
pub record ClosesRegister (old new : Module) (run reset register most : ℕ) : Type 0 where
  pub extends : Extends old new
  pub still : KeepsStill old new run reset
  pub others : LeavesFree old new register None
  pub written : writes_reg register new.updates ≡ true
  pub registers : AddsNoRegister old new
  pub undriven : KeepsUndriven old new
  pub stored : stored_bits new ≡ stored_bits old
  pub nets : length new.nets ≤ length old.nets + most
  pub mems : new.mems ≡ old.mems

-- the word of each hold is a signal of the module, of its node's width
abbrev pub HaveWords : Module → List Node → List Signal → Type 0
HaveWords m nodes words =
    (n : ℕ)
    → n < length nodes
    → kind_at nodes n ≡ K.Hold
    → (n < length words) × HasWidth m (width_at nodes n) (word_at words n)

-- of registers and memories that were not written, no others are written than these registers
pub record LeavesOthers (old new : Module) (states : List (Option Signal)) : Type 0 where
  pub regs :
      (n : ℕ)
      → writes_reg n old.updates ≡ false
      → is_state_of states n ≡ false
      → writes_reg n new.updates ≡ false
  pub mems : (k : ℕ) → writes_mem k old.updates ≡ false → writes_mem k new.updates ≡ false

-- A counter or a chain has at each advance the word of its tick, from its time on, where the
-- position counts the advances.
abbrev pub AreCounters :
    Module → List Node → (ℕ → ℕ) → AdvanceNets → List (Option Signal) → Type 0
AreCounters m nodes times nets states =
    (n : ℕ) (s : Signal)
    → n < length nodes
    → counts (kind_at nodes n) ≡ true
    → state_at states n ≡ Some s
    → IsPosition m nets.run.net nets.reset.net nets.position.net
    → IsCounter m nets.run.net nets.reset.net s.net (times n) (chain_at (digits_at nodes n))

-- The register of a hold keeps what a net has at the advances at which another net is 1, where the
-- hold's word is that net's there and else the register's.
abbrev pub AreKeepers :
    Module → List Node → List Signal → AdvanceNets → List (Option Signal) → Type 0
AreKeepers m nodes words nets states =
    (n on from : ℕ) (s : Signal)
    → n < length nodes
    → kind_at nodes n ≡ K.Hold
    → state_at states n ≡ Some s
    → ((c : Contents) (f : Family)
    → Holds m c f
    → f (word_at words n).net ≡ if nat_eq (f on) 1 then f from else f s.net)
    → IsKeeper m nets.run.net nets.reset.net on from s.net

-- The state of node number n steps, if the node keeps one: of a counter or a chain to its next word
-- at each advance from the node's time on, and of a hold to the word of a net at each advance. A
-- reset edge clears it. Nothing else was added but wires.
pub record ClosesState (old new : Module) (nodes : List Node) (n time : ℕ) (word : Signal)
    (by : AdvanceNets) (state : Option Signal) : Type 0
  where
    pub extends : Extends old new
    pub still : KeepsStill old new by.run.net by.reset.net
    pub others : LeavesOthers old new (state ∷ [])
    pub written : (k : ℕ) → is_state_of (state ∷ []) k ≡ true → writes_reg k new.updates ≡ true
    pub registers : AddsNoRegister old new
    pub undriven : KeepsUndriven old new
    pub stored : stored_bits new ≡ stored_bits old
    pub nets :
        length new.nets
        ≤ length old.nets
        + (if has_state (kind_at nodes n) then 10 * length (digits_at nodes n) + 8 else 0)
    pub mems : new.mems ≡ old.mems
    pub steps :
        (s : Signal)
        → state ≡ Some s
        → counts (kind_at nodes n) ≡ true
        → IsStepping new by.run.net by.reset.net by.position.net time
        (state_after (digits_at nodes n)) s.net
    pub takes :
        (s : Signal)
        → state ≡ Some s
        → kind_at nodes n ≡ K.Hold
        → IsClearable new by.run.net by.reset.net word.net s.net

-- The states of these nodes step: a hold's register takes the hold's word at each advance, and a
-- counter's its next word at each advance from the node's time on. A reset edge clears them.
pub record ClosesStates (old new : Module) (nodes : List Node) (times : ℕ → ℕ)
    (words : List Signal) (by : AdvanceNets) (states : List (Option Signal)) : Type 0
  where
    pub extends : Extends old new
    pub still : KeepsStill old new by.run.net by.reset.net
    pub others : LeavesOthers old new states
    pub written : (n : ℕ) → is_state_of states n ≡ true → writes_reg n new.updates ≡ true
    pub registers : AddsNoRegister old new
    pub undriven : KeepsUndriven old new
    pub stored : stored_bits new ≡ stored_bits old
    pub nets : length new.nets ≤ length old.nets + step_nets nodes
    pub mems : new.mems ≡ old.mems
    pub counters : AreCounters new nodes times by states
    pub keepers : AreKeepers new nodes words by states
