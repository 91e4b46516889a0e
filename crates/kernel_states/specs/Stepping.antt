-- How the word of a chain of counters steps in hardware, where sums are reduced to the bits of a
-- counter.
use Rattle.std.specs.Prelude.{ℕ, ◌+◌, ◌*◌, ◌/◌, ◌%◌, ◌^◌, Bool, if◌then◌else◌, nat_eq, List, [], ◌∷◌}
use Rattle.counter_chains.specs.declared.digits.CounterDigit.{CounterDigit}
use Rattle.counter_chains.specs.Chains.{bits_of}
use Rattle.counter_chains.specs.Steps.{is_end}
use Rattle.rtl_ir.specs.declared.design.Module.{Module}
use Rattle.rtl_ir.specs.Value.{Family, bit}
use Rattle.rtl_build.specs.Signals.{Makes, HasSignal}
use Rattle.kernel_control.specs.Nets.{HasWidth}
use Rattle.kernel_states.specs.declared.counters.Stepped.{Stepped}
use Rattle.kernel_states.specs.declared.counters.Later.{Later}

-- the word of a counter after this one
abbrev pub word_after : CounterDigit → ℕ → ℕ
word_after d x = if nat_eq x d.last then 0 else (x + d.inc) % 2 ^ d.bits

-- The word of a chain after this one, the first counter in its high bits: the last one steps, and
-- each other one where all later ones are at their ends.
abbrev pub state_after : List CounterDigit → ℕ → ℕ
state_after [] x = 0
state_after (d ∷ later) x =
    (if is_end later (x % 2 ^ bits_of later)
    then word_after d (x / 2 ^ bits_of later % 2 ^ d.bits)
    else x / 2 ^ bits_of later % 2 ^ d.bits)
    * 2 ^ bits_of later
    + state_after later (x % 2 ^ bits_of later)

-- ---- the wires of counters

-- the word of a counter that stands in a word from a bit on
abbrev pub counter_in : CounterDigit → ℕ → ℕ → ℕ
counter_in d low x = x / 2 ^ low % 2 ^ d.bits

-- The wires of a counter whose word stands in a net's word from a bit on: at most 7 were added.
pub record MakesCounter (old new : Module) (d : CounterDigit) (low net : ℕ) (s : Stepped) : Type 0
  where
    pub word : Makes old new 7 d.bits (λ v. counter_in d low (v net)) s.word
    pub is_last : Makes old new 7 1 (λ v. bit (nat_eq (counter_in d low (v net)) d.last)) s.is_last
    pub next : Makes old new 7 d.bits (λ v. word_after d (counter_in d low (v net))) s.next

-- the wires of a counter stand in the module
pub record HasCounter (m : Module) (s : Stepped) : Type 0 where
  pub word : HasSignal m s.word
  pub is_last : HasWidth m 1 s.is_last
  pub next : HasWidth m s.word.width s.next

-- the wires of later counters stand in the module
pub record HasLater (m : Module) (l : Later) : Type 0 where
  pub next : HasSignal m l.next
  pub ended : HasWidth m 1 l.ended

-- The wires of later counters, whose words after these have w bits, and which are all at their
-- ends where a test holds: at most so many were added.
pub record MakesLater (old new : Module) (most w : ℕ) (after : Family → ℕ) (test : Family → Bool)
    (l : Later) : Type 0
  where
    pub next : Makes old new most w after l.next
    pub ended : Makes old new most 1 (λ v. bit (test v)) l.ended
