-- One step of a chain of counters, by the word that has all its digits, the first one in its high
-- bits.
use Rattle.std.specs.Prelude.{
  ◌≡◌,
  ℕ,
  ◌+◌,
  ◌*◌,
  ◌/◌,
  ◌%◌,
  ◌^◌,
  ◌≤◌,
  Bool,
  true,
  ◌&&◌,
  if◌then◌else◌,
  nat_eq,
  List,
  [],
  ◌∷◌,
}
use Rattle.counter_chains.specs.declared.digits.CounterDigit.{CounterDigit}
use Rattle.counter_chains.specs.Chains.{bits_of}

-- a word is a value of a digit: a multiple of its step, up to its last one
pub record IsValue (d : CounterDigit) (x : ℕ) : Type 0 where
  pub multiple : (n : ℕ) × (x ≡ d.inc * n)
  pub most : x ≤ d.last

-- each part of a word is a value of its digit
abbrev pub IsState : List CounterDigit → ℕ → Type 0
IsState [] x = x ≡ 0
IsState (d ∷ later) x =
    IsValue d (x / 2 ^ bits_of later) × IsState later (x % 2 ^ bits_of later)

-- each part is the last value of its digit
abbrev pub is_end : List CounterDigit → ℕ → Bool
is_end [] x = true
is_end (d ∷ later) x =
    nat_eq (x / 2 ^ bits_of later) d.last && is_end later (x % 2 ^ bits_of later)

-- the value of a digit after this one
abbrev pub next_value : CounterDigit → ℕ → ℕ
next_value d x = if nat_eq x d.last then 0 else x + d.inc

-- the word after this one: the last digit steps, and each other one where all later ones are at
-- their ends
abbrev pub stepped : List CounterDigit → ℕ → ℕ
stepped [] x = 0
stepped (d ∷ later) x =
    (if is_end later (x % 2 ^ bits_of later) then next_value d (x / 2 ^ bits_of later)
    else x / 2 ^ bits_of later)
    * 2 ^ bits_of later
    + stepped later (x % 2 ^ bits_of later)
