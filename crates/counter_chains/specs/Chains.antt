-- The words of counters and of chains of counters, tick by tick. A counter of a chain is a digit of
-- it. The first digit is the outermost one, which steps least often.
use Rattle.std.specs.Prelude.{
  ℕ,
  zero,
  suc,
  ◌+◌,
  ◌*◌,
  ◌/◌,
  ◌%◌,
  ◌^◌,
  List,
  [],
  ◌∷◌,
}
use Rattle.counter_chains.specs.declared.digits.CounterDigit.{CounterDigit}

-- how many values a digit has: the multiples of its step from 0 on, up to its last one
abbrev pub values_of : CounterDigit → ℕ
values_of d = d.last / d.inc + 1

-- its value number n, counted round
abbrev pub digit_at : CounterDigit → ℕ → ℕ
digit_at d n = d.inc * (n % values_of d)

-- in how many ticks digits go round once. The last one steps in each tick, and each other one where
-- all later ones begin again
abbrev pub round_of : List CounterDigit → ℕ
round_of [] = 1
round_of (d ∷ later) = values_of d * round_of later

abbrev pub bits_of : List CounterDigit → ℕ
bits_of [] = 0
bits_of (d ∷ later) = d.bits + bits_of later

-- the value at a tick of the digit of a place
abbrev pub part_at : List CounterDigit → ℕ → ℕ → ℕ
part_at [] place t = 0
part_at (d ∷ later) zero t = digit_at d (t / round_of later)
part_at (d ∷ later) (suc place) t = part_at later place t

-- all digits in one word, the first one in its high bits
abbrev pub chain_at : List CounterDigit → ℕ → ℕ
chain_at [] t = 0
chain_at (d ∷ later) t = digit_at d (t / round_of later) * 2 ^ bits_of later + chain_at later t

-- how many bits of such a word stand below the digit of a place
abbrev pub bits_below : List CounterDigit → ℕ → ℕ
bits_below [] place = 0
bits_below (d ∷ later) zero = bits_of later
bits_below (d ∷ later) (suc place) = bits_below later place
