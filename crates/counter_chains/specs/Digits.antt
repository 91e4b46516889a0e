-- Counters: their values, and the bits of these. A counter is called a digit, as one of a chain is.
use Rattle.std.specs.Prelude.{◌≡◌, ◌⊎◌, ◌≤◌, ◌<◌, ℕ, zero, suc, ◌+◌, ◌-◌, ◌*◌, ◌/◌, ◌^◌, nat_lt, if◌then◌else◌, ℤ, pos, ◌<ℤ◌, ◌≤ℤ◌}
use Rattle.std.specs.Prelude.{Option, Some, None, Result, Ok, Err}
use Rattle.counter_chains.specs.declared.digits.CounterDigit.{CounterDigit}
use Rattle.counter_chains.specs.declared.digits.CounterError.{CounterError}
use Rattle.counter_chains.specs.declared.digits.CounterError.TheVariants.{CounterRange, IncRange}

-- the least number of bits that holds a number, and at least one, looked for from so many and one downwards
unfoldable pub bits_up_to : ℕ → ℕ → ℕ
bits_up_to zero n = 1
bits_up_to (suc more) n = if nat_lt n (2 ^ suc more) then bits_up_to more n else suc (suc more)

-- the least number of bits that holds a number below 2^128, and at least one
abbrev pub least_bits : ℕ → ℕ
least_bits n = bits_up_to 127 n

-- these are the fewest bits that hold the number, and at least one
pub record IsLeastBits (n bits : ℕ) : Type 0 where
  pub some : 1 ≤ bits
  pub holds : n < 2 ^ bits
  pub least : (fewer : ℕ) → 1 ≤ fewer → n < 2 ^ fewer → bits ≤ fewer

-- the values are the multiples of inc from 0 on that are below max, in the fewest bits that hold max - 1
pub record CountsBelow (max inc : ℤ) (d : CounterDigit) : Type 0 where
  pub step : pos d.inc ≡ inc
  pub multiple : (n : ℕ) × (d.last ≡ n * d.inc)
  pub below : pos d.last <ℤ max
  pub greatest : max ≤ℤ pos (d.last + d.inc)
  pub bits : (greatest : ℕ) → pos (suc greatest) ≡ max → IsLeastBits greatest d.bits

-- the counter of a chain, for a bound of its values, at most 2^31, and a step, or why there is none
abbrev pub digit_of : ℤ → ℤ → Result CounterDigit CounterError
digit_of (pos (suc greatest)) (pos (suc less)) = if nat_lt greatest (2 ^ 31) then Ok (record
    { last = greatest / suc less * suc less; inc = suc less; bits = least_bits greatest })
    else Err (CounterRange (pos (suc greatest)) 31)
digit_of (pos (suc greatest)) inc = Err (IncRange inc)
digit_of max inc = Err (CounterRange max 31)

-- the counter by itself, for a number of bits and maybe a bound of its values, or why there is none
abbrev pub simple_of : ℕ → Option ℤ → Result CounterDigit CounterError
simple_of bits None = Ok (record { last = 2 ^ bits - 1; inc = 1; bits = bits })
simple_of bits (Some (pos (suc greatest))) = if nat_lt greatest (2 ^ bits) then Ok
    (record { last = greatest; inc = 1; bits = bits }) else Err (CounterRange (pos (suc greatest)) bits)
simple_of bits (Some max) = Err (CounterRange max bits)

-- a counter that one of the two gives
abbrev pub IsDigit : CounterDigit → Type 0
IsDigit d = ((max : ℤ) × (inc : ℤ) × (digit_of max inc ≡ Ok d)) ⊎
    ((bits : ℕ) × (max : Option ℤ) × (1 ≤ bits) × (bits ≤ 128) × (simple_of bits max ≡ Ok d))
