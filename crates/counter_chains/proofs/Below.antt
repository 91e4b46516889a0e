-- The bits of a chain's word that stand below a counter.
use Rattle.std.proofs.Common.{◌≡◌, ◌+◌, ◌<◌, ◌≤◌, List, [], ◌∷◌, ℕ, zero, suc, length, get_or, drop, Some, refl, arith}
use Rattle.std.specs.Prelude.{slice_get}
use Rattle.counter_chains.specs.declared.digits.CounterDigit.{CounterDigit}
use Rattle.counter_chains.specs.Chains.{bits_of, bits_below}

-- the next counter is one of those that are left
pub bits_next : (digits : List CounterDigit) (i : ℕ) (d : CounterDigit) → i < length digits
    → bits_of (drop i digits) ≡ (get_or digits i d).bits + bits_of (drop (suc i) digits)
bits_next [] i d h = absurd (omega arith)
bits_next (x ∷ digits) zero d h = refl
bits_next (x ∷ digits) (suc i) d h = bits_next digits i d (omega (arith, h))

pub none_left : (digits : List CounterDigit) (i : ℕ) → length digits ≤ i → bits_of (drop i digits) ≡ 0
none_left [] zero h = refl
none_left [] (suc i) h = refl
none_left (x ∷ digits) zero h = absurd (omega (arith, h))
none_left (x ∷ digits) (suc i) h = none_left digits i (omega (arith, h))

pub later_bits : (digits : List CounterDigit) (place : ℕ) → place < length digits → bits_of (drop (suc place) digits) ≡ bits_below digits place
later_bits [] place h = absurd (omega arith)
later_bits (x ∷ digits) zero h = refl
later_bits (x ∷ digits) (suc place) h = later_bits digits place (omega (arith, h))

pub below_most : (digits : List CounterDigit) (place : ℕ) → bits_below digits place ≤ bits_of digits
below_most [] place = omega arith
below_most (x ∷ digits) zero = omega arith
below_most (x ∷ digits) (suc place) = let r = below_most digits place in omega (arith, r)

-- a counter and those below it have at most all bits
pub bits_within : (digits : List CounterDigit) (place : ℕ) (d : CounterDigit) → slice_get digits place ≡ Some d
    → bits_below digits place + d.bits ≤ bits_of digits
bits_within [] place d e = absurd (cc)
bits_within (x ∷ digits) zero d e = let same : x.bits ≡ d.bits = cc in omega (arith, same)
bits_within (x ∷ digits) (suc place) d e = let r = bits_within digits place d e in omega (arith, r)
