-- The least number of bits of a number, as it is computed and as the modules of FIFOs have it.
use Rattle.std.proofs.Common.{◌≡◌, ℕ, zero, suc, ◌-◌, ◌<◌, ◌≤◌, ◌^◌, ⊎_elim, refl, arith}
use Rattle.std.specs.Prelude.{Bool, true, false, nat_lt, if◌then◌else◌}
use Rattle.std.proofs.Math.Nat.{pow-le-pow_right}
use Rattle.std.proofs.lemmas.Bool.{cases_lt}
use Rattle.std.proofs.lemmas.Bool.Decides.{nat_tests}
use Rattle.counter_chains.specs.Digits.{bits_up_to, least_bits}
use Rattle.link_fifo.specs.Numbers.{IsLeast}

-- there is one bit at least
some_bits : (n bits : ℕ) → n < 2 ^ bits → 2 ^ (bits - 1) ≤ n → 1 ≤ bits
some_bits n zero h r = absurd (omega (arith, h, r))
some_bits n (suc bits) h r = omega arith

-- a number below a power of two has no more bits
fewer_bits : (n bits k : ℕ) → IsLeast bits n → n < 2 ^ k → bits ≤ k
fewer_bits n bits k least low =
    let reached = least.least in
    ⊎_elim
    (λ (lt : k < bits). let e : 2 ^ k ≤ 2 ^ (bits - 1) = pow-le-pow_right (omega arith) (omega (arith, lt)) in absurd (omega (arith, reached, low, e)))
    (λ (ge : bits ≤ k). ge)
    (cases_lt k bits)

-- one that isn't below it has more
more_bits : (n bits k : ℕ) → IsLeast bits n → 2 ^ k ≤ n → k < bits
more_bits n bits k least high =
    let holds = least.holds in
    ⊎_elim
    (λ (lt : k < bits). lt)
    (λ (ge : bits ≤ k). let e : 2 ^ bits ≤ 2 ^ k = pow-le-pow_right (omega arith) ge in absurd (omega (arith, holds, high, e)))
    (cases_lt k bits)

tested : (k n bits : ℕ) → IsLeast bits n → bits ≤ suc (suc k) → (bits ≤ suc k → bits_up_to k n ≡ bits)
    → (b : Bool) → nat_lt n (2 ^ suc k) ≡ b → (if b then bits_up_to k n else suc (suc k)) ≡ bits
tested k n bits least h fewer true e =
    let low : n < 2 ^ suc k = grind (arith, nat_tests) in
    fewer (fewer_bits n bits (suc k) least low)
tested k n bits least h fewer false e =
    let high : 2 ^ suc k ≤ n = grind (arith, nat_tests) in
    let more = more_bits n bits (suc k) least high in
    omega (arith, h, more)

up_to_is : (k n bits : ℕ) → IsLeast bits n → bits ≤ suc k → bits_up_to k n ≡ bits
unfolding bits_up_to
up_to_is zero n bits least h = let some = some_bits n bits least.holds least.least in omega (arith, some, h)
up_to_is (suc k) n bits least h = tested k n bits least h (λ fewer. up_to_is k n bits least fewer) (nat_lt n (2 ^ suc k)) refl

-- so both are one for a number below 2^128
pub least_are : (bits n : ℕ) → IsLeast bits n → n < 2 ^ 128 → least_bits n ≡ bits
least_are bits n least small = up_to_is 127 n bits least (fewer_bits n bits 128 least small)
