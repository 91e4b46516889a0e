-- Words and the numbers that they stand for.
use Rattle.std.proofs.Common.{ℤ, subst, pow_pos, Bool, unsigned_abs, ◌≡◌, ◌<◌, ◌≤◌, ◌+◌, ◌-◌, ◌*◌}
use Rattle.std.proofs.Common.{◌/◌, ◌%◌, ◌^◌, ℕ, arith, ap, sym, refl, ◌∙◌, pos, negsuc, ◌-ℤ◌, true}
use Rattle.std.proofs.Common.{false, ◌&&◌, ◌==◌, nat_le, nat_lt, if◌then◌else◌, ⊎_elim}
use Rattle.std.proofs.lemmas.Bool.{cases_lt}
use Rattle.std.proofs.lemmas.Bool.Decides.{nat_tests}
use Rattle.std.proofs.lemmas.Nat.{pow-add, div-mul-add}
use Rattle.std.proofs.Math.Pow.{pow_mono}
use Rattle.std.proofs.Math.Nat.{div-eq_of_lt}
use Rattle.fix_arith.specs.declared.types.StreamType.{StreamType}
use Rattle.fix_arith.specs.Types.{width_of, is_signed, HasWidth}
use Rattle.fix_arith.specs.Values.{value_of, reduced, IsValue}
use Rattle.fix_arith.proofs.Residues.{reduced-value, reduced-pos, reduced-negsuc}
use borrow.Author.Differences.{same_in, sum_is_lem, neg_is, abs_is}

-- the low bits
pub low_bits : (n w : ℕ) → 1 ≤ w → n / 2 ^ 0 % 2 ^ (w - 1 - 0 + 1) ≡ reduced w (pos n)
low_bits n w h = let e : w - 1 - 0 + 1 ≡ w = omega arith in ap (λ k. n / 2 ^ 0 % 2 ^ k) e ∙ ap (λ k. k % 2 ^ w) (omega arith) ∙ sym (reduced-pos w n)

-- the bits of a number below 0 are those of its opposite, each turned
pub opposite : (w n a b : ℕ) → a ≡ reduced w (pos n) → b ≡ 2 ^ w - 1 - a → b ≡ reduced w (negsuc n)
opposite w n a b e f = f ∙ ap (λ k. 2 ^ w - 1 - k) (e ∙ reduced-pos w n) ∙ sym (reduced-negsuc w n)

-- a shift past the last bit
pub shifting : (n k : ℕ) → n < 2 ^ 128 → (if nat_lt k 128 then n / 2 ^ k else 0) ≡ n / 2 ^ k
shifting n k h =
    ⊎_elim
    (λ low. let test : nat_lt k 128 ≡ true = grind (arith, nat_tests) in ap (λ b. if b then n / 2 ^ k else 0) test)
    (λ high. let test : nat_lt k 128 ≡ false = grind (
      arith,
      nat_tests,
    ) in let most : 2 ^ 128 ≤ 2 ^ k = pow_mono high in let none : n / 2 ^ k
    ≡ 0 = div-eq_of_lt (omega arith) in ap (λ b. if b then n / 2 ^ k else 0) test ∙ sym none)
    (cases_lt k 128)

twice_half : (w : ℕ) → 1 ≤ w → 2 ^ w ≡ 2 ^ (w - 1) * 2
twice_half w h = ap (λ k. 2 ^ k) (omega arith) ∙ pow-add 2 (w - 1) 1

-- the top bit tells which words are below 0
pub top_bit : (w bits : ℕ) → 1 ≤ w → bits < 2 ^ w → bits / 2 ^ (w - 1) == 1 ≡ nat_le (2 ^ (w - 1)) bits
top_bit w bits h fits =
    let twice = twice_half w h in
    ⊎_elim
    (λ low. let none : bits / 2 ^ (w - 1) ≡ 0 = div-eq_of_lt low in grind (arith, nat_tests))
    (λ high. let more : bits ≡ 1 * 2 ^ (w - 1) + (bits - 2 ^
    (w - 1)) = omega arith in let one : bits / 2 ^ (w - 1) ≡ 1 = ap
    (λ k. k / 2 ^ (w - 1)) more ∙ div-mul-add 1 (2 ^ (w - 1)) (bits - 2 ^ (w - 1))
    (omega arith) in grind (arith, nat_tests))
    (cases_lt bits (2 ^ (w - 1)))

pub below_zero : (t : StreamType) (bits : ℕ) → bits < 2 ^ width_of t → is_signed t && nat_le (2 ^ (width_of t - 1)) bits ≡ true → negsuc (2 ^ width_of t - 1 - bits) ≡ value_of t bits
unfolding value_of
below_zero t bits fits e =
    let turned : pos bits -ℤ pos (2 ^ width_of t) ≡ negsuc (2 ^ width_of t - 1 - bits) = omega (arith, same_in, sum_is_lem, neg_is) in
    sym (rw e turned)

pub from_zero : (t : StreamType) (bits : ℕ) → is_signed t && nat_le (2 ^ (width_of t - 1)) bits ≡ false → pos bits ≡ value_of t bits
unfolding value_of
from_zero t bits e = sym (rw e refl)

size_below_zero : (bits half whole : ℕ) → 0 < half → half ≤ bits → bits < whole → unsigned_abs (pos bits -ℤ pos whole) < whole
size_below_zero bits half whole some high fits = omega (arith, sum_is_lem, neg_is, abs_is)

-- the size of a word's number
pub size_of_value : (t : StreamType) (bits : ℕ) → 1 ≤ width_of t → bits < 2 ^ width_of t → unsigned_abs (value_of t bits) < 2 ^ width_of t
unfolding value_of
size_of_value t bits some fits =
    elim (is_signed t) as (λ (s : Bool). unsigned_abs (if s && nat_le (2 ^ (width_of t - 1)) bits then pos bits -ℤ pos (2 ^ width_of t) else pos bits) < 2 ^ width_of t) [
      | true ↦ ⊎_elim
          (λ low. let test : nat_le (2 ^ (width_of t - 1)) bits ≡ false = grind (arith, nat_tests) in rw test fits)
          (λ high. let test : nat_le (2 ^ (width_of t - 1)) bits ≡ true = grind (
            arith,
            nat_tests,
          ) in rw test (size_below_zero bits (2 ^ (width_of t - 1))
          (2 ^ width_of t) (pow_pos (width_of t - 1)) high fits))
          (cases_lt bits (2 ^ (width_of t - 1)))
      | false ↦ fits
    ]

-- a word that isn't 0 has a number that isn't 0
pub some_value : (t : StreamType) (bits : ℕ) → 0 < bits → bits < 2 ^ width_of t → 0 < unsigned_abs (value_of t bits)
unfolding value_of
some_value t bits some fits =
    elim (is_signed t && nat_le (2 ^ (width_of t - 1)) bits) as (λ (s : Bool). 0 < unsigned_abs (if s then pos bits -ℤ pos (2 ^ width_of t) else pos bits)) [
      | true ↦ omega (arith, sum_is_lem, neg_is, abs_is)
      | false ↦ some
    ]

-- a number that some word has is small, and the word that it becomes has it
pub size_of_is_value : (t : StreamType) (z : ℤ) → HasWidth t → IsValue t z → unsigned_abs z < 2 ^ 128
size_of_is_value t z w v =
    let size : unsigned_abs (value_of t v.0) < 2 ^ width_of t = size_of_value t v.0 w.0 v.1 in
    let most : 2 ^ width_of t ≤ 2 ^ 128 = pow_mono w.1 in
    subst (λ x. unsigned_abs x < 2 ^ 128) v.2 (omega arith)

pub read_back : (t : StreamType) (z : ℤ) → IsValue t z → value_of t (reduced (width_of t) z) ≡ z
read_back t z v = ap (value_of t) (ap (reduced (width_of t)) (sym v.2) ∙ reduced-value t v.0 v.1) ∙ v.2

pub ruleset reading = (below_zero, from_zero)

pub ruleset sizes = (size_of_value, some_value)
