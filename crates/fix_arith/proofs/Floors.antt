-- Quotients rounded down, and what they leave.
use Rattle.std.proofs.Common.{◌≡◌, ℕ, ◌+◌, ◌-◌, ◌*◌, ◌/◌, ◌%◌, ◌<◌, arith, ap, ◌∙◌, ℤ, pos, negsuc, ◌+ℤ◌, ◌*ℤ◌, unsigned_abs}
use Rattle.std.proofs.lemmas.Nat.{div-mul-add, mod-mul-add}
use Rattle.std.specs.Int.{int_div_euclid, int_rem_euclid}
use borrow.Author.Differences.{up, down, same_in, same_out, sum_is_lem, product_is}

-- z is q times d and r more
abbrev pub Splits : ℤ → ℤ → ℕ → ℕ → Type 0
Splits z q d r = z ≡ q *ℤ pos d +ℤ pos r

parts : (z q : ℤ) (d r : ℕ) → Splits z q d r → up z + down q * d ≡ up q * d + r + down z
parts z q d r e = omega (arith, same_out, sum_is_lem, product_is)

floor_is_below : (n m d r : ℕ) → r < d → n + r + 1 ≡ (m + 1) * d → (n / d ≡ m) × (n % d ≡ d - 1 - r)
floor_is_below n m d r h e =
    let is : n ≡ m * d + (d - 1 - r) = omega arith in
    (ap (λ x. x / d) is ∙ div-mul-add m d (d - 1 - r) (omega arith), ap (λ x. x % d) is ∙ mod-mul-add m d (d - 1 - r) (omega arith))

-- the split is the only one
pub floor_is : (z q : ℤ) (d r : ℕ) → r < d → Splits z q d r → (int_div_euclid z (pos d) ≡ q) × (int_rem_euclid z (pos d) ≡ pos r)
floor_is (pos n) (pos m) d r h e =
    let is : n ≡ m * d + r = omega (arith, parts (pos n) (pos m) d r e) in
    (ap pos (ap (λ x. x / d) is ∙ div-mul-add m d r h), ap pos (ap (λ x. x % d) is ∙ mod-mul-add m d r h))
floor_is (pos n) (negsuc m) d r h e = absurd (omega (arith, parts (pos n) (negsuc m) d r e))
floor_is (negsuc n) (pos m) d r h e = absurd (omega (arith, parts (negsuc n) (pos m) d r e))
floor_is (negsuc n) (negsuc m) d r h e =
    let both = floor_is_below n m d r h (omega (arith, parts (negsuc n) (negsuc m) d r e)) in
    (ap negsuc both.0, ap pos (omega (arith, both.1)))

-- every number splits
pub splits : (z : ℤ) (d : ℕ) → 0 < d → Splits z (int_div_euclid z (pos d)) d (unsigned_abs (int_rem_euclid z (pos d)))
splits (pos n) d h = omega (arith, same_in, sum_is_lem, product_is)
splits (negsuc n) d h = omega (arith, same_in, sum_is_lem, product_is)

pub rest_below : (z : ℤ) (d : ℕ) → 0 < d → unsigned_abs (int_rem_euclid z (pos d)) < d
rest_below (pos n) d h = omega arith
rest_below (negsuc n) d h = omega arith
