-- Numbers that differ by a multiple of two to the width become one word.
use Rattle.std.proofs.Common.{subst, ◌≡◌, ℕ, ◌+◌, ◌-◌, ◌*◌, ◌%◌, ◌^◌, ◌<◌, arith, ap, sym, refl}
use Rattle.std.proofs.Common.{◌∙◌, ℤ, pos, negsuc, ◌+ℤ◌, ◌-ℤ◌, ◌*ℤ◌, neg_ℤ, unsigned_abs, Bool}
use Rattle.std.proofs.Common.{true, false, ◌&&◌, nat_le, if◌then◌else◌}
use Rattle.std.proofs.lemmas.Nat.{pow_pos}
use Rattle.std.proofs.Math.Nat.{mod-eq_of_lt}
use Rattle.std.specs.Int.{int_div_euclid, int_rem_euclid}
use Rattle.fix_arith.specs.declared.types.StreamType.{StreamType}
use Rattle.fix_arith.specs.Types.{width_of, is_signed}
use Rattle.fix_arith.specs.Values.{value_of, reduced}
use Rattle.fix_arith.proofs.Floors.{floor_is, splits, rest_below}
use Rattle.fix_arith.proofs.Signed.{mul_sum, mul_assoc, neg_mul}
use borrow.Author.Differences.{same_in, same_out, sum_is_lem, neg_is, product_is}
use lib.IntN.{*ℤ_comm}

-- z is y and t times m more
abbrev pub Beyond : ℕ → ℤ → ℤ → ℤ → Type 0
Beyond m z y t = z ≡ y +ℤ t *ℤ pos m

pub reduced-beyond : (w : ℕ) (z y t : ℤ) → Beyond (2 ^ w) z y t → reduced w z ≡ reduced w y
unfolding reduced
reduced-beyond w z y t e =
    let some = pow_pos w in
    let q = int_div_euclid y (pos (2 ^ w)) in
    let r = unsigned_abs (int_rem_euclid y (pos (2 ^ w))) in
    let split = splits y (2 ^ w) some in
    ap unsigned_abs (floor_is z (q +ℤ t) (2 ^ w) r (rest_below y (2 ^ w) some) (omega (arith, same_in, same_out, sum_is_lem, product_is, split, e, mul_sum q t (pos (2 ^ w))))).1

pub reduced-pos : (w n : ℕ) → reduced w (pos n) ≡ n % 2 ^ w
unfolding reduced
reduced-pos w n = refl

pub reduced-negsuc : (w n : ℕ) → reduced w (negsuc n) ≡ 2 ^ w - 1 - n % 2 ^ w
unfolding reduced
reduced-negsuc w n = refl

pub reduced-lt : (w : ℕ) (z : ℤ) → reduced w z < 2 ^ w
unfolding reduced
reduced-lt w z = rest_below z (2 ^ w) (pow_pos w)

-- a word's number lies some multiple of 2 to the width from its bits
pub value_beyond : (t : StreamType) (bits : ℕ) → (j : ℤ) × Beyond (2 ^ width_of t) (value_of t bits) (pos bits) j
unfolding value_of
value_beyond t bits =
    elim (is_signed t && nat_le (2 ^ (width_of t - 1)) bits) as (λ (b : Bool). (j : ℤ) × Beyond (2 ^ width_of t) (if b then pos bits -ℤ pos (2 ^ width_of t) else pos bits) (pos bits) j) [
      | true ↦ (negsuc 0, omega (arith, same_in, sum_is_lem, neg_is, product_is))
      | false ↦ (pos 0, omega (arith, same_in, sum_is_lem, product_is))
    ]

times_beyond : (m : ℕ) (z y t x : ℤ) → Beyond m z y t → Beyond m (z *ℤ x) (y *ℤ x) (t *ℤ x)
times_beyond m z y t x e =
    ap (λ k. k *ℤ x) e ∙ mul_sum y (t *ℤ pos m) x ∙ ap (λ k. y *ℤ x +ℤ k) (mul_assoc t (pos m) x ∙ ap (λ k. t *ℤ k) (*ℤ_comm (pos m) x) ∙ sym (mul_assoc t x (pos m)))

pub reduced-value : (t : StreamType) (a : ℕ) → a < 2 ^ width_of t → reduced (width_of t) (value_of t a) ≡ a
reduced-value t a h =
    let j = value_beyond t a in
    reduced-beyond (width_of t) (value_of t a) (pos a) j.0 j.1 ∙ reduced-pos (width_of t) a ∙ mod-eq_of_lt h

pub reduced-times : (w : ℕ) (z y t x : ℤ) → Beyond (2 ^ w) z y t → reduced w (z *ℤ x) ≡ reduced w (y *ℤ x)
reduced-times w z y t x e = reduced-beyond w (z *ℤ x) (y *ℤ x) (t *ℤ x) (times_beyond (2 ^ w) z y t x e)

pub reduced-sum : (t : StreamType) (a b : ℕ) → reduced (width_of t) (value_of t a +ℤ value_of t b) ≡ (a + b) % 2 ^ width_of t
reduced-sum t a b =
    let w = width_of t in
    let j = value_beyond t a in
    let k = value_beyond t b in
    reduced-beyond w (value_of t a +ℤ value_of t b) (pos (a + b)) (j.0 +ℤ k.0) (omega (
      arith,
      same_in,
      same_out,
      sum_is_lem,
      product_is,
      j.1,
      k.1,
      mul_sum j.0 k.0 (pos (2 ^ w)),
    )) ∙ reduced-pos w (a + b)

pub reduced-difference : (t : StreamType) (a b : ℕ) → b < 2 ^ width_of t → reduced (width_of t) (value_of t a -ℤ value_of t b) ≡ (a + (2 ^ width_of t - b)) % 2 ^ width_of t
reduced-difference t a b h =
    let w = width_of t in
    let j = value_beyond t a in
    let k = value_beyond t b in
    reduced-beyond w (value_of t a -ℤ value_of t b) (pos (a + (2 ^ w - b)))
    (j.0 +ℤ neg_ℤ (k.0 +ℤ pos 1)) (omega (
      arith,
      same_in,
      same_out,
      sum_is_lem,
      neg_is,
      product_is,
      j.1,
      k.1,
      mul_sum j.0 (neg_ℤ (k.0 +ℤ pos 1)) (pos (2 ^ w)),
      neg_mul (k.0 +ℤ pos 1) (pos (2 ^ w)),
      mul_sum k.0 (pos 1) (pos (2 ^ w)),
    )) ∙ reduced-pos w (a + (2 ^ w - b))

pub reduced-product : (t : StreamType) (a b : ℕ) → reduced (width_of t) (value_of t a *ℤ value_of t b) ≡ (a * b) % 2 ^ width_of t
reduced-product t a b =
    let w = width_of t in
    let x = value_of t a in
    let y = value_of t b in
    let j = value_beyond t a in
    let k = value_beyond t b in
    reduced-times w x (pos a) j.0 y j.1
    ∙ ap (reduced w) (*ℤ_comm (pos a) y)
    ∙ reduced-times w y (pos b) k.0 (pos a) k.1
    ∙ ap (reduced w) (*ℤ_comm (pos b) (pos a))
    ∙ reduced-pos w (a * b)

-- what the calls on words give, as rows of the table
pub sum_bits : (t : StreamType) (a b w r : ℕ) → w ≡ width_of t → r ≡ (a + b) % 2 ^ w → r ≡ reduced (width_of t) (value_of t a +ℤ value_of t b)
sum_bits t a b w r e f = f ∙ ap (λ k. (a + b) % 2 ^ k) e ∙ sym (reduced-sum t a b)

pub difference_bits : (t : StreamType) (a b w r : ℕ) → w ≡ width_of t → b < 2 ^ w → r ≡ (a + (2 ^ w - b)) % 2 ^ w → r ≡ reduced (width_of t) (value_of t a -ℤ value_of t b)
difference_bits t a b w r e h f = f ∙ ap (λ k. (a + (2 ^ k - b)) % 2 ^ k) e ∙ sym (reduced-difference t a b (subst (λ k. b < 2 ^ k) e h))

pub negation_bits : (t : StreamType) (b w r : ℕ) → w ≡ width_of t → b < 2 ^ w → r ≡ (0 + (2 ^ w - b)) % 2 ^ w → r ≡ reduced (width_of t) (pos 0 -ℤ value_of t b)
negation_bits t b w r e h f =
    let k = value_beyond t b in
    f ∙ ap (λ x. (0 + (2 ^ x - b)) % 2 ^ x) e ∙ sym (reduced-pos (width_of t) (0 + (2 ^ width_of t - b)))
    ∙ sym (reduced-beyond (width_of t) (pos 0 -ℤ value_of t b) (pos (0 + (2 ^ width_of t - b)))
    (neg_ℤ (k.0 +ℤ pos 1)) (let fits : b < 2 ^ width_of t = subst
    (λ x. b < 2 ^ x) e h in omega (
      arith,
      same_in,
      same_out,
      sum_is_lem,
      neg_is,
      product_is,
      k.1,
      neg_mul (k.0 +ℤ pos 1) (pos (2 ^ width_of t)),
      mul_sum k.0 (pos 1) (pos (2 ^ width_of t)),
    )))

pub product_bits : (t : StreamType) (a b w r : ℕ) → w ≡ width_of t → r ≡ (a * b) % 2 ^ w → r ≡ reduced (width_of t) (value_of t a *ℤ value_of t b)
product_bits t a b w r e f = f ∙ ap (λ k. (a * b) % 2 ^ k) e ∙ sym (reduced-product t a b)

pub ruleset word_rows = (sum_bits, difference_bits, negation_bits, product_bits)
