-- Numbers in more bits and in fewer.
use Rattle.std.proofs.Common.{◌≡◌, ℕ, zero, suc, ◌+◌, ◌-◌, ◌*◌, ◌/◌, ◌%◌, ◌<◌, ◌≤◌, ◌^◌, Bool, true}
use Rattle.std.proofs.Common.{false, ◌&&◌, nat_le, if◌then◌else◌, refl, sym, ap, ◌∙◌, subst, arith}
use Rattle.std.proofs.Common.{⊎_elim, pow_pos, ℤ, pos, negsuc, neg_ℤ, ◌+ℤ◌, ◌-ℤ◌, ◌*ℤ◌}
use Rattle.std.proofs.Common.{unsigned_abs}
use Rattle.std.proofs.lemmas.Bool.{cases_lt}
use Rattle.std.proofs.lemmas.Bool.Decides.{nat_tests}
use Rattle.std.proofs.lemmas.Nat.{pow-add, mul-add-lt, div-mul-add, shr_split, mod_below, div-add-mod', le-div, shr_below}
use Rattle.std.proofs.Math.Nat.{mod-eq_of_lt, div-eq_of_lt, mul_comm, mul-le-mul_right}
use Rattle.std.proofs.Math.Pow.{pow_mono}
use Rattle.std.specs.Int.{int_rem_euclid}
use Rattle.fix_arith.specs.declared.types.StreamType.{StreamType}
use Rattle.fix_arith.specs.Types.{width_of, is_signed}
use Rattle.fix_arith.specs.Values.{value_of, reduced}
use Rattle.fix_arith.specs.Rounding.{floor_of}
use Rattle.fix_arith.proofs.Floors.{Splits, floor_is, splits, rest_below}
use Rattle.fix_arith.proofs.Residues.{Beyond, reduced-beyond, reduced-pos, reduced-negsuc, reduced-value, value_beyond}
use Rattle.fix_arith.proofs.Signed.{mul_sum, mul_assoc, neg_mul}
use Rattle.rtl_ir.specs.Value.{repeated, bit}
use Rattle.rtl_ops.specs.Orders.{is_below_zero}
use Rattle.rtl_ops.proofs.Ranks.{twice_half}
use borrow.Author.Differences.{same_in, sum_is_lem, neg_is, product_is}

-- a word's number
pub value_below : (t : StreamType) (a : ℕ) → is_below_zero t a ≡ true → value_of t a ≡ pos a -ℤ pos (2 ^ width_of t)
unfolding value_of
value_below t a e = rw e refl

pub value_from : (t : StreamType) (a : ℕ) → is_below_zero t a ≡ false → value_of t a ≡ pos a
unfolding value_of
value_from t a e = rw e refl

-- what is left of a number of w bits, rounded down, past all of its bits
past_all : (a m : ℕ) → a < m → floor_of (pos a -ℤ pos m) m ≡ negsuc 0
past_all a m lt = (floor_is (pos a -ℤ pos m) (negsuc 0) m a lt (omega (arith, same_in, sum_is_lem, neg_is, product_is))).0

pub floor_past : (t : StreamType) (a : ℕ) → a < 2 ^ width_of t → floor_of (value_of t a) (2 ^ width_of t) ≡ (if is_below_zero t a then negsuc 0 else pos 0)
floor_past t a lt =
    elim (is_below_zero t a) as (λ (b : Bool). is_below_zero t a ≡ b → floor_of (value_of t a) (2 ^ width_of t) ≡ (if b then negsuc 0 else pos 0)) [
      | true ↦ λ e. ap (λ z. floor_of z (2 ^ width_of t)) (value_below t a e) ∙ past_all a (2 ^ width_of t) lt
      | false ↦ λ e. ap (λ z. floor_of z (2 ^ width_of t)) (value_from t a e) ∙ ap pos (div-eq_of_lt lt)
    ] refl

pub reduced-zero : (w : ℕ) → reduced w (pos 0) ≡ 0
reduced-zero w = reduced-pos w 0 ∙ mod-eq_of_lt (pow_pos w)

pub reduced-minus_one : (w : ℕ) → reduced w (negsuc 0) ≡ 2 ^ w - 1
reduced-minus_one w = reduced-negsuc w 0 ∙ ap (λ k. 2 ^ w - 1 - k) (mod-eq_of_lt (pow_pos w)) ∙ omega arith

-- the bits before an unsigned number
pub unsigned_bits : (t : StreamType) (a w : ℕ) → is_signed t ≡ false → a < 2 ^ width_of t → 0 ≡ reduced w (floor_of (value_of t a) (2 ^ width_of t))
unsigned_bits t a w s lt = sym (ap (reduced w) (floor_past t a lt ∙ ap (λ b. if b && nat_le (2 ^ (width_of t - 1)) a then negsuc 0 else pos 0) s) ∙ reduced-zero w)

repeated_ones : (k : ℕ) → repeated k 1 1 ≡ 2 ^ k - 1
repeated_ones zero = refl
repeated_ones (suc k) =
    let some = pow_pos k in
    let e : 2 ^ suc k ≡ 2 ^ k * 2 = ap (λ j. 2 ^ j) (omega arith) ∙ pow-add 2 k 1 in
    ap (λ n. n * 2 ^ 1 + 1) (repeated_ones k) ∙ omega arith

repeated_zeros : (k : ℕ) → repeated k 1 0 ≡ 0
repeated_zeros zero = refl
repeated_zeros (suc k) = ap (λ n. n * 2 ^ 1 + 0) (repeated_zeros k) ∙ omega arith

repeated_bit : (k : ℕ) (b : Bool) → repeated k 1 (bit b) ≡ reduced k (if b then negsuc 0 else pos 0)
repeated_bit k true = repeated_ones k ∙ sym (reduced-minus_one k)
repeated_bit k false = repeated_zeros k ∙ sym (reduced-zero k)

-- the top bit
pub top_bit : (a w : ℕ) → 1 ≤ w → a < 2 ^ w → (a / 2 ^ (w - 1)) % 2 ^ (w - 1 + 1 - (w - 1)) ≡ bit (nat_le (2 ^ (w - 1)) a)
top_bit a w some lt =
    let twice = twice_half w some in
    let one : w - 1 + 1 - (w - 1) ≡ 1 = omega arith in
    ap (λ k. (a / 2 ^ (w - 1)) % 2 ^ k) one
    ∙ ⊎_elim
    (λ (low : a < 2 ^ (w - 1)).
    let none : a / 2 ^ (w - 1) ≡ 0 = div-eq_of_lt low in
    let test : nat_le (2 ^ (w - 1)) a ≡ false = grind (arith, nat_tests) in
    ap (λ k. k % 2 ^ 1) none ∙ ap bit (sym test))
    (λ (high : 2 ^ (w - 1) ≤ a).
    let more : a ≡ 1 * 2 ^ (w - 1) + (a - 2 ^ (w - 1)) = omega arith in
    let one : a / 2 ^ (w - 1) ≡ 1 = ap (λ k. k / 2 ^ (w - 1)) more ∙ div-mul-add 1 (2 ^ (w - 1)) (a - 2 ^ (w - 1)) (omega arith) in
    let test : nat_le (2 ^ (w - 1)) a ≡ true = grind (arith, nat_tests) in
    ap (λ k. k % 2 ^ 1) one ∙ ap bit (sym test))
    (cases_lt a (2 ^ (w - 1)))

-- the bits before a number, by whether it is below 0
pub signed_bits : (t : StreamType) (a k : ℕ) → a < 2 ^ width_of t → repeated k 1 (bit (is_below_zero t a)) ≡ reduced k (floor_of (value_of t a) (2 ^ width_of t))
signed_bits t a k lt = repeated_bit k (is_below_zero t a) ∙ ap (reduced k) (sym (floor_past t a lt))

-- a number's word by its high and its low bits
parts_split : (z q p : ℤ) (s r j w : ℕ) → Splits z q (2 ^ w) r → Splits q p (2 ^ j) s → Splits z p (2 ^ (j + w)) (s * 2 ^ w + r)
parts_split z q p s r j w e f =
    e ∙ ap (λ x. x *ℤ pos (2 ^ w) +ℤ pos r) f
    ∙ ap (λ x. x +ℤ pos r) (mul_sum (p *ℤ pos (2 ^ j)) (pos s) (pos (2 ^ w)))
    ∙ ap (λ x. x +ℤ pos (s * 2 ^ w) +ℤ pos r) (mul_assoc p (pos (2 ^ j)) (pos (2 ^ w)) ∙ ap (λ n. p *ℤ pos n) (sym (pow-add 2 j w)))
    ∙ omega (arith, same_in, sum_is_lem)

pub reduced_by_parts : (j w : ℕ) (z : ℤ) → reduced (j + w) z ≡ reduced j (floor_of z (2 ^ w)) * 2 ^ w + reduced w z
unfolding reduced
reduced_by_parts j w z =
    let q = floor_of z (2 ^ w) in
    let p = floor_of q (2 ^ j) in
    let r = unsigned_abs (int_rem_euclid z (pos (2 ^ w))) in
    let s = unsigned_abs (int_rem_euclid q (pos (2 ^ j))) in
    let high : s < 2 ^ j = rest_below q (2 ^ j) (pow_pos j) in
    let low : r < 2 ^ w = rest_below z (2 ^ w) (pow_pos w) in
    let size : s * 2 ^ w + r < 2 ^ (j + w) = subst (λ n. s * 2 ^ w + r < n) (mul_comm (2 ^ w) (2 ^ j) ∙ sym (pow-add 2 j w)) (mul-add-lt s (2 ^ w) r (2 ^ j) high low) in
    ap unsigned_abs (floor_is z p (2 ^ (j + w)) (s * 2 ^ w + r) size (parts_split z q p s r j w (splits z (2 ^ w) (pow_pos w)) (splits q (2 ^ j) (pow_pos j)))).1

-- more bits
pub extended : (t : StreamType) (a x w j : ℕ) → w ≡ width_of t → a < 2 ^ width_of t → x ≡ reduced j (floor_of (value_of t a) (2 ^ width_of t)) → x * 2 ^ w + a ≡ reduced (j + w) (value_of t a)
extended t a x w j e lt f =
    ap (λ n. n * 2 ^ w + a) f
    ∙ ap (λ n. reduced j (floor_of (value_of t a) (2 ^ width_of t)) * 2 ^ n + a) e
    ∙ ap (λ n. reduced j (floor_of (value_of t a) (2 ^ width_of t)) * 2 ^ width_of t + n) (sym (reduced-value t a lt))
    ∙ sym (reduced_by_parts j (width_of t) (value_of t a))
    ∙ ap (λ n. reduced (j + n) (value_of t a)) (sym e)

-- a multiple of a power is one of a lesser power
pub beyond_less : (u w : ℕ) (z y t : ℤ) → u ≤ w → Beyond (2 ^ w) z y t → Beyond (2 ^ u) z y (t *ℤ pos (2 ^ (w - u)))
beyond_less u w z y t h e =
    let sum : w ≡ (w - u) + u = omega arith in
    let parts : 2 ^ w ≡ 2 ^ (w - u) * 2 ^ u = ap (λ j. 2 ^ j) sum ∙ pow-add 2 (w - u) u in
    e ∙ ap (λ x. y +ℤ x) (ap (λ m. t *ℤ pos m) parts ∙ sym (mul_assoc t (pos (2 ^ (w - u))) (pos (2 ^ u))))

-- fewer bits
pub cut : (t : StreamType) (a u : ℕ) → u ≤ width_of t → a % 2 ^ u ≡ reduced u (value_of t a)
cut t a u h =
    let j = value_beyond t a in
    sym (reduced-beyond u (value_of t a) (pos a) (j.0 *ℤ pos (2 ^ (width_of t - u))) (beyond_less u (width_of t) (value_of t a) (pos a) j.0 h j.1) ∙ reduced-pos u a)

pub low_part : (t : StreamType) (a u : ℕ) → 1 ≤ u → u ≤ width_of t → (a / 2 ^ 0) % 2 ^ (u - 1 + 1 - 0) ≡ reduced u (value_of t a)
low_part t a u some h =
    let whole : u - 1 + 1 - 0 ≡ u = omega arith in
    let all : a / 2 ^ 0 ≡ a = omega arith in
    ap (λ k. (a / 2 ^ 0) % 2 ^ k) whole ∙ ap (λ k. k % 2 ^ u) all ∙ cut t a u h

-- past all bits of a number its sign alone is left
past_more : (a m k : ℕ) → a < m → m ≤ k → floor_of (pos a -ℤ pos m) k ≡ negsuc 0
past_more a m k lt le = (floor_is (pos a -ℤ pos m) (negsuc 0) k (k - m + a) (omega arith) (omega (arith, same_in, sum_is_lem, neg_is, product_is))).0

pub floor_far : (t : StreamType) (a k : ℕ) → width_of t ≤ k → a < 2 ^ width_of t → floor_of (value_of t a) (2 ^ width_of t) ≡ floor_of (value_of t a) (2 ^ k)
floor_far t a k h lt =
    let more : 2 ^ width_of t ≤ 2 ^ k = pow_mono h in
    let least : a < 2 ^ k = omega arith in
    elim (is_below_zero t a) as (λ (b : Bool). is_below_zero t a ≡ b → floor_of (value_of t a) (2 ^ width_of t) ≡ floor_of (value_of t a) (2 ^ k)) [
      | true ↦ λ e. rw (value_below t a e) (past_all a (2 ^ width_of t) lt ∙ sym (past_more a (2 ^ width_of t) (2 ^ k) lt more))
      | false ↦ λ e. rw (value_from t a e) (ap pos (div-eq_of_lt lt ∙ sym (div-eq_of_lt least)))
    ] refl

-- the high bits are those of a number below 0 where all bits are
high_test : (a w k : ℕ) → k < w → nat_le (2 ^ (w - k - 1)) (a / 2 ^ k) ≡ nat_le (2 ^ (w - 1)) a
high_test a w k h =
    let some = pow_pos k in
    let parts : 2 ^ (w - 1) ≡ 2 ^ (w - k - 1) * 2 ^ k = ap (λ j. 2 ^ j) (omega arith) ∙ pow-add 2 (w - k - 1) k in
    ⊎_elim
    (λ (low : a / 2 ^ k < 2 ^ (w - k - 1)).
    let less : a < 2 ^ (w - 1) = ⊎_elim (λ (q : a < 2 ^ (w - 1)). q)
    (λ (q : 2 ^ (w - 1) ≤ a). let over : 2 ^ (w - k - 1) ≤ a / 2 ^ k = le-div
    (2 ^ (w - k - 1)) a (2 ^ k) some (omega arith) in absurd (omega arith))
    (cases_lt a (2 ^ (w - 1))) in
    grind (arith, nat_tests))
    (λ (high : 2 ^ (w - k - 1) ≤ a / 2 ^ k).
    let times : 2 ^ (w - k - 1) * 2 ^ k ≤ a / 2 ^ k * 2 ^ k = mul-le-mul_right (2 ^ k) high in
    let whole = shr_split a k in
    let more : 2 ^ (w - 1) ≤ a = omega arith in
    grind (arith, nat_tests))
    (cases_lt (a / 2 ^ k) (2 ^ (w - k - 1)))

floor_of_below : (a m d n : ℕ) → 0 < d → n ≡ m * d → pos (a / d) -ℤ pos m ≡ floor_of (pos a -ℤ pos n) d
floor_of_below a m d n some e =
    let whole = div-add-mod' a d in
    let times : (pos (a / d) -ℤ pos m) *ℤ pos d ≡ pos (a / d) *ℤ pos d +ℤ neg_ℤ
    (pos m *ℤ pos d) = mul_sum (pos (a / d)) (neg_ℤ (pos m)) (pos d) ∙ ap
    (λ z. pos (a / d) *ℤ pos d +ℤ z) (neg_mul (pos m) (pos d)) in
    sym (floor_is (pos a -ℤ pos n) (pos (a / d) -ℤ pos m) d (a % d) (mod_below a d some) (sym (ap (λ z. z +ℤ pos (a % d)) times ∙ omega (arith, same_in, sum_is_lem, neg_is, product_is)))).0

-- the high bits of a word, read in a type that has them alone, are its number rounded down
pub high_value : (t u : StreamType) (a k : ℕ) → k < width_of t → a < 2 ^ width_of t → width_of u ≡ width_of t - k → is_signed u ≡ is_signed t → value_of u (a / 2 ^ k) ≡ floor_of (value_of t a) (2 ^ k)
high_value t u a k h lt wide signs =
    let same : is_below_zero u (a / 2 ^ k) ≡ is_below_zero t a = ap (λ s. s
    && nat_le (2 ^ (width_of u - 1)) (a / 2 ^ k)) signs ∙ ap (λ w. is_signed t
    && nat_le (2 ^ (w - 1)) (a / 2 ^ k)) wide ∙ ap (λ b. is_signed t
    && b) (high_test a (width_of t) k h) in
    let parts : 2 ^ width_of t ≡ 2 ^ (width_of t - k) * 2 ^ k = ap (λ j. 2 ^ j) (omega arith) ∙ pow-add 2 (width_of t - k) k in
    elim (is_below_zero t a) as (λ (b : Bool). is_below_zero t a ≡ b → value_of u (a / 2 ^ k) ≡ floor_of (value_of t a) (2 ^ k)) [
      | true ↦ λ e.
          value_below u (a / 2 ^ k) (same ∙ e)
          ∙ ap (λ w. pos (a / 2 ^ k) -ℤ pos (2 ^ w)) wide
          ∙ floor_of_below a (2 ^ (width_of t - k)) (2 ^ k) (2 ^ width_of t) (pow_pos k) parts
          ∙ ap (λ z. floor_of z (2 ^ k)) (sym (value_below t a e))
      | false ↦ λ e. value_from u (a / 2 ^ k) (same ∙ e) ∙ ap (λ z. floor_of z (2 ^ k)) (sym (value_from t a e))
    ] refl

-- the high bits of a word are all that is left above them
pub high_part : (a w k : ℕ) → k < w → a < 2 ^ w → (a / 2 ^ k) % 2 ^ (w - 1 + 1 - k) ≡ a / 2 ^ k
high_part a w k h lt =
    let size : w - 1 + 1 - k ≡ w - k = omega arith in
    let sum : w ≡ (w - k) + k = omega arith in
    let less : a / 2 ^ k < 2 ^ (w - k) = shr_below a (w - k) k (subst (λ n. a < 2 ^ n) sum lt) in
    ap (λ n. (a / 2 ^ k) % 2 ^ n) size ∙ mod-eq_of_lt less
