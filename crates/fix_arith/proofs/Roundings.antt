-- Rounding by the floor and what it leaves.
use Rattle.std.proofs.Common.{lit<, ◌≡◌, ℕ, zero, suc, ◌+◌, ◌-◌, ◌*◌, ◌%◌, ◌^◌, ◌<◌, ◌≤◌, ◌⊎◌, inl}
use Rattle.std.proofs.Common.{inr, ⊎_elim, arith, ap, sym, refl, ◌∙◌, Bool, true, false, not, ◌&&◌}
use Rattle.std.proofs.Common.{◌||◌, ◌==◌, nat_lt, nat_le, if◌then◌else◌, ℤ, pos, negsuc, ◌+ℤ◌, ◌-ℤ◌}
use Rattle.std.proofs.Common.{◌*ℤ◌, unsigned_abs}
use Rattle.std.specs.Int.{int_rem_euclid, int_div_euclid}
use Rattle.std.specs.Ordering.{nat_cmp}
use Rattle.std.proofs.Math.Nat.{mul-lt-mul_of_pos_right, mul-le-mul_right}
use Rattle.std.proofs.lemmas.Nat.{pow_pos, pow-add, one_shl}
use Rattle.std.specs.declared.cmp.Ordering.{Ordering}
use Rattle.fix_arith.specs.Values.{reduced}
use Rattle.fix_arith.specs.declared.types.RoundMode.{RoundMode}
use Rattle.fix_arith.specs.declared.types.RoundMode.TheVariants.{Truncate, ToNear, ToNearEven}
use Rattle.fix_arith.specs.Rounding.{rounded, rounds_up, floor_of, nearest_of, is_halfway, is_odd}
use Rattle.fix_arith.proofs.Floors.{Splits, floor_is, splits, rest_below}
use Rattle.fix_arith.proofs.Signed.{mul_sum, mul_assoc}
use Rattle.std.proofs.lemmas.Bool.{cases_lt}
use Rattle.std.proofs.lemmas.Bool.Decides.{nat_tests}
use borrow.Author.Differences.{same_in, same_out, sum_is_lem, neg_is, product_is}

-- the next number where this holds
abbrev pub next_if : Bool → ℤ → ℤ
next_if b q = if b then q +ℤ pos 1 else q

-- the nearest number, where less than half is left, and where half or more is
below_half : (z q : ℤ) (d r : ℕ) → 2 * r < d → Splits z q d r → (nearest_of z d ≡ q) × (int_rem_euclid (pos 2 *ℤ z +ℤ pos d) (pos (2 * d)) ≡ pos (2 * r + d))
below_half z q d r h e =
    floor_is (pos 2 *ℤ z +ℤ pos d) q (2 * d) (2 * r + d) (omega arith) (omega (arith, same_in, same_out, sum_is_lem, product_is, e))

from_half : (z q : ℤ) (d r : ℕ) → r < d → d ≤ 2 * r → Splits z q d r → (nearest_of z d ≡ q +ℤ pos 1) × (int_rem_euclid (pos 2 *ℤ z +ℤ pos d) (pos (2 * d)) ≡ pos (2 * r - d))
from_half z q d r below h e =
    floor_is (pos 2 *ℤ z +ℤ pos d) (q +ℤ pos 1) (2 * d) (2 * r - d) (omega arith) (omega (arith, same_in, same_out, sum_is_lem, product_is, e, mul_sum q (pos 1) (pos (2 * d))))

odd_suc : (n : ℕ) → (n + 1) % 2 == 1 ≡ not (n % 2 == 1)
odd_suc n = grind (arith, nat_tests)

even_suc : (n : ℕ) → suc n % 2 == 1 ≡ not (suc (suc n) % 2 == 1)
even_suc n = grind (arith, nat_tests)

odd_next : (q : ℤ) → is_odd (q +ℤ pos 1) ≡ not (is_odd q)
odd_next (pos n) = odd_suc n
odd_next (negsuc zero) = refl
odd_next (negsuc (suc n)) = let e : negsuc (suc n) +ℤ pos 1 ≡ negsuc n = omega (arith, same_in, sum_is_lem) in ap is_odd e ∙ even_suc n

-- of two nearest numbers the even one
even_of : ℤ → Bool → ℤ
even_of near half = if half && is_odd near then near -ℤ pos 1 else near

at_half : (q : ℤ) → even_of (q +ℤ pos 1) true ≡ next_if (is_odd q) q
unfolding even_of
at_half q =
    ap (λ b. if b then q +ℤ pos 1 -ℤ pos 1 else q +ℤ pos 1) (odd_next q)
    ∙ (elim (is_odd q) as (λ (b : Bool). (if not b then q +ℤ pos 1 -ℤ pos 1 else q +ℤ pos 1) ≡ next_if b q) [
      | true ↦ refl
      | false ↦ omega (arith, same_in, sum_is_lem, neg_is)
    ])

halves : (r d : ℕ) → d ≤ 2 * r → ((nat_lt d (2 * r) ≡ true) × (2 * r - d == 0 ≡ false)) ⊎ ((nat_lt d (2 * r) ≡ false) × (2 * r == d ≡ true) × (2 * r - d == 0 ≡ true))
halves r d h = ⊎_elim (λ l. inl (grind (arith, nat_tests), grind (arith, nat_tests))) (λ l. inr (grind (arith, nat_tests), grind (arith, nat_tests), grind (arith, nat_tests))) (cases_lt d (2 * r))

-- the rest of the doubled number tells whether it is halfway
even_parts : (z near : ℤ) (d rest : ℕ) (half : Bool) → (nearest_of z d ≡ near)
    × (int_rem_euclid (pos 2 *ℤ z +ℤ pos d) (pos (2 * d)) ≡ pos rest) → rest == 0 ≡ half
    → even_of (nearest_of z d) (is_halfway z d) ≡ even_of near half
even_parts z near d rest half both test = ap (λ n. even_of n (is_halfway z d)) both.0 ∙ ap (even_of near) (ap (λ y. unsigned_abs y == 0) both.1 ∙ test)

even_low : (z q : ℤ) (d r : ℕ) → 2 * r < d → Splits z q d r → even_of (nearest_of z d) (is_halfway z d) ≡ next_if (nat_lt d (2 * r) || (2 * r == d && is_odd q)) q
unfolding even_of
even_low z q d r low e =
    let rest : 2 * r + d == 0 ≡ false = grind (arith, nat_tests) in
    let over : nat_lt d (2 * r) ≡ false = grind (arith, nat_tests) in
    let same : 2 * r == d ≡ false = grind (arith, nat_tests) in
    even_parts z q d (2 * r + d) false (below_half z q d r low e) rest ∙ sym (rw (over, same) refl)

even_above : (z q : ℤ) (d r : ℕ) → r < d → d ≤ 2 * r → Splits z q d r → nat_lt d (2 * r) ≡ true
    → 2 * r - d == 0 ≡ false → even_of (nearest_of z d) (is_halfway z d) ≡ next_if
    (nat_lt d (2 * r) || (2 * r == d && is_odd q)) q
unfolding even_of
even_above z q d r h high e over rest = even_parts z (q +ℤ pos 1) d (2 * r - d) false (from_half z q d r h high e) rest ∙ sym (rw over refl)

even_half : (z q : ℤ) (d r : ℕ) → r < d → d ≤ 2 * r → Splits z q d r → nat_lt d (2 * r) ≡ false
    → 2 * r == d ≡ true → 2 * r - d == 0 ≡ true
    → even_of (nearest_of z d) (is_halfway z d) ≡ next_if (nat_lt d (2 * r) || (2 * r == d
    && is_odd q)) q
even_half z q d r h high e over same rest = even_parts z (q +ℤ pos 1) d (2 * r - d) true (from_half z q d r h high e) rest ∙ at_half q ∙ sym (rw (over, same) refl)

even_by : (z q : ℤ) (d r : ℕ) → r < d → Splits z q d r → even_of (nearest_of z d) (is_halfway z d) ≡ next_if (nat_lt d (2 * r) || (2 * r == d && is_odd q)) q
even_by z q d r h e =
    ⊎_elim (λ low. even_low z q d r low e)
    (λ high. ⊎_elim (λ above. even_above z q d r h high e above.0 above.1) (λ half. even_half z q d r h high e half.0 half.1 half.2) (halves r d high))
    (cases_lt (2 * r) d)

pub rounded_by : (mode : RoundMode) (z q : ℤ) (d r : ℕ) → r < d → Splits z q d r → rounded mode z d ≡ next_if (rounds_up mode (is_odd q) r d) q
unfolding rounded even_of
rounded_by Truncate z q d r h e = (floor_is z q d r h e).0
rounded_by ToNear z q d r h e =
    ⊎_elim
    (λ low. let no : nat_le d (2 * r) ≡ false = grind (arith, nat_tests) in (below_half z q d r low e).0 ∙ ap (λ b. next_if b q) (sym no))
    (λ high. let yes : nat_le d (2 * r) ≡ true = grind (arith, nat_tests) in (from_half z q d r h high e).0 ∙ ap (λ b. next_if b q) (sym yes))
    (cases_lt (2 * r) d)
rounded_by ToNearEven z q d r h e = even_by z q d r h e

-- a whole number needs no rounding
pub up_at_zero : (mode : RoundMode) (odd : Bool) (d : ℕ) → 0 < d → rounds_up mode odd 0 d ≡ false
up_at_zero Truncate odd d h = refl
up_at_zero ToNear odd d h = grind (arith, nat_tests)
up_at_zero ToNearEven odd d h =
    let over : nat_lt d (2 * 0) ≡ false = grind (arith, nat_tests) in
    let same : 2 * 0 == d ≡ false = grind (arith, nat_tests) in
    rw (over, same) refl

pub rounded-whole : (mode : RoundMode) (q : ℤ) (d : ℕ) → 0 < d → rounded mode (q *ℤ pos d) d ≡ q
rounded-whole mode q d h = rounded_by mode (q *ℤ pos d) q d 0 h (omega (arith, same_in, sum_is_lem)) ∙ ap (λ b. next_if b q) (up_at_zero mode (is_odd q) d h)

pub rounded-one : (mode : RoundMode) (z : ℤ) → rounded mode z 1 ≡ z
rounded-one mode z = rounded_by mode z z 1 0 (lit< tt) (omega (arith, same_in, sum_is_lem, product_is)) ∙ ap (λ b. next_if b z) (up_at_zero mode (is_odd z) 1 (lit< tt))

-- a common factor of both sides of a quotient drops out
scaled_lt : (m n c : ℕ) → 0 < c → nat_lt (m * c) (n * c) ≡ nat_lt m n
scaled_lt m n c h =
    ⊎_elim
    (λ low. let more = mul-lt-mul_of_pos_right low h in grind (arith, nat_tests))
    (λ high. let more = mul-le-mul_right c high in grind (arith, nat_tests))
    (cases_lt m n)

scaled_le : (m n c : ℕ) → 0 < c → nat_le (m * c) (n * c) ≡ nat_le m n
scaled_le m n c h =
    ⊎_elim
    (λ low. let more = mul-lt-mul_of_pos_right low h in grind (arith, nat_tests))
    (λ high. let more = mul-le-mul_right c high in grind (arith, nat_tests))
    (cases_lt n m)

scaled_eq : (m n c : ℕ) → 0 < c → m * c == n * c ≡ (m == n)
scaled_eq m n c h =
    ⊎_elim
    (λ low. let more = mul-lt-mul_of_pos_right low h in grind (arith, nat_tests))
    (λ high. ⊎_elim (λ above. let more = mul-lt-mul_of_pos_right above h in grind (
      arith,
      nat_tests,
    )) (λ same. let e : m ≡ n = omega arith in let ec : m * c ≡ n * c = ap
    (λ k. k * c) e in grind (arith, nat_tests)) (cases_lt n m))
    (cases_lt m n)

up_scaled : (mode : RoundMode) (odd : Bool) (r d c : ℕ) → 0 < c → rounds_up mode odd (r * c) (d * c) ≡ rounds_up mode odd r d
up_scaled Truncate odd r d c h = refl
up_scaled ToNear odd r d c h =
    let e : 2 * (r * c) ≡ 2 * r * c = omega arith in
    ap (nat_le (d * c)) e ∙ scaled_le d (2 * r) c h
up_scaled ToNearEven odd r d c h =
    let e : 2 * (r * c) ≡ 2 * r * c = omega arith in
    ap (λ k. nat_lt (d * c) k || (k == d * c && odd)) e
    ∙ ap (λ b. b || (2 * r * c == d * c && odd)) (scaled_lt d (2 * r) c h)
    ∙ ap (λ b. nat_lt d (2 * r) || (b && odd)) (scaled_eq (2 * r) d c h)

-- the rest against half of 2 ^ k
pub cmp_half : (r k : ℕ) → 1 ≤ k → k ≤ 128 → nat_cmp r (1 * 2 ^ (k - 1) % 340282366920938463463374607431768211456) ≡ nat_cmp (2 * r) (2 ^ k)
cmp_half r k h most =
    let half : 1 * 2 ^ (k - 1) % 340282366920938463463374607431768211456 ≡ 2 ^ (k - 1) = one_shl (k - 1) 128 (omega arith) in
    let twice : 2 ^ k ≡ 2 ^ (k - 1) * 2 = ap (λ j. 2 ^ j) (omega arith) ∙ pow-add 2 (k - 1) 1 in
    ap (nat_cmp r) half ∙ grind (arith, nat_tests)

-- rounding by a shift
pub by_shift : (mode : RoundMode) (z f : ℤ) (k rest : ℕ) (odd up : Bool) (left : Ordering)
    → 1 ≤ k → k ≤ 128 → f ≡ floor_of z (2 ^ k) → rest ≡ reduced k z → odd ≡ is_odd f
    → left ≡ nat_cmp rest (1 * 2 ^ (k - 1) % 340282366920938463463374607431768211456)
    → ((r d : ℕ) → left ≡ nat_cmp (2 * r) d → up ≡ rounds_up mode odd r d)
    → next_if up f ≡ rounded mode z (2 ^ k)
unfolding reduced
by_shift mode z f k rest odd up left h most floor low parity side choice =
    let some = pow_pos k in
    let r = unsigned_abs (int_rem_euclid z (pos (2 ^ k))) in
    let is : up ≡ rounds_up mode (is_odd (floor_of z (2 ^ k))) r (2 ^ k) =
    choice r (2 ^ k) (side ∙ cmp_half rest k h most ∙ ap (λ x. nat_cmp (2 * x) (2 ^ k)) low) ∙ ap (λ b. rounds_up mode b r (2 ^ k)) (parity ∙ ap is_odd floor) in
    ap (λ b. next_if b f) is
    ∙ ap (next_if (rounds_up mode (is_odd (floor_of z (2 ^ k))) r (2 ^ k))) floor
    ∙ sym (rounded_by mode z (floor_of z (2 ^ k)) (2 ^ k) r (rest_below z (2 ^ k) some) (splits z (2 ^ k) some))

pub rounded-scaled : (mode : RoundMode) (z : ℤ) (d c : ℕ) → 0 < d → 0 < c → rounded mode (z *ℤ pos c) (d * c) ≡ rounded mode z d
rounded-scaled mode z d c some more =
    let q = int_div_euclid z (pos d) in
    let r = unsigned_abs (int_rem_euclid z (pos d)) in
    let split = splits z d some in
    let below = rest_below z d some in
    rounded_by mode (z *ℤ pos c) q (d * c) (r * c) (mul-lt-mul_of_pos_right below more)
    (ap (λ k. k *ℤ pos c) split ∙ mul_sum (q *ℤ pos d) (pos r) (pos c) ∙ ap
    (λ k. k +ℤ pos (r * c)) (mul_assoc q (pos d) (pos c)))
    ∙ ap (λ b. next_if b q) (up_scaled mode (is_odd q) r d c more)
    ∙ sym (rounded_by mode z q d r below split)
