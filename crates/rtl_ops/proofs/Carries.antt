-- Rounding by what a floor leaves, on words.
use Rattle.std.proofs.Common.{◌≡◌, ℕ, suc, ◌+◌, ◌-◌, ◌*◌, ◌/◌, ◌%◌, ◌<◌, ◌≤◌, ◌^◌, Bool, true}
use Rattle.std.proofs.Common.{false, ◌&&◌, ◌||◌, ◌==◌, nat_le, nat_lt, bit_and, bit_or, refl, sym}
use Rattle.std.proofs.Common.{ap, ◌∙◌, subst, arith, ⊎_elim, pow_pos, ℤ, pos, negsuc, ◌+ℤ◌, ◌*ℤ◌}
use Rattle.std.proofs.Common.{unsigned_abs}
use Rattle.std.proofs.lemmas.Bool.{cases_lt}
use Rattle.std.proofs.lemmas.Bool.Decides.{nat_tests}
use Rattle.std.proofs.lemmas.Nat.{pow-add, field_of, mod_below}
use Rattle.std.proofs.Math.Pow.{mod-mod-pow}
use Rattle.std.specs.Int.{int_div_euclid, int_rem_euclid}
use Rattle.fix_arith.specs.declared.types.StreamType.{StreamType}
use Rattle.fix_arith.specs.declared.types.RoundMode.{RoundMode}
use Rattle.fix_arith.specs.declared.types.RoundMode.TheVariants.{Truncate, ToNear, ToNearEven}
use Rattle.fix_arith.specs.declared.types.StreamType.TheVariants.{Bool as OneBit}
use Rattle.fix_arith.specs.Types.{width_of}
use Rattle.fix_arith.specs.Values.{value_of, reduced}
use Rattle.fix_arith.specs.Rounding.{rounded, rounds_up, floor_of, is_odd}
use Rattle.fix_arith.specs.Table.{bit_of}
use Rattle.fix_arith.proofs.Floors.{floor_is, splits, rest_below}
use Rattle.fix_arith.proofs.Residues.{reduced-beyond, reduced-pos, reduced-negsuc}
use Rattle.fix_arith.proofs.Roundings.{next_if, rounded_by, rounded-one}
use Rattle.fix_arith.proofs.Signed.{mul_sum, mul_assoc}
use Rattle.rtl_ir.specs.Value.{bit}
use Rattle.rtl_ops.proofs.Ranks.{twice_half}
use Rattle.rtl_ops.proofs.Extensions.{reduced_by_parts, reduced-zero, top_bit, cut}
use borrow.Author.Differences.{same_in, same_out, sum_is_lem, product_is}

-- ---- products with powers of two
times_one : (z : ℤ) → z *ℤ pos (2 ^ 0) ≡ z
times_one z = omega (arith, same_in, product_is)

pub no_shift : (w k : ℕ) (z : ℤ) → k ≡ 0 → reduced w z ≡ reduced w (z *ℤ pos (2 ^ k))
no_shift w k z e = ap (reduced w) (sym (times_one z)) ∙ ap (λ j. reduced w (z *ℤ pos (2 ^ j))) (sym e)

-- all bits are shifted out
pub far_shift : (w k : ℕ) (z : ℤ) → w ≤ k → 0 ≡ reduced w (z *ℤ pos (2 ^ k))
far_shift w k z h =
    let parts : 2 ^ k ≡ 2 ^ (k - w) * 2 ^ w = ap (λ j. 2 ^ j) (omega arith) ∙ pow-add 2 (k - w) w in
    let same : z *ℤ pos (2 ^ k) ≡ pos 0 +ℤ (z *ℤ pos (2 ^ (k - w))) *ℤ pos (2 ^ w) = ap
    (λ m. z *ℤ pos m) parts ∙ sym (mul_assoc z (pos (2 ^ (k - w))) (pos (2 ^ w))) ∙ omega
    (arith, same_in, sum_is_lem) in
    sym (reduced-beyond w (z *ℤ pos (2 ^ k)) (pos 0) (z *ℤ pos (2 ^ (k - w))) same ∙ reduced-zero w)

multiple : (z : ℤ) (d : ℕ) → 0 < d → (int_div_euclid (z *ℤ pos d) (pos d) ≡ z) × (int_rem_euclid (z *ℤ pos d) (pos d) ≡ pos 0)
multiple z d some = floor_is (z *ℤ pos d) z d 0 some (omega (arith, same_in, sum_is_lem))

pub near_shift : (w k x y : ℕ) (z : ℤ) → k ≤ w → x ≡ reduced (w - k) z → y ≡ 0 → x * 2 ^ k + y ≡ reduced w (z *ℤ pos (2 ^ k))
unfolding reduced
near_shift w k x y z h e f =
    let both = multiple z (2 ^ k) (pow_pos k) in
    let high : reduced (w - k) (floor_of (z *ℤ pos (2 ^ k)) (2 ^ k)) ≡ x = ap (reduced (w - k)) both.0 ∙ sym e in
    let low : reduced k (z *ℤ pos (2 ^ k)) ≡ y = ap unsigned_abs both.1 ∙ sym f in
    let sum : w - k + k ≡ w = omega arith in
    ap (λ n. n * 2 ^ k + y) (sym high)
    ∙ ap (λ n. reduced (w - k) (floor_of (z *ℤ pos (2 ^ k)) (2 ^ k)) * 2 ^ k + n) (sym low)
    ∙ sym (reduced_by_parts (w - k) k (z *ℤ pos (2 ^ k)))
    ∙ ap (λ n. reduced n (z *ℤ pos (2 ^ k))) sum

-- ---- tests on bits
odd_bit : (f : ℕ) → (f / 2 ^ 0) % 2 ^ (0 + 1 - 0) ≡ bit (f % 2 == 1)
odd_bit f =
    let all : f / 2 ^ 0 ≡ f = omega arith in
    ap (λ k. k % 2) all
    ∙ ⊎_elim
    (λ (low : f % 2 < 1). let test : (f % 2 == 1) ≡ false = grind (arith, nat_tests) in let none : f % 2 ≡ 0 = omega arith in none ∙ ap bit (sym test))
    (λ (high : 1 ≤ f % 2). let one : f % 2 ≡ 1 = omega arith in let test : (f % 2 == 1) ≡ true = grind (arith, nat_tests) in one ∙ ap bit (sym test))
    (cases_lt (f % 2) 1)

and_of_bits : (p q : Bool) → bit_and (bit p) (bit q) ≡ bit_of (p && q)
and_of_bits true true = refl
and_of_bits true false = refl
and_of_bits false true = refl
and_of_bits false false = refl

or_of_bits : (p q : Bool) → bit_or (bit p) (bit_of q) ≡ bit_of (p || q)
or_of_bits true true = refl
or_of_bits true false = refl
or_of_bits false true = refl
or_of_bits false false = refl

pub tie_test : (p : Bool) (f x y : ℕ) → x ≡ bit p → y ≡ (f / 2 ^ 0) % 2 ^ (0 + 1 - 0) → bit_and x y ≡ bit_of (p && f % 2 == 1)
tie_test p f x y e g = ap (λ k. bit_and k y) e ∙ ap (bit_and (bit p)) (g ∙ odd_bit f) ∙ and_of_bits p (f % 2 == 1)

-- what is left, and half of the whole
pub left_of : (a k : ℕ) → 1 ≤ k → (a / 2 ^ 0) % 2 ^ (k - 1 + 1 - 0) ≡ a % 2 ^ k
left_of a k h =
    let all : a / 2 ^ 0 ≡ a = omega arith in
    let size : k - 1 + 1 - 0 ≡ k = omega arith in
    ap (λ n. n % 2 ^ (k - 1 + 1 - 0)) all ∙ ap (λ n. a % 2 ^ n) size

above_test : (h d r : ℕ) → d ≡ h * 2 → nat_lt h r ≡ nat_lt d (2 * r)
above_test h d r e = grind (arith, nat_tests)

half_test : (h d r : ℕ) → d ≡ h * 2 → (r == h) ≡ (2 * r == d)
half_test h d r e = grind (arith, nat_tests)

pub even_test : (k a x y : ℕ) (odd : Bool) → 1 ≤ k → x ≡ bit (nat_lt (2 ^ (k - 1)) (a % 2 ^ k))
    → y ≡ bit_of (a % 2 ^ k == 2 ^ (k - 1) && odd)
    → bit_or x y ≡ bit_of (rounds_up ToNearEven odd (a % 2 ^ k) (2 ^ k))
even_test k a x y odd some f g =
    let h = 2 ^ (k - 1) in
    let twice : 2 ^ k ≡ h * 2 = twice_half k some in
    ap (λ n. bit_or n y) f ∙ ap (bit_or (bit (nat_lt h (a % 2 ^ k)))) g ∙ or_of_bits (nat_lt h (a % 2 ^ k)) (a % 2 ^ k == h && odd)
    ∙ ap (λ b. bit_of (b || (a % 2 ^ k == h && odd))) (above_test h (2 ^ k) (a % 2 ^ k) twice)
    ∙ ap (λ b. bit_of (nat_lt (2 ^ k) (2 * (a % 2 ^ k)) || (b && odd))) (half_test h (2 ^ k) (a % 2 ^ k) twice)

at_least_half : (h d r : ℕ) → d ≡ h * 2 → nat_le h r ≡ nat_le d (2 * r)
at_least_half h d r e = grind (arith, nat_tests)

-- the top bit of what is left
pub near_test : (k a : ℕ) (odd : Bool) → 1 ≤ k → (a / 2 ^ (k - 1)) % 2 ^ (k - 1 + 1 - (k - 1)) ≡ bit_of (rounds_up ToNear odd (a % 2 ^ k) (2 ^ k))
near_test k a odd some =
    let one : k - 1 + 1 - (k - 1) ≡ 1 = omega arith in
    let sum : k ≡ 1 + (k - 1) = omega arith in
    let field : (a % 2 ^ k) / 2 ^ (k - 1) ≡ a / 2 ^ (k - 1) % 2 ^ 1 = ap (λ n. (a % 2 ^ n) / 2 ^ (k - 1)) sum ∙ field_of a 1 (k - 1) in
    let once : (a / 2 ^ (k - 1)) % 2 ^ 1 ≡ ((a % 2 ^ k) / 2 ^ (k - 1)) % 2 ^ 1 = sym (ap (λ n. n % 2 ^ 1) field ∙ mod-mod-pow (a / 2 ^ (k - 1)) 0 1) in
    ap (λ n. (a / 2 ^ (k - 1)) % 2 ^ n) one ∙ once ∙ ap (λ n. ((a % 2 ^ k) / 2 ^ (k - 1)) % 2 ^ n) (sym one)
    ∙ top_bit (a % 2 ^ k) k some (mod_below a (2 ^ k) (pow_pos k))
    ∙ ap bit (at_least_half (2 ^ (k - 1)) (2 ^ k) (a % 2 ^ k) (twice_half k some))

-- ---- the sum of a floor and a carry
pub reduced_sum : (w : ℕ) (x y : ℤ) → (reduced w x + reduced w y) % 2 ^ w ≡ reduced w (x +ℤ y)
unfolding reduced
reduced_sum w x y =
    let m = 2 ^ w in
    let p = int_div_euclid x (pos m) in
    let q = int_div_euclid y (pos m) in
    let r = reduced w x in
    let s = reduced w y in
    let first = splits x m (pow_pos w) in
    let second = splits y m (pow_pos w) in
    sym (reduced-beyond w (x +ℤ y) (pos (r + s)) (p +ℤ q) (omega (arith, same_in, same_out, sum_is_lem, first, second, mul_sum p q (pos m))) ∙ reduced-pos w (r + s))

parity_below : (n m h : ℕ) → m < h * 2 → m % 2 ≡ n % 2 → (h * 2 - 1 - m) % 2 ≡ suc n % 2
parity_below n m h lt e = omega arith

pub parity : (w : ℕ) (q : ℤ) → 1 ≤ w → reduced w q % 2 ≡ unsigned_abs q % 2
parity w (pos n) some =
    let sum : w ≡ (w - 1) + 1 = omega arith in
    ap (λ k. k % 2) (reduced-pos w n) ∙ ap (λ k. n % 2 ^ k % 2 ^ 1) sum ∙ mod-mod-pow n (w - 1) 1
parity w (negsuc n) some =
    let sum : w ≡ (w - 1) + 1 = omega arith in
    let low : n % 2 ^ w % 2 ≡ n % 2 = ap (λ k. n % 2 ^ k % 2 ^ 1) sum ∙ mod-mod-pow n (w - 1) 1 in
    let twice = twice_half w some in
    let fits : n % 2 ^ w < 2 ^ (w - 1) * 2 = subst (λ k. n % 2 ^ w < k) twice (mod_below n (2 ^ w) (pow_pos w)) in
    ap (λ k. k % 2) (reduced-negsuc w n ∙ ap (λ k. k - 1 - n % 2 ^ w) twice) ∙ parity_below n (n % 2 ^ w) (2 ^ (w - 1)) fits low

next_by_bit : (b : Bool) (q : ℤ) → q +ℤ pos (bit_of b) ≡ next_if b q
next_by_bit true q = refl
next_by_bit false q = omega (arith, same_in, sum_is_lem)

rest_is_cut : (t : StreamType) (a k : ℕ) → k ≤ width_of t → a % 2 ^ k ≡ unsigned_abs (int_rem_euclid (value_of t a) (pos (2 ^ k)))
unfolding reduced
rest_is_cut t a k h = cut t a k h

-- a floor, a carry, and their sum
pub carried : (mode : RoundMode) (t : StreamType) (a k w f u m : ℕ) → k ≤ width_of t → 1 ≤ w
    → f ≡ reduced w (floor_of (value_of t a) (2 ^ k))
    → u ≡ bit_of (rounds_up mode (f % 2 == 1) (a % 2 ^ k) (2 ^ k))
    → m ≡ reduced w (pos u)
    → (f + m) % 2 ^ w ≡ reduced w (rounded mode (value_of t a) (2 ^ k))
carried mode t a k w f u m h some e g i =
    let z = value_of t a in
    let d = 2 ^ k in
    let q = floor_of z d in
    let r = unsigned_abs (int_rem_euclid z (pos d)) in
    let odd : (f % 2 == 1) ≡ is_odd q = ap (λ n. n == 1) (ap (λ n. n % 2) e ∙ parity w q some) in
    let up : u ≡ bit_of (rounds_up mode (is_odd q) r d) = g ∙ ap (λ b. bit_of (rounds_up mode b (a % 2 ^ k) d)) odd ∙ ap (λ n. bit_of (rounds_up mode (is_odd q) n d)) (rest_is_cut t a k h) in
    ap (λ n. (n + m) % 2 ^ w) e ∙ ap (λ n. (reduced w q + n) % 2 ^ w) i ∙ reduced_sum w q (pos u)
    ∙ ap (reduced w) (ap (λ n. q +ℤ pos n) up ∙ next_by_bit (rounds_up mode (is_odd q) r d) q ∙ sym (rounded_by mode z q d r (rest_below z d (pow_pos k)) (splits z d (pow_pos k))))

-- rounding down
pub truncated : (z : ℤ) (d : ℕ) → floor_of z d ≡ rounded Truncate z d
unfolding rounded
truncated z d = refl

-- a bit is its number
pub bit_value : (w u : ℕ) → reduced w (value_of OneBit u) ≡ reduced w (pos u)
unfolding value_of
bit_value w u = refl

-- no bit is dropped
pub no_rounding : (mode : RoundMode) (w k : ℕ) (z : ℤ) → k ≡ 0 → reduced w z ≡ reduced w (rounded mode z (2 ^ k))
no_rounding mode w k z e = ap (reduced w) (sym (rounded-one mode z)) ∙ ap (λ j. reduced w (rounded mode z (2 ^ j))) (sym e)
