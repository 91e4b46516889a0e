-- Numbers times powers of two, and what casts make of them.
use Rattle.std.proofs.Common.{◌≡◌, ◌≤◌, ◌+◌, ◌-◌, ◌*◌, ◌%◌, ◌^◌, ℕ, arith, ap, sym, ◌∙◌, unsigned_abs, ℤ, pos, ◌+ℤ◌, ◌*ℤ◌, true, false, nat_lt, if◌then◌else◌, ⊎_elim}
use Rattle.std.proofs.lemmas.Bool.{cases_lt}
use Rattle.std.proofs.lemmas.Bool.Decides.{nat_tests}
use Rattle.std.proofs.lemmas.Nat.{pow_pos, pow-add}
use Rattle.std.proofs.Math.Pow.{mod-mod-pow}
use Rattle.std.proofs.Math.Nat.{mul-mod_left}
use Rattle.std.specs.Int.{int_div_euclid, int_rem_euclid}
use lib.IntN.{+ℤ_comm}
use Rattle.fix_arith.specs.declared.types.RoundMode.{RoundMode}
use Rattle.fix_arith.specs.Values.{reduced}
use Rattle.fix_arith.specs.Rounding.{rounded}
use Rattle.fix_arith.proofs.Floors.{splits}
use Rattle.fix_arith.proofs.Residues.{Beyond, reduced-times, reduced-pos}
use Rattle.fix_arith.proofs.Roundings.{rounded-whole, rounded-scaled}
use Rattle.fix_arith.proofs.Signed.{mul_assoc}

-- a shift to the left at 128 bits, past the last bit too
shl_any : (x k : ℕ) → (if nat_lt k 128 then (x * 2 ^ k) % 2 ^ 128 else 0) ≡ (x * 2 ^ k) % 2 ^ 128
shl_any x k =
    ⊎_elim
    (λ low. let test : nat_lt k 128 ≡ true = grind (arith, nat_tests) in ap (λ b. if b then (x * 2 ^ k) % 2 ^ 128 else 0) test)
    (λ high.
    let test : nat_lt k 128 ≡ false = grind (arith, nat_tests) in
    let parts : 2 ^ k ≡ 2 ^ (k - 128) * 2 ^ 128 = ap (λ j. 2 ^ j) (omega arith) ∙ pow-add 2 (k - 128) 128 in
    let multiple : x * 2 ^ k ≡ (x * 2 ^ (k - 128)) * 2 ^ 128 = ap (λ y. x * y) parts ∙ omega arith in
    ap (λ b. if b then (x * 2 ^ k) % 2 ^ 128 else 0) test ∙ sym (ap (λ y. y % 2 ^ 128) multiple ∙ mul-mod_left (x * 2 ^ (k - 128)) (2 ^ 128)))
    (cases_lt k 128)

-- a number lies a multiple of 2 ^ w from its low 128 bits
low_beyond : (w : ℕ) (z : ℤ) → w ≤ 128 → (t : ℤ) × Beyond (2 ^ w) z (pos (reduced 128 z)) t
unfolding reduced
low_beyond w z h =
    let sum : 128 ≡ (128 - w) + w = omega arith in
    let parts : 2 ^ 128 ≡ 2 ^ (128 - w) * 2 ^ w = ap (λ j. 2 ^ j) sum ∙ pow-add 2 (128 - w) w in
    let q = int_div_euclid z (pos (2 ^ 128)) in (
      q *ℤ pos (2 ^ (128 - w)),
      splits z (2 ^ 128) (pow_pos 128)
          ∙ +ℤ_comm (q *ℤ pos (2 ^ 128)) (pos (unsigned_abs (int_rem_euclid z (pos (2 ^ 128)))))
          ∙ ap (λ y. pos (unsigned_abs (int_rem_euclid z (pos (2 ^ 128)))) +ℤ y) (ap (λ m. q *ℤ pos m) parts ∙ sym (mul_assoc q (pos (2 ^ (128 - w))) (pos (2 ^ w)))),
    )

-- `x` of 128 bits, shifted and cut
pub shifted_left : (w k x : ℕ) (z : ℤ) → w ≤ 128 → x ≡ reduced 128 z → reduced w (pos (if nat_lt k 128 then (x * 2 ^ k) % 2 ^ 128 else 0)) ≡ reduced w (z *ℤ pos (2 ^ k))
shifted_left w k x z h e =
    let beyond = low_beyond w z h in
    let sum : 128 ≡ (128 - w) + w = omega arith in
    ap (λ n. reduced w (pos n)) (shl_any x k)
    ∙ reduced-pos w ((x * 2 ^ k) % 2 ^ 128)
    ∙ ap (λ j. (x * 2 ^ k) % 2 ^ j % 2 ^ w) sum
    ∙ mod-mod-pow (x * 2 ^ k) (128 - w) w
    ∙ sym (reduced-pos w (x * 2 ^ k))
    ∙ ap (λ n. reduced w (pos (n * 2 ^ k))) e
    ∙ sym (reduced-times w z (pos (reduced 128 z)) beyond.0 (pos (2 ^ k)) beyond.1)

-- more bits behind the point: nothing is rounded
pub widened : (mode : RoundMode) (z : ℤ) (old new : ℕ) → old ≤ new → rounded mode (z *ℤ pos (2 ^ new)) (2 ^ old) ≡ z *ℤ pos (2 ^ (new - old))
widened mode z old new h =
    let parts : 2 ^ new ≡ 2 ^ (new - old) * 2 ^ old = ap (λ j. 2 ^ j) (omega arith) ∙ pow-add 2 (new - old) old in
    ap (λ y. rounded mode y (2 ^ old)) (ap (λ m. z *ℤ pos m) parts ∙ sym (mul_assoc z (pos (2 ^ (new - old))) (pos (2 ^ old))))
    ∙ rounded-whole mode (z *ℤ pos (2 ^ (new - old))) (2 ^ old) (pow_pos old)

-- fewer bits behind the point
pub narrowed : (mode : RoundMode) (z : ℤ) (old new : ℕ) → new ≤ old → rounded mode (z *ℤ pos (2 ^ new)) (2 ^ old) ≡ rounded mode z (2 ^ (old - new))
narrowed mode z old new h =
    let parts : 2 ^ old ≡ 2 ^ (old - new) * 2 ^ new = ap (λ j. 2 ^ j) (omega arith) ∙ pow-add 2 (old - new) new in
    ap (rounded mode (z *ℤ pos (2 ^ new))) parts
    ∙ rounded-scaled mode z (2 ^ (old - new)) (2 ^ new) (pow_pos (old - new)) (pow_pos new)
