-- Products in twice as many bits.
use Rattle.std.proofs.Common.{◌≡◌, ℕ, ◌+◌, ◌-◌, ◌*◌, ◌%◌, ◌<◌, ◌≤◌, ◌^◌, Bool, true, false, ◌&&◌, nat_le, refl, sym, ap, ◌∙◌, subst, arith, ⊎_elim, pow_pos, ℤ, pos, negsuc, ◌*ℤ◌, unsigned_abs}
use Rattle.std.proofs.lemmas.Bool.{cases_lt}
use Rattle.std.proofs.lemmas.Bool.Decides.{nat_tests}
use Rattle.std.proofs.lemmas.Nat.{pow-add, mul-le, mul-lt, pow_below}
use Rattle.std.proofs.lemmas.Int.{unsigned_abs-mul}
use Rattle.std.specs.Int.{int_div_euclid}
use Rattle.fix_arith.specs.declared.types.StreamType.{StreamType}
use Rattle.fix_arith.specs.Types.{width_of, is_signed}
use Rattle.fix_arith.specs.Values.{value_of, reduced, IsValue}
use Rattle.fix_arith.proofs.Floors.{splits}
use Rattle.fix_arith.proofs.Residues.{Beyond, reduced-pos, reduced-times}
use Rattle.fix_arith.proofs.Words.{read_back}
use Rattle.rtl_ops.proofs.Ranks.{twice_half}
use Rattle.rtl_ops.proofs.Extensions.{value_below, value_from}
use borrow.Author.Differences.{same_in, sum_is_lem, neg_is, abs_is}
use lib.IntN.{*ℤ_comm, +ℤ_comm}

-- a number lies a multiple of 2 to the width from its word
pub from_word : (w : ℕ) (z : ℤ) → Beyond (2 ^ w) z (pos (reduced w z)) (int_div_euclid z (pos (2 ^ w)))
unfolding reduced
from_word w z = splits z (2 ^ w) (pow_pos w) ∙ +ℤ_comm (int_div_euclid z (pos (2 ^ w)) *ℤ pos (2 ^ w)) (pos (reduced w z))

-- words multiply as their numbers do
pub product_of_words : (w : ℕ) (x y : ℤ) → (reduced w x * reduced w y) % 2 ^ w ≡ reduced w (x *ℤ y)
product_of_words w x y =
    let r = reduced w x in
    let s = reduced w y in
    sym (
    reduced-times w x (pos r) (int_div_euclid x (pos (2 ^ w))) y (from_word w x)
    ∙ ap (reduced w) (*ℤ_comm (pos r) y)
    ∙ reduced-times w y (pos s) (int_div_euclid y (pos (2 ^ w))) (pos r) (from_word w y)
    ∙ ap (reduced w) (*ℤ_comm (pos s) (pos r))
    ∙ reduced-pos w (r * s)
    )

-- ---- numbers that a type has
value_of_signed : (t : StreamType) (z : ℤ) → is_signed t ≡ true → 1 ≤ width_of t → unsigned_abs z < 2 ^ (width_of t - 1) → IsValue t z
value_of_signed t (pos n) s some h =
    let twice = twice_half (width_of t) some in
    let test : nat_le (2 ^ (width_of t - 1)) n ≡ false = grind (arith, nat_tests) in
    (n, omega arith, value_from t n (ap (λ b. b && nat_le (2 ^ (width_of t - 1)) n) s ∙ test))
value_of_signed t (negsuc n) s some h =
    let twice = twice_half (width_of t) some in
    let bits = 2 ^ width_of t - 1 - n in
    let test : nat_le (2 ^ (width_of t - 1)) bits ≡ true = grind (arith, nat_tests) in
    (bits, omega arith, value_below t bits (ap (λ b. b && nat_le (2 ^ (width_of t - 1)) bits) s ∙ test) ∙ omega (arith, same_in, sum_is_lem, neg_is))

value_of_unsigned : (t : StreamType) (n : ℕ) → is_signed t ≡ false → n < 2 ^ width_of t → IsValue t (pos n)
value_of_unsigned t n s h = (n, h, value_from t n (ap (λ b. b && nat_le (2 ^ (width_of t - 1)) n) s))

-- the size of a signed number
pub size_at_most : (t : StreamType) (a : ℕ) → is_signed t ≡ true → 1 ≤ width_of t → a < 2 ^ width_of t → unsigned_abs (value_of t a) ≤ 2 ^ (width_of t - 1)
size_at_most t a s some fits =
    let twice = twice_half (width_of t) some in
    ⊎_elim
    (λ (low : a < 2 ^ (width_of t - 1)).
    let test : nat_le (2 ^ (width_of t - 1)) a ≡ false = grind (arith, nat_tests) in
    rw (value_from t a (ap (λ b. b && nat_le (2 ^ (width_of t - 1)) a) s ∙ test)) (omega arith))
    (λ (high : 2 ^ (width_of t - 1) ≤ a).
    let test : nat_le (2 ^ (width_of t - 1)) a ≡ true = grind (arith, nat_tests) in
    rw (value_below t a (ap (λ b. b && nat_le (2 ^ (width_of t - 1)) a) s ∙ test)) (omega (arith, sum_is_lem, neg_is, abs_is)))
    (cases_lt a (2 ^ (width_of t - 1)))

unsigned_value : (t : StreamType) (a : ℕ) → is_signed t ≡ false → value_of t a ≡ pos a
unsigned_value t a s = value_from t a (ap (λ b. b && nat_le (2 ^ (width_of t - 1)) a) s)

-- a type of twice the width has the products
product_is_value : (s : Bool) (t u : StreamType) (a b : ℕ) → is_signed t ≡ s → is_signed u ≡ s
    → 1 ≤ width_of t → width_of u ≡ 2 * width_of t → a < 2 ^ width_of t → b < 2 ^ width_of t
    → IsValue u (value_of t a *ℤ value_of t b)
product_is_value true t u a b s r some wide f g =
    let w = width_of t in
    let size : unsigned_abs (value_of t a) * unsigned_abs (value_of t b) ≤ 2 ^ (w - 1) * 2 ^ (w - 1) = mul-le _ _ _ _ (size_at_most t a s some f) (size_at_most t b s some g) in
    let power : 2 ^ (w - 1 + (w - 1)) ≡ 2 ^ (w - 1) * 2 ^ (w - 1) = pow-add 2 (w - 1) (w - 1) in
    let more : 2 ^ (w - 1 + (w - 1)) < 2 ^ (width_of u - 1) = pow_below (w - 1 + (w - 1)) (width_of u - 1) (omega arith) in
    value_of_signed u (value_of t a *ℤ value_of t b) r (omega arith) (omega (arith, unsigned_abs-mul (value_of t a) (value_of t b)))
product_is_value false t u a b s r some wide f g =
    let w = width_of t in
    let power : 2 ^ width_of u ≡ 2 ^ w * 2 ^ w = ap (λ k. 2 ^ k) (omega arith) ∙ pow-add 2 w w in
    let size : a * b < 2 ^ w * 2 ^ w = mul-lt a b (2 ^ w) (2 ^ w) f g in
    subst (IsValue u) (sym (ap (λ z. z *ℤ value_of t b) (unsigned_value t a s) ∙ ap (λ z. pos a *ℤ z) (unsigned_value t b s))) (value_of_unsigned u (a * b) r (omega arith))

-- the word of a product in twice the width has the product as its number
pub product_value : (t u : StreamType) (a b : ℕ) → is_signed u ≡ is_signed t → 1 ≤ width_of t
    → width_of u ≡ 2 * width_of t → a < 2 ^ width_of t → b < 2 ^ width_of t
    → value_of u (reduced (2 * width_of t) (value_of t a *ℤ value_of t b))
    ≡ value_of t a *ℤ value_of t b
product_value t u a b signs some wide f g =
    ap (λ k. value_of u (reduced k (value_of t a *ℤ value_of t b))) (sym wide)
    ∙ read_back u (value_of t a *ℤ value_of t b) (product_is_value (is_signed t) t u a b refl signs some wide f g)
