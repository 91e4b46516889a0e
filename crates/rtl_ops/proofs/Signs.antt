-- Quotients rounded toward zero, by sizes and signs.
use Rattle.std.proofs.Common.{◌≡◌, ℕ, zero, suc, ◌+◌, ◌-◌, ◌/◌, ◌%◌, ◌<◌, ◌≤◌, ◌^◌, Bool, true}
use Rattle.std.proofs.Common.{false, ◌&&◌, ◌==◌, nat_le, if◌then◌else◌, bit_xor, Some, None, IfSome}
use Rattle.std.proofs.Common.{refl, sym, ap, ◌∙◌, subst, arith, pow_pos, ℤ, pos, negsuc, neg_ℤ}
use Rattle.std.proofs.Common.{◌-ℤ◌, unsigned_abs, int_div}
use Rattle.std.proofs.lemmas.Bool.Decides.{nat_tests}
use Rattle.std.proofs.Math.Nat.{mod-eq_of_lt, div-le_self}
use Rattle.fix_arith.specs.declared.types.StreamType.{StreamType}
use Rattle.fix_arith.specs.Types.{width_of, is_signed}
use Rattle.fix_arith.specs.Values.{value_of, reduced, signed_of}
use Rattle.fix_arith.proofs.Residues.{reduced-beyond, reduced-pos}
use Rattle.fix_arith.proofs.Words.{some_value}
use Rattle.rtl_ir.specs.Value.{bit, quotient}
use Rattle.rtl_ops.specs.Orders.{is_below_zero, differ}
use Rattle.rtl_ops.proofs.Ranks.{twice_half}
use Rattle.rtl_ops.proofs.Extensions.{value_from, top_bit}
use Rattle.rtl_ops.proofs.Options.{by_bit}
use Rattle.rtl_ops.proofs.Multiples.{size_at_most}
use borrow.Author.Differences.{same_in, sum_is_lem, neg_is, product_is, abs_is}

-- the sign of a signed number is its top bit
pub sign_bit : (t : StreamType) (a w : ℕ) → is_signed t ≡ true → w ≡ width_of t → 1 ≤ w → a < 2 ^ width_of t → (a / 2 ^ (w - 1)) % 2 ^ (w - 1 + 1 - (w - 1)) ≡ bit (is_below_zero t a)
sign_bit t a w s e some fits =
    top_bit a w some (subst (λ k. a < 2 ^ k) (sym e) fits) ∙ ap (λ k. bit (nat_le (2 ^ (k - 1)) a)) e ∙ ap (λ b. bit (b && nat_le (2 ^ (width_of t - 1)) a)) (sym s)

pub xor_of_bits : (p q : Bool) (x y : ℕ) → x ≡ bit p → y ≡ bit q → bit_xor x y ≡ bit (differ p q)
xor_of_bits true true x y e f = rw (e, f) refl
xor_of_bits true false x y e f = rw (e, f) refl
xor_of_bits false true x y e f = rw (e, f) refl
xor_of_bits false false x y e f = rw (e, f) refl

-- the size of a word's number: of its opposite where it is below 0
size_by : (b : Bool) (a m : ℕ) → a < m → (b ≡ true → 0 < a) → (if b then (0 + (m - a)) % m else a) ≡ unsigned_abs (if b then pos a -ℤ pos m else pos a)
size_by true a m lt some =
    let positive = some refl in
    let less : 0 + (m - a) < m = omega arith in
    mod-eq_of_lt less ∙ omega (arith, sum_is_lem, neg_is, abs_is)
size_by false a m lt some = refl

value_by : (t : StreamType) (a : ℕ) → value_of t a ≡ (if is_below_zero t a then pos a -ℤ pos (2 ^ width_of t) else pos a)
unfolding value_of
value_by t a = refl

high_some : (t : StreamType) (a : ℕ) → is_signed t ≡ true → is_below_zero t a ≡ true → 0 < a
high_some t a s e =
    let half = pow_pos (width_of t - 1) in
    let test : nat_le (2 ^ (width_of t - 1)) a ≡ true = sym (ap (λ b. b && nat_le (2 ^ (width_of t - 1)) a) s) ∙ e in
    grind (arith, nat_tests)

pub size_test : (t : StreamType) (a w k : ℕ) → is_signed t ≡ true → w ≡ width_of t
    → a < 2 ^ width_of t → k ≡ bit (is_below_zero t a)
    → (if k == 1 then (0 + (2 ^ w - a)) % 2 ^ w else a) ≡ unsigned_abs (value_of t a)
size_test t a w k s e fits g =
    ap (λ n. if k == 1 then (0 + (2 ^ n - a)) % 2 ^ n else a) e
    ∙ by_bit k (is_below_zero t a) ((0 + (2 ^ width_of t - a)) % 2 ^ width_of t) a g
    ∙ size_by (is_below_zero t a) a (2 ^ width_of t) fits (high_some t a s)
    ∙ ap unsigned_abs (sym (value_by t a))

-- ---- quotients
is_negative : ℤ → Bool
is_negative (pos n) = false
is_negative (negsuc n) = true

div_by_sizes : (x y : ℤ) → int_div x y ≡ signed_of (differ (is_negative x) (is_negative y)) (unsigned_abs x / unsigned_abs y)
unfolding is_negative
div_by_sizes (pos a) (pos b) = refl
div_by_sizes (pos a) (negsuc b) = refl
div_by_sizes (negsuc a) (pos b) = refl
div_by_sizes (negsuc a) (negsuc b) = refl

negative_by : (b : Bool) (a m : ℕ) → a < m → is_negative (if b then pos a -ℤ pos m else pos a) ≡ b
unfolding is_negative
negative_by true a m lt = let e : pos a -ℤ pos m ≡ negsuc (m - 1 - a) = omega (arith, same_in, sum_is_lem, neg_is) in ap is_negative e
negative_by false a m lt = refl

negative_value : (t : StreamType) (a : ℕ) → a < 2 ^ width_of t → is_negative (value_of t a) ≡ is_below_zero t a
negative_value t a fits = ap is_negative (value_by t a) ∙ negative_by (is_below_zero t a) a (2 ^ width_of t) fits

quotient_is : (m n : ℕ) → 0 < n → quotient m n ≡ m / n
quotient_is m zero h = absurd (omega arith)
quotient_is m (suc n) h = refl

-- a number of this size and sign, as a word
signed_word : (b : Bool) (q w : ℕ) → q < 2 ^ w → (if b then (0 + (2 ^ w - q)) % 2 ^ w else q) ≡ reduced w (signed_of b q)
signed_word true q w lt = sym (reduced-beyond w (neg_ℤ (pos q)) (pos (0 + (2 ^ w - q))) (negsuc 0) (omega (arith, same_in, sum_is_lem, neg_is, product_is)) ∙ reduced-pos w (0 + (2 ^ w - q)))
signed_word false q w lt = sym (reduced-pos w q ∙ mod-eq_of_lt lt)

quotient_word : (t : StreamType) (a b q k : ℕ) → is_signed t ≡ true → 1 ≤ width_of t → a < 2 ^ width_of t → b < 2 ^ width_of t → 0 < b
    → q ≡ quotient (unsigned_abs (value_of t a)) (unsigned_abs (value_of t b)) → k ≡ bit (differ (is_below_zero t a) (is_below_zero t b))
    → (if k == 1 then (0 + (2 ^ width_of t - q)) % 2 ^ width_of t else q) ≡ reduced (width_of t) (int_div (value_of t a) (value_of t b))
quotient_word t a b q k s some f g positive e i =
    let w = width_of t in
    let m = unsigned_abs (value_of t a) in
    let n = unsigned_abs (value_of t b) in
    let divisor : 0 < n = some_value t b positive g in
    let is : q ≡ m / n = e ∙ quotient_is m n divisor in
    let twice = twice_half w some in
    let half = pow_pos (w - 1) in
    let less : m / n ≤ m = div-le_self m n in
    let small : q < 2 ^ w = omega (arith, size_at_most t a s some f) in
    let signs : differ (is_negative (value_of t a)) (is_negative (value_of t b)) ≡ differ
    (is_below_zero t a) (is_below_zero t b) = ap (λ x. differ x
    (is_negative (value_of t b))) (negative_value t a f) ∙ ap (differ (is_below_zero t a))
    (negative_value t b g) in
    by_bit k (differ (is_below_zero t a) (is_below_zero t b)) ((0 + (2 ^ w - q)) % 2 ^ w) q i
    ∙ signed_word (differ (is_below_zero t a) (is_below_zero t b)) q w small
    ∙ ap (λ x. reduced w (signed_of x q)) (sym signs)
    ∙ ap (λ x. reduced w (signed_of (differ (is_negative (value_of t a)) (is_negative (value_of t b))) x)) is
    ∙ ap (reduced w) (sym (div_by_sizes (value_of t a) (value_of t b)))

-- where the divisor is 0, any value will do
pub where_some : (b x y : ℕ) → (0 < b → x ≡ y) → IfSome (if b == 0 then None else Some y) (λ z. x ≡ z)
where_some zero x y h = tt
where_some (suc b) x y h =
    let test : (suc b == 0) ≡ false = grind (arith, nat_tests) in
    subst (λ t. IfSome (if t then None else Some y) (λ z. x ≡ z)) (sym test) (h (omega arith))

pub signed_quotient_test : (t : StreamType) (a b q k w : ℕ) → is_signed t ≡ true → 1 ≤ width_of t → a < 2 ^ width_of t → b < 2 ^ width_of t → w ≡ width_of t
    → q ≡ quotient (unsigned_abs (value_of t a)) (unsigned_abs (value_of t b)) → k ≡ bit (differ (is_below_zero t a) (is_below_zero t b))
    → IfSome (if b == 0 then None else Some (reduced (width_of t) (int_div (value_of t a) (value_of t b)))) (λ z. (if k == 1 then (0 + (2 ^ w - q)) % 2 ^ w else q) ≡ z)
signed_quotient_test t a b q k w s some f g e i j =
    where_some b _ _ (λ positive. ap (λ n. if k == 1 then (0 + (2 ^ n - q)) % 2 ^ n else q) e ∙ quotient_word t a b q k s some f g positive i j)

unsigned_value : (t : StreamType) (a : ℕ) → is_signed t ≡ false → value_of t a ≡ pos a
unsigned_value t a s = value_from t a (ap (λ b. b && nat_le (2 ^ (width_of t - 1)) a) s)

pub unsigned_quotient_test : (t : StreamType) (a b : ℕ) → is_signed t ≡ false
    → a < 2 ^ width_of t → IfSome (if b == 0 then None else Some
    (reduced (width_of t) (int_div (value_of t a) (value_of t b)))) (λ z. quotient a b ≡ z)
unsigned_quotient_test t a b s f =
    where_some b _ _ (λ positive.
    let less : a / b ≤ a = div-le_self a b in
    let small : a / b < 2 ^ width_of t = omega arith in
    quotient_is a b positive ∙ sym (mod-eq_of_lt small) ∙ sym (reduced-pos (width_of t) (a / b))
    ∙ ap (λ z. reduced (width_of t) (int_div z (pos b))) (sym (unsigned_value t a s))
    ∙ ap (λ z. reduced (width_of t) (int_div (value_of t a) z)) (sym (unsigned_value t b s)))
