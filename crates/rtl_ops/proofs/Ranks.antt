-- Numbers are in the order of their ranks.
use Rattle.std.proofs.Common.{◌≡◌, ℕ, ◌+◌, ◌-◌, ◌*◌, ◌%◌, ◌<◌, ◌≤◌, ◌^◌, Bool, true, false, ◌&&◌}
use Rattle.std.proofs.Common.{◌==◌, nat_le, nat_lt, if◌then◌else◌, refl, ◌≢◌, sym, ap, ◌∙◌, subst}
use Rattle.std.proofs.Common.{arith, ⊎_elim, ℤ, pos, ◌+ℤ◌, ◌-ℤ◌, unsigned_abs, int_lt}
use Rattle.std.proofs.lemmas.Bool.{cases_lt, cases_eq}
use Rattle.std.proofs.lemmas.Bool.Decides.{nat_tests}
use Rattle.std.proofs.lemmas.Nat.{pow-add, mod-mul-add}
use Rattle.std.proofs.Math.Nat.{mod-eq_of_lt}
use Rattle.std.specs.Ordering.{int_cmp, nat_cmp, is_eq, is_ne, is_lt, is_le, is_gt, is_ge}
use Rattle.fix_arith.specs.declared.types.StreamType.{StreamType}
use Rattle.fix_arith.specs.Types.{width_of, is_signed}
use Rattle.fix_arith.specs.Values.{value_of, reduced}
use Rattle.fix_arith.specs.Table.{bit_of}
use Rattle.fix_arith.proofs.Residues.{reduced-value}
use Rattle.rtl_ir.specs.Value.{bit}
use Rattle.rtl_ops.specs.Orders.{depth_of, rank_of}
use borrow.Author.Differences.{same_in, sum_is_lem, neg_is, abs_is, true_is_lt, false_is_lt}

pub twice_half : (w : ℕ) → 1 ≤ w → 2 ^ w ≡ 2 ^ (w - 1) * 2
twice_half w h = ap (λ k. 2 ^ k) (omega arith) ∙ pow-add 2 (w - 1) 1

-- half of the words of a signed type are below 0
signed_rank : (a h m : ℕ) → m ≡ h * 2 → a < m → unsigned_abs ((if nat_le h a then pos a -ℤ pos m else pos a) +ℤ pos h) ≡ (a + h) % m
signed_rank a h m twice fits =
    ⊎_elim
    (λ low. let test : nat_le h a ≡ false = grind (arith, nat_tests) in let lt : a + h < m = omega arith in rw test (sym (mod-eq_of_lt lt)))
    (λ (high : h ≤ a).
    let test : nat_le h a ≡ true = grind (arith, nat_tests) in
    let wraps : a + h ≡ 1 * m + (a - h) = omega arith in
    let rest : (a + h) % m ≡ a - h = ap (λ k. k % m) wraps ∙ mod-mul-add 1 m (a - h) (omega arith) in
    rw test (omega (arith, sum_is_lem, neg_is, abs_is)))
    (cases_lt a h)

-- a word and the half of all words
pub rank_by_half : (t : StreamType) (a w : ℕ) → is_signed t ≡ true → w ≡ width_of t → 1 ≤ w → a < 2 ^ w → (a + 2 ^ (w - 1)) % 2 ^ w ≡ rank_of t a
unfolding value_of
rank_by_half t a w s e some fits =
    let here : (a + 2 ^ (width_of t - 1)) % 2 ^ width_of t ≡ rank_of t a = rw s
    (sym (signed_rank a (2 ^ (width_of t - 1)) (2 ^ width_of t)
    (twice_half (width_of t) (omega arith)) (subst (λ k. a < 2 ^ k) e fits))) in
    ap (λ k. (a + 2 ^ (k - 1)) % 2 ^ k) e ∙ here

-- a word of an unsigned type is its number
pub rank_of_unsigned : (t : StreamType) (a : ℕ) → is_signed t ≡ false → a ≡ rank_of t a
unfolding value_of
rank_of_unsigned t a s = rw s (omega arith)

-- a number is its rank, less what the least number lies below 0
value_by_rank : (t : StreamType) (a : ℕ) → 1 ≤ width_of t → a < 2 ^ width_of t → value_of t a ≡ pos (rank_of t a) -ℤ pos (depth_of t)
unfolding value_of
value_by_rank t a some fits =
    let twice = twice_half (width_of t) some in
    elim (is_signed t) as (λ (s : Bool). (if s
    && nat_le (2 ^ (width_of t - 1)) a then pos a -ℤ pos (2 ^ width_of t) else pos a) ≡ pos
    (unsigned_abs ((if s && nat_le (2 ^ (width_of t - 1)) a then pos a -ℤ pos
    (2 ^ width_of t) else pos a) +ℤ pos (if s then 2 ^ (width_of t - 1) else 0))) -ℤ pos
    (if s then 2 ^ (width_of t - 1) else 0)) [
      | true ↦ elim (nat_le (2 ^ (width_of t - 1)) a) as
          (λ (b : Bool). nat_le (2 ^ (width_of t - 1)) a ≡ b
          → (if b then pos a -ℤ pos (2 ^ width_of t) else pos a) ≡ pos
          (unsigned_abs ((if b then pos a -ℤ pos (2 ^ width_of t) else pos a) +ℤ pos
          (2 ^ (width_of t - 1)))) -ℤ pos (2 ^ (width_of t - 1))) [
            | true ↦ λ e. let high : 2 ^ (width_of t - 1) ≤ a = grind (arith, nat_tests) in omega (arith, same_in, sum_is_lem, neg_is, abs_is)
            | false ↦ λ e. omega (arith, same_in, sum_is_lem, neg_is, abs_is)
          ] refl
      | false ↦ omega (arith, same_in, sum_is_lem, neg_is, abs_is)
    ]

less_by : (x y : ℤ) (p q h : ℕ) → x ≡ pos p -ℤ pos h → y ≡ pos q -ℤ pos h → int_lt x y ≡ nat_lt p q
less_by x y p q h e f =
    ⊎_elim
    (λ (low : p < q). let test : nat_lt p q ≡ true = grind (arith, nat_tests) in sym (test ∙ true_is_lt x y (rw (e, f) (omega (arith, sum_is_lem, neg_is)))))
    (λ (high : q ≤ p). let test : nat_lt p q ≡ false = grind (arith, nat_tests) in sym (test ∙ false_is_lt x y (rw (e, f) (omega (arith, sum_is_lem, neg_is)))))
    (cases_lt p q)

cmp_by : (x y : ℤ) (p q h : ℕ) → x ≡ pos p -ℤ pos h → y ≡ pos q -ℤ pos h → int_cmp x y ≡ nat_cmp p q
cmp_by x y p q h e f =
    let one = less_by x y p q h e f in
    let other = less_by y x q p h f e in
    rw (one, other) (grind (arith, nat_tests))

-- numbers of a type compare as their ranks
pub cmp_of_ranks : (t : StreamType) (a b : ℕ) → 1 ≤ width_of t → a < 2 ^ width_of t → b < 2 ^ width_of t → int_cmp (value_of t a) (value_of t b) ≡ nat_cmp (rank_of t a) (rank_of t b)
cmp_of_ranks t a b some f g = cmp_by (value_of t a) (value_of t b) (rank_of t a) (rank_of t b) (depth_of t) (value_by_rank t a some f) (value_by_rank t b some g)

same_from_rank : (t : StreamType) (a b : ℕ) → 1 ≤ width_of t → a < 2 ^ width_of t → b < 2 ^ width_of t → rank_of t a ≡ rank_of t b → a ≡ b
same_from_rank t a b some f g e =
    let same : value_of t a ≡ value_of t b = value_by_rank t a some f ∙ ap (λ r. pos r -ℤ pos (depth_of t)) e ∙ sym (value_by_rank t b some g) in
    sym (reduced-value t a f) ∙ ap (reduced (width_of t)) same ∙ reduced-value t b g

rank_test : (t : StreamType) (a b : ℕ) → 1 ≤ width_of t → a < 2 ^ width_of t → b < 2 ^ width_of t → (a == b) ≡ (rank_of t a == rank_of t b)
rank_test t a b some f g =
    ⊎_elim
    (λ (e : a ≡ b). let same : rank_of t a ≡ rank_of t b = ap (rank_of t) e in grind (arith, nat_tests))
    (λ (n : a ≢ b). let other : rank_of t a ≢ rank_of t b = λ e. n (same_from_rank t a b some f g e) in grind (arith, nat_tests))
    (cases_eq a b)

-- one bit turned
pub turned_bit : (w x y : ℕ) → w ≡ 1 → x ≡ y → 2 ^ w - 1 - x ≡ 1 - y
turned_bit w x y e f = rw (e, f) refl

eq_of_cmp : (x y : ℕ) → is_eq (nat_cmp x y) ≡ (x == y)
eq_of_cmp x y = grind (arith, nat_tests)

ne_of_cmp : (x y : ℕ) → bit_of (is_ne (nat_cmp x y)) ≡ 1 - bit_of (x == y)
ne_of_cmp x y = grind (arith, nat_tests)

lt_of_cmp : (x y : ℕ) → is_lt (nat_cmp x y) ≡ nat_lt x y
lt_of_cmp x y = grind (arith, nat_tests)

le_of_cmp : (x y : ℕ) → bit_of (is_le (nat_cmp x y)) ≡ 1 - bit_of (nat_lt y x)
le_of_cmp x y = grind (arith, nat_tests)

gt_of_cmp : (x y : ℕ) → is_gt (nat_cmp x y) ≡ is_lt (nat_cmp y x)
gt_of_cmp x y = grind (arith, nat_tests)

ge_of_cmp : (x y : ℕ) → is_ge (nat_cmp x y) ≡ is_le (nat_cmp y x)
ge_of_cmp x y = grind (arith, nat_tests)

module _ (t : StreamType) (a b : ℕ) (some : 1 ≤ width_of t) (f : a < 2 ^ width_of t) (g : b < 2 ^ width_of t) where
  pub equal_test : bit (a == b) ≡ bit_of (is_eq (int_cmp (value_of t a) (value_of t b)))
  equal_test = ap bit (rank_test t a b some f g ∙ sym (eq_of_cmp (rank_of t a) (rank_of t b))) ∙ ap (λ o. bit_of (is_eq o)) (sym (cmp_of_ranks t a b some f g))

  pub unequal_test : 1 - bit_of (is_eq (int_cmp (value_of t a) (value_of t b))) ≡ bit_of (is_ne (int_cmp (value_of t a) (value_of t b)))
  unequal_test = rw (cmp_of_ranks t a b some f g) (ap (λ s. 1 - bit_of s) (eq_of_cmp (rank_of t a) (rank_of t b)) ∙ sym (ne_of_cmp (rank_of t a) (rank_of t b)))

  pub less_test : bit (nat_lt (rank_of t a) (rank_of t b)) ≡ bit_of (is_lt (int_cmp (value_of t a) (value_of t b)))
  less_test = ap bit (sym (lt_of_cmp (rank_of t a) (rank_of t b))) ∙ ap (λ o. bit_of (is_lt o)) (sym (cmp_of_ranks t a b some f g))

  pub at_most_test : 1 - bit_of (is_lt (int_cmp (value_of t b) (value_of t a))) ≡ bit_of (is_le (int_cmp (value_of t a) (value_of t b)))
  at_most_test = rw (cmp_of_ranks t a b some f g, cmp_of_ranks t b a some g f) (ap (λ s. 1 - bit_of s) (lt_of_cmp (rank_of t b) (rank_of t a)) ∙ sym (le_of_cmp (rank_of t a) (rank_of t b)))

  pub greater_test : is_lt (int_cmp (value_of t b) (value_of t a)) ≡ is_gt (int_cmp (value_of t a) (value_of t b))
  greater_test = rw (cmp_of_ranks t a b some f g, cmp_of_ranks t b a some g f) (sym (gt_of_cmp (rank_of t a) (rank_of t b)))

  pub at_least_test : is_le (int_cmp (value_of t b) (value_of t a)) ≡ is_ge (int_cmp (value_of t a) (value_of t b))
  at_least_test = rw (cmp_of_ranks t a b some f g, cmp_of_ranks t b a some g f) (sym (ge_of_cmp (rank_of t a) (rank_of t b)))
