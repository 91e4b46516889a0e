-- Laws of products of signed numbers.
use Rattle.std.proofs.Common.{◌≡◌, ◌*◌, arith, ap, ℤ, ◌+ℤ◌, ◌*ℤ◌, neg_ℤ}
use borrow.Author.Differences.{up, down, same_in, sum_is_lem, neg_is, product_is}

pub mul_sum : (a b c : ℤ) → (a +ℤ b) *ℤ c ≡ a *ℤ c +ℤ b *ℤ c
mul_sum a b c =
    let sum = sum_is_lem a b in
    let above = ap (λ k. k * up c) sum in
    let below = ap (λ k. k * down c) sum in
    omega (arith, same_in, sum_is_lem, product_is)

pub mul_assoc : (a b c : ℤ) → (a *ℤ b) *ℤ c ≡ a *ℤ (b *ℤ c)
mul_assoc a b c =
    let left = product_is a b in
    let right = product_is b c in
    omega (
      arith,
      same_in,
      product_is (a *ℤ b) c,
      product_is a (b *ℤ c),
      ap (λ k. k * up c) left.0,
      ap (λ k. k * down c) left.0,
      ap (λ k. k * up c) left.1,
      ap (λ k. k * down c) left.1,
      ap (λ k. up a * k) right.0,
      ap (λ k. down a * k) right.0,
      ap (λ k. up a * k) right.1,
      ap (λ k. down a * k) right.1,
    )

pub neg_mul : (a b : ℤ) → neg_ℤ a *ℤ b ≡ neg_ℤ (a *ℤ b)
neg_mul a b =
    let turned = neg_is a in
    omega (arith, same_in, neg_is, product_is, ap (λ k. k * up b) turned.0, ap (λ k. k * down b) turned.0, ap (λ k. k * up b) turned.1, ap (λ k. k * down b) turned.1)
