-- The sizes of factors and products.
use Rattle.std.proofs.Common.{◌<◌, ◌≤◌, ◌*◌, ◌^◌, ℕ, arith}
use Rattle.std.proofs.Math.Pow.{pow_mono}
use Rattle.std.proofs.lemmas.Nat.{mul-lt}

-- a number of some bits, at most 128
pub within : (n w : ℕ) → n < 2 ^ w → w ≤ 128 → n < 340282366920938463463374607431768211456
within n w h k = let most : 2 ^ w ≤ 2 ^ 128 = pow_mono k in omega arith

-- two factors of at most 64 bits
pub product_within : (m n w : ℕ) → m < 2 ^ w → n < 2 ^ w → w ≤ 64 → m * n < 340282366920938463463374607431768211456
product_within m n w h k few =
    let most : 2 ^ w ≤ 2 ^ 64 = pow_mono few in
    mul-lt m n (2 ^ 64) (2 ^ 64) (omega arith) (omega arith)

pub ruleset products = (within, product_within)
