-- Words whose halves stand in two lists.
use Rattle.std.proofs.Common.{◌≡◌, ℕ, zero, suc, ◌+◌, ◌*◌, ◌%◌, true, List, [], ◌∷◌, length, get_or, set, replicate, refl, ap, arith}
use mathlib.Core.Path.{fun_ext}
use Rattle.verilog_sim.specs.Halves.{words}
use Rattle.verilog_sim.proofs.Instructions.{read_by}

pub length_words : (low high : List ℕ) → length low ≡ length high → length (words low high) ≡ length low
length_words [] high e = refl
length_words (x ∷ low) [] e = absurd (omega (arith, e))
length_words (x ∷ low) (y ∷ high) e = ap suc (length_words low high (omega (arith, e)))

pub get_words : (low high : List ℕ) (n : ℕ) → length low ≡ length high → get_or (words low high) n 0 ≡ get_or low n 0 + get_or high n 0 * 18446744073709551616
get_words [] [] n e = omega arith
get_words [] (y ∷ high) n e = absurd (omega (arith, e))
get_words (x ∷ low) [] n e = absurd (omega (arith, e))
get_words (x ∷ low) (y ∷ high) zero e = refl
get_words (x ∷ low) (y ∷ high) (suc n) e = get_words low high n (omega (arith, e))

pub set_words : (low high : List ℕ) (n x y w : ℕ) → length low ≡ length high → x + y * 18446744073709551616 ≡ w → words (set low n x) (set high n y) ≡ set (words low high) n w
set_words [] high n x y w e is = refl
set_words (a ∷ low) [] n x y w e is = absurd (omega (arith, e))
set_words (a ∷ low) (b ∷ high) zero x y w e is = ap (λ k. k ∷ words low high) is
set_words (a ∷ low) (b ∷ high) (suc n) x y w e is = ap (λ l. (a + b * 18446744073709551616) ∷ l) (set_words low high n x y w (omega (arith, e)) is)

-- the low half of a word alone, where its high one is 0
pub set_low : (low high : List ℕ) (n x : ℕ) → length low ≡ length high → get_or high n 0 ≡ 0 → words (set low n x) high ≡ set (words low high) n x
set_low [] high n x e none = refl
set_low (a ∷ low) [] n x e none = absurd (omega (arith, e))
set_low (a ∷ low) (b ∷ high) zero x e none = let is : x + b * 18446744073709551616 ≡ x = omega (arith, none) in ap (λ k. k ∷ words low high) is
set_low (a ∷ low) (b ∷ high) (suc n) x e none = ap (λ l. (a + b * 18446744073709551616) ∷ l) (set_low low high n x (omega (arith, e)) none)

pub words_zeros : (n : ℕ) → words (replicate n 0) (replicate n 0) ≡ replicate n 0
words_zeros zero = refl
words_zeros (suc n) = ap (λ l. 0 ∷ l) (words_zeros n)

-- the low halves of words
pub read_low : (low high : List ℕ) → length low ≡ length high → (λ (n : ℕ). get_or low n 0 % 18446744073709551616) ≡ read_by true (words low high)
read_low low high e = fun_ext (λ n. (let is = get_words low high n e in let a = get_or low n 0 in let b = get_or high n 0 in low_of a b (get_or (words low high) n 0) is))
  where
    low_of : (a b w : ℕ) → w ≡ a + b * 18446744073709551616 → a % 18446744073709551616 ≡ w % 18446744073709551616
    low_of a b w is = omega (arith, is)
