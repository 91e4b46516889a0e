-- Digits from the low end on.
use Rattle.std.proofs.Common.{◌≡◌, ℕ, suc, ◌<◌, ◌≤◌, ◌+◌, ◌-◌, ◌/◌, ◌%◌, List, [], ◌∷◌, ◌++◌, length, take, drop, set, sym, ap, ◌∙◌, append_assoc, arith}
use Rattle.std.proofs.Math.Numerals.{add-one}
use Rattle.std.proofs.lemmas.List.{drop-set}
use Rattle.word_files.specs.Written.{lower_digit, lower_digits}

digits_more : (n value : ℕ) → lower_digits (n + 1) value ≡ lower_digits n (value / 16) ++ lower_digit (value % 16) ∷ []
digits_more n value = ap (λ m. lower_digits m value) (add-one n)

-- one more digit stands first
stands : (line : List ℕ) (count place d : ℕ) → place < count → place < length line → take (count - place) (drop place (set line place d)) ≡ d ∷ take (count - (place + 1)) (drop (place + 1) line)
stands line count place d h k =
    let n : count - place ≡ suc (count - (place + 1)) = omega arith in
    ap (λ m. take m (drop place (set line place d))) n ∙ ap (take (suc (count - (place + 1)))) (drop-set line place d k)

pub one_lower : (line : List ℕ) (count place rest d : ℕ) (all : List ℕ) → place < count → count ≤ length line → d ≡ lower_digit (rest % 16)
    → all ≡ lower_digits (place + 1) rest ++ take (count - (place + 1)) (drop (place + 1) line)
    → all ≡ lower_digits place (rest / 16) ++ take (count - place) (drop place (set line place d))
one_lower line count place rest d all h k is e =
    let left = take (count - (place + 1)) (drop (place + 1) line) in
    e ∙ ap (λ x. x ++ left) (digits_more place rest)
    ∙ append_assoc (lower_digits place (rest / 16)) (lower_digit (rest % 16) ∷ []) left
    ∙ ap (λ x. lower_digits place (rest / 16) ++ x ∷ left) (sym is)
    ∙ ap (λ x. lower_digits place (rest / 16) ++ x) (sym (stands line count place d h (omega arith)))
