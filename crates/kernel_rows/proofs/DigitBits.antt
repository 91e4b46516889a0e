-- The bits of the digits of a chain.
use Rattle.std.proofs.Common.{◌≡◌, ℕ, ◌+◌, ◌<◌, List, [], ◌∷◌, ◌++◌, Bool, arith, refl, ap, sym, ◌∙◌, true, false, suc, drop, length, get_or, add-one, eq-eqb}
use Rattle.std.specs.Prelude.{reverse, ◌==◌}
use Rattle.std.proofs.Math.Seq.{drop-cons}
use Rattle.std.proofs.lemmas.List.{reverse-append}
use Rattle.std.proofs.lemmas.Bool.Decides.{nat_tests}
use Rattle.kernel_meaning.specs.declared.state.Digit.{Digit}
use Rattle.kernel_meaning.specs.LibraryRows.{bits_of}

bits-append : (xs ys : List Digit) (chain : ℕ)
    → bits_of (xs ++ ys) chain ≡ bits_of xs chain + bits_of ys chain
bits-append [] ys chain = omega arith
bits-append (x ∷ xs) ys chain = let e = bits-append xs ys chain in omega arith

-- their order doesn't matter
pub bits-reverse : (xs : List Digit) (chain : ℕ)
    → bits_of (reverse xs) chain ≡ bits_of xs chain
bits-reverse [] chain = refl
bits-reverse (x ∷ xs) chain =
    let e = bits-reverse xs chain in
    let a = bits-append (reverse xs) (x ∷ []) chain in
    ap (λ l. bits_of l chain) (reverse-append (x ∷ []) xs) ∙ omega (arith, a, e)

pub ruleset bits_reversed = bits-reverse

bits_by : (rest bits : ℕ) (test b : Bool) → test ≡ b
    → rest + elim test [ true ↦ bits | false ↦ 0 ] ≡ rest + elim b [ true ↦ bits | false ↦ 0 ]
bits_by rest bits test b e = ap (λ t. rest + elim t [ true ↦ bits | false ↦ 0 ]) e

-- a digit of the chain is counted
pub bits-counted : (xs : List Digit) (i chain : ℕ) (d : Digit) → i < length xs
    → (get_or xs i d).chain ≡ chain
    → bits_of (drop i xs) chain ≡ bits_of (drop (i + 1) xs) chain + (get_or xs i d).bits
bits-counted xs i chain d h e =
    ap (λ l. bits_of l chain) (drop-cons xs i d h)
    ∙ bits_by (bits_of (drop (suc i) xs) chain) (get_or xs i d).bits
    ((get_or xs i d).chain == chain) true (eq-eqb _ _ e)
    ∙ ap (λ j. bits_of (drop j xs) chain + (get_or xs i d).bits) (sym (add-one i))

not_same : (a b : ℕ) → (a ≡ b → ⊥) → (a == b) ≡ false
not_same a b h = grind (arith, nat_tests)

-- a digit of another chain isn't
pub bits-skipped : (xs : List Digit) (i chain : ℕ) (d : Digit) → i < length xs
    → ((get_or xs i d).chain ≡ chain → ⊥)
    → bits_of (drop i xs) chain ≡ bits_of (drop (i + 1) xs) chain
bits-skipped xs i chain d h n =
    ap (λ l. bits_of l chain) (drop-cons xs i d h)
    ∙ bits_by (bits_of (drop (suc i) xs) chain) (get_or xs i d).bits
    ((get_or xs i d).chain == chain) false (not_same _ _ n)
    ∙ ap (λ j. bits_of (drop j xs) chain + 0) (sym (add-one i))
    ∙ omega arith
