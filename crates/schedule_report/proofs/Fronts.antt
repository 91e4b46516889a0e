-- Fronts of a text that are of one class of bytes, and numbers at the front of a text.
use Rattle.std.proofs.Common.{◌≡◌, ◌∙◌, ℕ, ◌<◌, ◌^◌, true, List, [], ◌∷◌, ◌++◌, refl, sym, ap, rules}
use Rattle.std.specs.List.{list_all}
use Rattle.std.specs.Fmt.{decimal}
use Rattle.std.specs.Str.Parse.{digits_value}
use Rattle.std.proofs.lemmas.Str.Parse.{IsDigitsTest, IsNumeralModel, numerals_by_value}
use Rattle.std.proofs.lemmas.Fmt.{digits_decimal, decimal_injective}
use Rattle.text_scan.specs.Classes.{is_in, BeginsOutside}
use Rattle.text_scan.specs.declared.bytes.ByteClass.{ByteClass}
use Rattle.text_scan.specs.declared.bytes.ByteClass.TheVariants.{Digit}
use Rattle.text_scan.proofs.ByteTests.{and_true, clash}
use Rattle.text_scan.proofs.GapLemmas.{same_head, same_tail}

-- two fronts of one class, behind which no byte of it stands, are one front
pub front_same : (class : ByteClass) (a b c d : List ℕ) → list_all (is_in class) a ≡ true → list_all (is_in class) b ≡ true → BeginsOutside class c
    → BeginsOutside class d → a ++ c ≡ b ++ d → (a ≡ b) × (c ≡ d)
front_same class [] [] c d p q o r e = (refl, e)
front_same class [] (y ∷ b) [] d p q o r e = absurd (cc)
front_same class [] (y ∷ b) (x ∷ c) d p q o r e =
    let first : is_in class y ≡ true = (and_true (is_in class y) _ q).0 in
    absurd (clash (ap (is_in class) (same_head e) ∙ first) o)
front_same class (x ∷ a) [] c [] p q o r e = absurd (cc)
front_same class (x ∷ a) [] c (y ∷ d) p q o r e =
    let first : is_in class x ≡ true = (and_true (is_in class x) _ p).0 in
    absurd (clash (ap (is_in class) (sym (same_head e)) ∙ first) r)
front_same class (x ∷ a) (y ∷ b) c d p q o r e =
    let rest = front_same class a b c d (and_true (is_in class x) _ p).1 (and_true (is_in class y) _ q).1 o r (same_tail e) in
    let head : x ≡ y = same_head e in
    (ap (λ h. h ∷ a) head ∙ ap (λ l. y ∷ l) rest.0, rest.1)

-- what stands behind one front
pub behind_same : (front a b : List ℕ) → front ++ a ≡ front ++ b → a ≡ b
behind_same [] a b e = e
behind_same (x ∷ front) a b e = behind_same front a b (same_tail e)

-- the class of digits is that of numerals
tests_digits : IsDigitsTest (λ ds. list_all (is_in Digit) ds ≡ true)
tests_digits = search rules

-- a numeral says its value
own : IsNumeralModel (λ ds. list_all (is_in Digit) ds ≡ true) (digits_value 10)
own = numerals_by_value _ tests_digits

-- a number is written in digits
pub decimal_digits : (n : ℕ) → n < 2 ^ 64 → list_all (is_in Digit) (decimal n) ≡ true
decimal_digits n h = digits_decimal own n h

-- two numbers at the front of one text, behind which no digit stands, are one number
pub number_same : (v w : ℕ) (rest more : List ℕ) → v < 2 ^ 64 → w < 2 ^ 64 → BeginsOutside Digit rest → BeginsOutside Digit more
    → decimal v ++ rest ≡ decimal w ++ more → (v ≡ w) × (rest ≡ more)
number_same v w rest more a b o p e =
    let (f, g) = front_same Digit (decimal v) (decimal w) rest more (decimal_digits v a) (decimal_digits w b) o p e in
    (decimal_injective v w a b f, g)
