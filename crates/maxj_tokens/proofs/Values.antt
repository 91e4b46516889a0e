-- What is no hexadecimal integer.
use Rattle.std.proofs.Common.{◌≡◌, ◌∙◌, ◌⊎◌, inl, inr, ◌==◌, ℕ, List, [], ◌∷◌, ◌++◌, length, true, false, ap, refl, arith}
use Rattle.grammar.specs.Bytes.{is_hex}
use Rattle.maxj_tokens.specs.Tokens.{is_hex_integer}
use Rattle.text_scan.specs.Classes.{BeginsOutside}
use Rattle.text_scan.specs.declared.bytes.ByteClass.TheVariants.{Hex}
use Rattle.text_scan.proofs.ByteTests.{eq_same, not_all}

-- no digits behind `0x`, or another byte among them
pub not_hex : (digits front rest : List ℕ) → digits ≡ front ++ rest → BeginsOutside Hex rest → ((length front == 0) ≡ true) ⊎ ((length rest == 0) ≡ false) → is_hex_integer (48 ∷ 120 ∷ digits) ≡ false
not_hex digits front rest e o some = ap (λ l. is_hex_integer (48 ∷ 120 ∷ l)) e ∙ by front rest o some
  where
    by : (front rest : List ℕ) → BeginsOutside Hex rest → ((length front == 0) ≡ true) ⊎ ((length rest == 0) ≡ false) → is_hex_integer (48 ∷ 120 ∷ front ++ rest) ≡ false
    by [] [] o some = refl
    by [] (r ∷ rs) o some = rw o refl
    by (x ∷ front) (r ∷ rs) o some = not_all is_hex (x ∷ front) r rs o
    by (x ∷ front) [] o (inl f) = let g = eq_same (length (x ∷ front)) 0 f in absurd (omega arith)
    by (x ∷ front) [] o (inr f) = cc
