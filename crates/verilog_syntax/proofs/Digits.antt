-- Numbers that are given or not, and the parts of a literal.
use Rattle.std.proofs.Common.{◌≡◌, ◌∙◌, ℕ, List, [], ◌∷◌, ◌++◌, Option, Some, None, drop, refl, ap, subst, not, ◌==◌, true, false, Bool}
use Rattle.std.specs.Option.{SomeIff}
use Rattle.std.specs.List.{list_all, before_first, after_first}
use Rattle.std.proofs.lemmas.List.{append-nil}
use Rattle.rtl_text.specs.Tokens.{is_quote, hex_digits}
use Rattle.text_scan.specs.Classes.{is_in, BeginsOutside}
use Rattle.text_scan.specs.declared.bytes.ByteClass.TheVariants.{NotApostrophe}
use Rattle.text_scan.proofs.ByteTests.{parts_at, before_more, not_true, clash, and_true, after_later}

pub over : {r : Option ℕ} (P : Type 0) (x : ℕ) → SomeIff r P x → r ≡ None → P → ⊥
over {r = r} P x s e = subst (λ o. SomeIff o P x) e s

pub is_given : {r : Option ℕ} (P : Type 0) (x : ℕ) {y : ℕ} → SomeIff r P x → r ≡ Some y → y ≡ x
is_given {r = r} P x s e = (subst (λ o. SomeIff o P x) e s).1

-- the parts of a literal

unquoted : (b : ℕ) → not (b == 39) ≡ true → is_quote b ≡ false
unquoted b h = not_true _ (λ t. clash h (ap not t))

quote_is : (b : ℕ) → not (b == 39) ≡ false → is_quote b ≡ true
quote_is b h = turned (b == 39) h
  where
    turned : (t : Bool) → not t ≡ false → t ≡ true
    turned true e = refl
    turned false e = cc

pub width_is : (bytes front rest : List ℕ) → bytes ≡ front ++ rest → list_all (is_in NotApostrophe) front ≡ true → BeginsOutside NotApostrophe rest → before_first is_quote bytes ≡ front
width_is bytes front [] e h o = ap (before_first is_quote) e ∙ before_more is_quote (is_in NotApostrophe) unquoted front [] h ∙ append-nil front
width_is bytes front (c ∷ cs) e h o = ap (before_first is_quote) e ∙ (parts_at is_quote (is_in NotApostrophe) unquoted front c cs h (quote_is c o)).before

after_none : (front : List ℕ) → list_all (is_in NotApostrophe) front ≡ true → after_first is_quote front ≡ []
after_none [] h = refl
after_none (x ∷ xs) h = let (a, b) = and_true (not (x == 39)) _ h in after_later is_quote x xs (unquoted x a) ∙ after_none xs b

pub digits_are : (bytes front rest : List ℕ) → bytes ≡ front ++ rest
    → list_all (is_in NotApostrophe) front ≡ true → BeginsOutside NotApostrophe rest
    → hex_digits (after_first is_quote bytes) ≡ drop 2 rest
digits_are bytes front [] e h o = ap (λ l. hex_digits (after_first is_quote l)) (e ∙ append-nil front) ∙ ap hex_digits (after_none front h)
digits_are bytes front (c ∷ []) e h o = ap (λ l. hex_digits (after_first is_quote l)) e ∙ ap hex_digits (parts_at is_quote (is_in NotApostrophe) unquoted front c [] h (quote_is c o)).after
digits_are bytes front (c ∷ d ∷ ds) e h o = ap (λ l. hex_digits (after_first is_quote l)) e ∙ ap hex_digits (parts_at is_quote (is_in NotApostrophe) unquoted front c (d ∷ ds) h (quote_is c o)).after
