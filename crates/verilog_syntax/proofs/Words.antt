-- What word is what token.
use Rattle.std.proofs.Common.{◌≡◌, ◌∙◌, inl, inr, ℕ, ◌==◌, Bool, true, false, not, cond, List, [], ◌∷◌, ◌++◌, Some, None, refl, sym, ap, arith}
use Rattle.std.specs.List.{list_all, list_any, before_first}
use Rattle.std.specs.Str.{bytes_eq}
use Rattle.std.proofs.lemmas.Bool.Decides.{nat_tests}
use Rattle.grammar.specs.Bytes.{is_digit, is_hex, decimal_value}
use Rattle.rtl_text.specs.Tokens.{Token, token_of, is_word, is_number, is_literal, is_hex_part, is_quote, is_sign, signs}
use Rattle.rtl_ir.specs.Names.{begins_name, continues_name}
use Rattle.text_scan.proofs.ByteTests.{and_true, or_true, clash, not_true, true_or_false, eq_same, bytes_same, not_all, before_here, before_later, parts_at, before_more}
use Rattle.verilog_syntax.specs.Scanning.{literal_width, literal_value}

-- classes of bytes

pub start_is_name : (b : ℕ) → begins_name b ≡ true → continues_name b ≡ true
start_is_name b e = grind (arith, nat_tests)

pub start_is_no_digit : (b : ℕ) → begins_name b ≡ true → is_digit b ≡ false
start_is_no_digit b e = grind (arith, nat_tests)

pub digit_is_no_start : (b : ℕ) → is_digit b ≡ true → begins_name b ≡ false
digit_is_no_start b e = grind (arith, nat_tests)

pub digit_is_no_quote : (b : ℕ) → is_digit b ≡ true → is_quote b ≡ false
digit_is_no_quote b h = not_true _ (λ t. clash (sym (ap is_digit (eq_same b 39 t)) ∙ h) refl)

-- a word whose first byte begins no sign is no sign

starts_outside : (ℕ → Bool) → List ℕ → Bool
starts_outside p [] = false
starts_outside p (c ∷ cs) = not (p c)

no_match : (p : ℕ → Bool) (b : ℕ) (bs s : List ℕ) → p b ≡ true → starts_outside p s ≡ true → bytes_eq (b ∷ bs) s ≡ true → ⊥
unfolding starts_outside
no_match p b bs [] h o e = cc
no_match p b bs (c ∷ cs) h o e =
    let same = bytes_same (b ∷ bs) (c ∷ cs) e in
    let first : b ≡ c = cc in
    clash o (ap not (sym (ap p first) ∙ h))

no_sign : (p : ℕ → Bool) (b : ℕ) (bs : List ℕ) → p b ≡ true → (ss : List (List ℕ)) → list_all (starts_outside p) ss ≡ true → list_any (bytes_eq (b ∷ bs)) ss ≡ false
no_sign p b bs h [] e = refl
no_sign p b bs h (s ∷ ss) e =
    let (a, r) = and_true (starts_outside p s) _ e in
    not_true _ (λ t. elim (or_true (bytes_eq (b ∷ bs) s) _ t) [ inl w ↦ no_match p b bs s h a w | inr w ↦ clash w (no_sign p b bs h ss r) ])

start_no_sign : (b : ℕ) (bs : List ℕ) → begins_name b ≡ true → is_sign (b ∷ bs) ≡ false
unfolding starts_outside
start_no_sign b bs h = no_sign begins_name b bs h signs refl

digit_no_sign : (b : ℕ) (bs : List ℕ) → is_digit b ≡ true → is_sign (b ∷ bs) ≡ false
unfolding starts_outside
digit_no_sign b bs h = no_sign is_digit b bs h signs refl

-- words that begin with no digit are no numbers and no literals

no_number : (b : ℕ) (bs : List ℕ) → is_digit b ≡ false → is_number (b ∷ bs) ≡ false
no_number b bs e = not_true _ (λ t. clash (and_true (is_digit b) _ t).0 e)

no_literal : (b : ℕ) (bs : List ℕ) → is_digit b ≡ false → is_literal (b ∷ bs) ≡ false
no_literal b bs e = not_true _ (λ t. elim (true_or_false (is_quote b)) [
  | inl h ↦ clash (sym (ap is_number (before_here is_quote b bs h)) ∙ (and_true _ _ t).0) refl
  | inr h ↦ clash (sym (ap is_number (before_later is_quote b bs h)) ∙ (and_true _ _ t).0) (no_number b (before_first is_quote bs) e)
])

-- names

pub token_of_word : (w : List ℕ) → is_word w ≡ true → token_of w ≡ Some (Token.Word w)
token_of_word w e = rw e refl

pub no_longer_word : (b : ℕ) (bs : List ℕ) → begins_name b ≡ true → list_all continues_name bs ≡ false → token_of (b ∷ bs) ≡ None
no_longer_word b bs h e =
    let digit = start_is_no_digit b h in
    let word : is_word (b ∷ bs) ≡ false = not_true _ (λ t. clash (and_true (begins_name b) _ t).1 e) in
    rw (word, no_number b bs digit, no_literal b bs digit, start_no_sign b bs h) refl

-- numbers and literals

no_word : (b : ℕ) (bs : List ℕ) → is_digit b ≡ true → is_word (b ∷ bs) ≡ false
no_word b bs d = not_true _ (λ t. clash (and_true (begins_name b) _ t).0 (digit_is_no_start b d))

pub token_of_number : (w : List ℕ) → is_number w ≡ true → token_of w ≡ Some (Token.Number (decimal_value w))
token_of_number [] e = cc
token_of_number (b ∷ bs) e = rw (no_word b bs (and_true (is_digit b) _ e).0) (rw e refl)

-- digits and then a byte that is none
number_ends : (b : ℕ) (bs : List ℕ) (c : ℕ) (cs : List ℕ) → is_digit c ≡ false → is_number (b ∷ bs ++ c ∷ cs) ≡ false
number_ends b bs c cs e = not_true _ (λ t. clash (and_true (is_digit b) _ t).1 (not_all is_digit bs c cs e))

-- digits and then a byte that is no digit: a literal, where a quote and a part of hexadecimal digits follow
pub token_behind : (b : ℕ) (bs : List ℕ) (c : ℕ) (cs : List ℕ) → list_all is_digit (b ∷ bs) ≡ true → is_digit c ≡ false
    → token_of (b ∷ bs ++ c ∷ cs) ≡ cond (is_literal (b ∷ bs ++ c ∷ cs)) (Some (Token.Literal (literal_width (b ∷ bs ++ c ∷ cs)) (literal_value (b ∷ bs ++ c ∷ cs)))) None
token_behind b bs c cs d e =
    let first = (and_true (is_digit b) _ d).0 in
    rw (no_word b (bs ++ c ∷ cs) first, number_ends b bs c cs e, digit_no_sign b (bs ++ c ∷ cs) first) refl

literal_quote : (ds cs : List ℕ) → list_all is_digit ds ≡ true → is_number ds ≡ true → is_literal (ds ++ 39 ∷ cs) ≡ is_hex_part cs
literal_quote ds cs d n =
    let r = parts_at is_quote is_digit digit_is_no_quote ds 39 cs d refl in
    rw (r.before, r.after, n) refl

number_of : (b : ℕ) (bs : List ℕ) → list_all is_digit (b ∷ bs) ≡ true → is_number (b ∷ bs) ≡ true
number_of b bs d = d

pub token_of_literal : (b : ℕ) (bs cs : List ℕ) → list_all is_digit (b ∷ bs) ≡ true → is_hex_part cs ≡ true
    → token_of (b ∷ bs ++ 39 ∷ cs) ≡ Some (Token.Literal (literal_width (b ∷ bs ++ 39 ∷ cs)) (literal_value (b ∷ bs ++ 39 ∷ cs)))
token_of_literal b bs cs d h = token_behind b bs 39 cs d refl ∙ (rw (literal_quote (b ∷ bs) cs d (number_of b bs d), h) refl)

-- a literal and more bytes, of which the first is no hexadecimal digit
pub no_longer_literal : (b : ℕ) (bs cs : List ℕ) → list_all is_digit (b ∷ bs) ≡ true → is_hex_part cs ≡ false → token_of (b ∷ bs ++ 39 ∷ cs) ≡ None
no_longer_literal b bs cs d h = token_behind b bs 39 cs d refl ∙ (rw (literal_quote (b ∷ bs) cs d (number_of b bs d), h) refl)

pub hex_part_ends : (hs : List ℕ) (c : ℕ) (cs : List ℕ) → is_hex_part hs ≡ true → is_hex c ≡ false → is_hex_part (hs ++ c ∷ cs) ≡ false
hex_part_ends [] c cs h e = cc
hex_part_ends (h ∷ []) c cs p e = cc
hex_part_ends (h ∷ d ∷ ds) c cs p e = not_true _ (λ t. clash (and_true (is_hex d) _ (and_true (h == 104) _ t).1).1 (not_all is_hex ds c cs e))

-- digits and then a byte that is neither a digit nor a quote
pub no_longer_number : (b : ℕ) (bs : List ℕ) (c : ℕ) (cs : List ℕ) → list_all is_digit (b ∷ bs) ≡ true → is_digit c ≡ false → is_quote c ≡ false → token_of (b ∷ bs ++ c ∷ cs) ≡ None
no_longer_number b bs c cs d e q =
    let before : before_first is_quote (b ∷ bs ++ c ∷ cs) ≡ b ∷ bs ++ c
    ∷ before_first is_quote cs = before_more is_quote is_digit digit_is_no_quote (b ∷ bs) (c
    ∷ cs) d ∙ ap (λ l. b ∷ bs ++ l) (before_later is_quote c cs q) in
    let literal : is_literal (b ∷ bs ++ c ∷ cs) ≡ false = not_true _ (λ t. clash (sym (ap is_number before) ∙ (and_true _ _ t).0) (number_ends b bs c (before_first is_quote cs) e)) in
    token_behind b bs c cs d e ∙ (rw literal refl)

-- signs

pub sign_alone : (b : ℕ) (bs : List ℕ) → begins_name b ≡ false → is_digit b ≡ false → token_of (b ∷ bs) ≡ cond (is_sign (b ∷ bs)) (Some (Token.Sign (b ∷ bs))) None
sign_alone b bs start digit =
    let word : is_word (b ∷ bs) ≡ false = not_true _ (λ t. clash (and_true (begins_name b) _ t).0 start) in
    rw (word, no_number b bs digit, no_literal b bs digit) refl
