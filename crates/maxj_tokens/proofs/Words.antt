-- What word is what token.
use Rattle.std.proofs.Common.{◌≡◌, ◌∙◌, inl, inr, ℕ, ◌==◌, Bool, true, false, cond, not, List, [], ◌∷◌, ◌++◌, Some, None, IsSome, refl, sym, ap, subst, arith}
use Rattle.std.specs.List.{list_all, list_any, before_first, after_first}
use Rattle.std.specs.Str.{bytes_eq}
use Rattle.std.proofs.lemmas.Bool.Decides.{nat_tests}
use Rattle.grammar.specs.Bytes.{is_digit, is_letter, is_hex}
use Rattle.maxj_tokens.specs.Tokens.{Token, is_name_start, is_name_byte, is_word, are_digits}
use Rattle.maxj_tokens.specs.Tokens.{is_decimal_integer, is_hex_integer, is_suffix, is_integer}
use Rattle.maxj_tokens.specs.Tokens.{is_dot, is_decimal, is_quote, is_string_byte, is_string, signs}
use Rattle.maxj_tokens.specs.Tokens.{is_sign, token_of}
use Rattle.text_scan.proofs.ByteTests.{and_true, both_true, or_true, or_left, or_right, clash}
use Rattle.text_scan.proofs.ByteTests.{not_true, true_or_false, eq_same, bytes_same, before_here}
use Rattle.text_scan.proofs.ByteTests.{before_later, after_here, after_later, parts_at}

-- classes of bytes

pub digit_is_no_start : (b : ℕ) → is_digit b ≡ true → is_name_start b ≡ false
digit_is_no_start b e = grind (arith, nat_tests)

pub start_is_no_digit : (b : ℕ) → is_name_start b ≡ true → is_digit b ≡ false
start_is_no_digit b e = grind (arith, nat_tests)

pub digit_is_name : (b : ℕ) → is_digit b ≡ true → is_name_byte b ≡ true
digit_is_name b e = or_right (is_letter b) _ (or_left (is_digit b) _ e)

pub start_is_name : (b : ℕ) → is_name_start b ≡ true → is_name_byte b ≡ true
start_is_name b e = elim (or_true (is_letter b) _ e) [
  | inl w ↦ or_left (is_letter b) _ w
  | inr w ↦ or_right (is_letter b) _ (or_right (is_digit b) _ w)
]

pub hex_is_name : (b : ℕ) → is_hex b ≡ true → is_name_byte b ≡ true
hex_is_name b e = grind (arith, nat_tests)

pub suffix_is_name : (b : ℕ) → is_suffix b ≡ true → is_name_byte b ≡ true
suffix_is_name b e = elim (or_true (b == 76) _ e) [
  | inl w ↦ (let q : is_name_byte b ≡ is_name_byte 76 = ap is_name_byte (eq_same _ _ w) in q)
  | inr w ↦ (let q : is_name_byte b ≡ is_name_byte 108 = ap is_name_byte (eq_same _ _ w) in q)
]

pub all_are : (p q : ℕ → Bool) → ((b : ℕ) → p b ≡ true → q b ≡ true) → (xs : List ℕ) → list_all p xs ≡ true → list_all q xs ≡ true
all_are p q f [] e = refl
all_are p q f (x ∷ xs) e = let (a, b) = and_true (p x) _ e in both_true (q x) _ (f x a) (all_are p q f xs b)

pub parts_are : (p q : ℕ → Bool) → ((b : ℕ) → p b ≡ true → q b ≡ true) → (xs : List ℕ) → list_all q (before_first p xs) ≡ true → list_all q (after_first p xs) ≡ true → list_all q xs ≡ true
parts_are p q f [] e g = refl
parts_are p q f (x ∷ xs) e g = elim (true_or_false (p x)) [
  | inl h ↦ both_true (q x) _ (f x h) (sym (ap (list_all q) (after_here p x xs h)) ∙ g)
  | inr h ↦
      let (a, b) = and_true (q x) _ (sym (ap (list_all q) (before_later p x xs h)) ∙ e) in
      both_true (q x) _ a (parts_are p q f xs b (sym (ap (list_all q) (after_later p x xs h)) ∙ g))
]

-- numbers

hex_first : (b : ℕ) (bs : List ℕ) → (b == 48) ≡ false → is_hex_integer (b ∷ bs) ≡ false
hex_first b [] e = refl
hex_first b (x ∷ []) e = refl
hex_first b (x ∷ d ∷ ds) e = not_true _ (λ t. clash (and_true (b == 48) _ t).0 e)

decimal_first : (b : ℕ) (bs : List ℕ) → is_digit b ≡ false → is_decimal_integer (b ∷ bs) ≡ false
decimal_first b bs e = not_true _ (λ t. clash (and_true (is_digit b) _ t).0 e)

no_zero : (b : ℕ) → is_digit b ≡ false → (b == 48) ≡ false
no_zero b e = not_true _ (λ t. clash (ap is_digit (eq_same _ _ t)) e)

-- a word that begins with no digit is no number
pub no_integer : (b : ℕ) (bs : List ℕ) → is_digit b ≡ false → is_integer (b ∷ bs) ≡ false
no_integer b bs e = not_true _ (λ t.
    elim (or_true (is_decimal_integer (b ∷ bs)) _ t) [
      | inl w ↦ clash w (decimal_first b bs e)
      | inr u ↦ elim (or_true (is_hex_integer (b ∷ bs)) _ u) [
        | inl w ↦ clash w (hex_first b bs (no_zero b e))
        | inr u ↦ elim (true_or_false (is_suffix b)) [
          | inl h ↦
              let none = before_here is_suffix b bs h in
              elim (or_true _ _ (and_true _ _ u).0) [
                | inl w ↦ clash (sym (ap is_decimal_integer none) ∙ w) refl
                | inr w ↦ clash (sym (ap is_hex_integer none) ∙ w) refl
              ]
          | inr h ↦
              let more = before_later is_suffix b bs h in
              elim (or_true _ _ (and_true _ _ u).0) [
                | inl w ↦ clash (sym (ap is_decimal_integer more) ∙ w) (decimal_first b (before_first is_suffix bs) e)
                | inr w ↦ clash (sym (ap is_hex_integer more) ∙ w) (hex_first b (before_first is_suffix bs) (no_zero b e))
              ]
        ]
      ]
    ])

pub no_decimal : (b : ℕ) (bs : List ℕ) → is_digit b ≡ false → is_decimal (b ∷ bs) ≡ false
no_decimal b bs e = not_true _ (λ t. elim (true_or_false (is_dot b)) [
  | inl h ↦ clash (sym (ap are_digits (before_here is_dot b bs h)) ∙ (and_true _ _ t).0) refl
  | inr h ↦ clash (and_true (is_digit b) _ (sym (ap are_digits (before_later is_dot b bs h)) ∙ (and_true _ _ t).0)).0 e
])

abbrev starts_outside : (ℕ → Bool) → List ℕ → Bool
starts_outside p [] = false
starts_outside p (c ∷ cs) = not (p c)

no_match : (p : ℕ → Bool) (b : ℕ) (bs s : List ℕ) → p b ≡ true → starts_outside p s ≡ true → bytes_eq (b ∷ bs) s ≡ true → ⊥
no_match p b bs [] h o e = cc
no_match p b bs (c ∷ cs) h o e =
    let same = bytes_same (b ∷ bs) (c ∷ cs) e in
    let first : b ≡ c = cc in
    clash o (ap not (sym (ap p first) ∙ h))

-- a word whose first byte begins no sign is no sign
pub no_sign : (p : ℕ → Bool) (b : ℕ) (bs : List ℕ) → p b ≡ true → (ss : List (List ℕ)) → list_all (starts_outside p) ss ≡ true → list_any (bytes_eq (b ∷ bs)) ss ≡ false
no_sign p b bs h [] e = refl
no_sign p b bs h (s ∷ ss) e =
    let (a, r) = and_true (starts_outside p s) _ e in
    not_true _ (λ t. elim (or_true (bytes_eq (b ∷ bs) s) _ t) [ inl w ↦ no_match p b bs s h a w | inr w ↦ clash w (no_sign p b bs h ss r) ])

pub no_string : (b : ℕ) (bs : List ℕ) → is_quote b ≡ false → is_string (b ∷ bs) ≡ false
no_string b bs e = not_true _ (λ t. clash (and_true (is_quote b) _ t).0 e)

-- names

pub token_of_word : (w : List ℕ) → is_word w ≡ true → token_of w ≡ Some (Token.Word w)
token_of_word w e = rw e refl

pub no_longer_word : (b : ℕ) (bs : List ℕ) → is_name_start b ≡ true → list_all is_name_byte bs ≡ false → token_of (b ∷ bs) ≡ None
no_longer_word b bs h e =
    let digit = start_is_no_digit b h in
    let word : is_word (b ∷ bs) ≡ false = not_true _ (λ t. clash (and_true (is_name_start b) _ t).1 e) in
    let string : is_string (b ∷ bs) ≡ false = no_string b bs (not_true _ (λ t. clash (sym (ap is_name_start (eq_same b 34 t)) ∙ h) refl)) in
    rw (word, no_integer b bs digit, no_decimal b bs digit, string, no_sign is_name_start b bs h signs refl) refl

-- signs

pub sign_alone : (b : ℕ) (bs : List ℕ) → is_name_start b ≡ false → is_digit b ≡ false → is_quote b ≡ false → token_of (b ∷ bs) ≡ cond (is_sign (b ∷ bs)) (Some (Token.Sign (b ∷ bs))) None
sign_alone b bs start digit quote =
    let word : is_word (b ∷ bs) ≡ false = not_true _ (λ t. clash (and_true (is_name_start b) _ t).0 start) in
    rw (word, no_integer b bs digit, no_decimal b bs digit, no_string b bs quote) refl

-- strings

string_byte_no_quote : (b : ℕ) → is_string_byte b ≡ true → is_quote b ≡ false
string_byte_no_quote b e = not_true _ (λ t. clash (sym (ap is_string_byte (eq_same b 34 t)) ∙ e) refl)

quote_first : (bs : List ℕ) → token_of (34 ∷ bs) ≡ cond (is_string (34 ∷ bs)) (Some (Token.Str (34 ∷ bs))) None
quote_first bs = rw (no_integer 34 bs refl, no_decimal 34 bs refl) refl

-- a list is what stands before the first item of the class, that item, and what stands behind it
pub parted : (p : ℕ → Bool) (xs : List ℕ) → list_any p xs ≡ true → (c : ℕ) × (p c ≡ true) × (xs ≡ before_first p xs ++ c ∷ after_first p xs)
parted p [] e = cc
parted p (x ∷ xs) e = elim (true_or_false (p x)) [
  | inl h ↦ (x, h, rw (before_here p x xs h, after_here p x xs h) refl)
  | inr h ↦
      let (c, t, w) = parted p xs (elim (or_true (p x) _ e) [ inl k ↦ absurd (clash k h) | inr k ↦ k ]) in
      (c, t, rw (before_later p x xs h, after_later p x xs h) (ap (λ l. x ∷ l) w))
]

has_quote : (c ds : List ℕ) → list_any is_quote (c ++ 34 ∷ ds) ≡ true
has_quote [] ds = refl
has_quote (x ∷ c) ds = or_right (is_quote x) _ (has_quote c ds)

string_when : (c ds : List ℕ) → list_all is_string_byte c ≡ true → is_string (34 ∷ c ++ 34 ∷ ds) ≡ bytes_eq ds []
string_when c ds h =
    let r = parts_at is_quote is_string_byte string_byte_no_quote c 34 ds h refl in
    rw (r.before, r.after, h, has_quote c ds) refl

pub token_of_string : (c : List ℕ) → list_all is_string_byte c ≡ true → token_of (34 ∷ c ++ 34 ∷ []) ≡ Some (Token.Str (34 ∷ c ++ 34 ∷ []))
token_of_string c h = quote_first (c ++ 34 ∷ []) ∙ (rw (string_when c [] h) refl)

pub no_longer_string : (c : List ℕ) (d : ℕ) (ds : List ℕ) → list_all is_string_byte c ≡ true → token_of (34 ∷ c ++ 34 ∷ d ∷ ds) ≡ None
no_longer_string c d ds h = quote_first (c ++ 34 ∷ d ∷ ds) ∙ (rw (string_when c (d ∷ ds) h) refl)

-- what a string is
pub string_is : (w : List ℕ) → is_string w ≡ true → (c : List ℕ) × (w ≡ 34 ∷ c ++ 34 ∷ []) × (list_all is_string_byte c ≡ true)
string_is [] e = cc
string_is (q ∷ bs) e =
    let (first, t) = and_true (is_quote q) _ e in
    let (all, t) = and_true (list_all is_string_byte (before_first is_quote bs)) _ t in
    let (any, end) = and_true (list_any is_quote bs) _ t in
    let (d, last, split) = parted is_quote bs any in
    let quote : q ≡ 34 = eq_same q 34 first in
    let close : d ≡ 34 = eq_same d 34 last in
    let nothing = bytes_same (after_first is_quote bs) [] end in
    let tail : bs ≡ before_first is_quote bs ++ 34 ∷ [] = split ∙ ap (λ x. before_first is_quote bs ++ x ∷ after_first is_quote bs) close ∙ ap (λ l. before_first is_quote bs ++ 34 ∷ l) nothing in
    (before_first is_quote bs, ap (λ x. x ∷ bs) quote ∙ ap (λ l. 34 ∷ l) tail, all)

pub string_token : (bs : List ℕ) → IsSome (token_of (34 ∷ bs)) → is_string (34 ∷ bs) ≡ true
string_token bs s = by (is_string (34 ∷ bs)) (subst IsSome (quote_first bs) s)
  where
    by : (b : Bool) → IsSome (cond b (Some (Token.Str (34 ∷ bs))) None) → b ≡ true
    by true s = refl
    by false s = cc

-- integers

pub first_digit : (w : List ℕ) → is_decimal_integer w ≡ true → (b : ℕ) × (bs : List ℕ) × (w ≡ b ∷ bs) × (is_digit b ≡ true) × (list_all is_digit bs ≡ true)
first_digit [] h = cc
first_digit (b ∷ bs) h =
    let (a, t) = and_true (is_digit b) _ h in
    (b, bs, refl, a, (and_true (list_all is_digit bs) _ t).0)

pub all_digits : (w : List ℕ) → is_decimal_integer w ≡ true → list_all is_digit w ≡ true
all_digits w h = let (b, bs, e, d, ds) = first_digit w h in rw e (both_true (is_digit b) _ d ds)

pub not_word : (b : ℕ) (bs : List ℕ) → is_digit b ≡ true → is_word (b ∷ bs) ≡ false
not_word b bs d = not_true _ (λ t. clash (and_true (is_name_start b) _ t).0 (digit_is_no_start b d))

pub hex_bytes : (w : List ℕ) → is_hex_integer w ≡ true → list_all is_name_byte w ≡ true
hex_bytes [] e = refl
hex_bytes (a ∷ []) e = cc
hex_bytes (a ∷ x ∷ []) e = cc
hex_bytes (a ∷ x ∷ d ∷ ds) e =
    let (f, t) = and_true (a == 48) _ e in
    let (g, t) = and_true (x == 120) _ t in
    let (h, t) = and_true (is_hex d) _ t in
    both_true (is_name_byte a) _ (ap is_name_byte (eq_same a 48 f)) (both_true (is_name_byte x) _ (ap is_name_byte (eq_same x 120 g))
    (both_true (is_name_byte d) _ (hex_is_name d h) (all_are is_hex is_name_byte hex_is_name ds t)))

pub decimal_bytes : (w : List ℕ) → is_decimal_integer w ≡ true → list_all is_name_byte w ≡ true
decimal_bytes w e = all_are is_digit is_name_byte digit_is_name w (all_digits w e)

-- an integer is letters and digits
pub integer_bytes : (w : List ℕ) → is_integer w ≡ true → list_all is_name_byte w ≡ true
integer_bytes w e = elim (or_true (is_decimal_integer w) _ e) [
  | inl h ↦ decimal_bytes w h
  | inr t ↦ elim (or_true (is_hex_integer w) _ t) [
    | inl h ↦ hex_bytes w h
    | inr t ↦
        let (front, back) = and_true _ _ t in
        let nothing = bytes_same (after_first is_suffix w) [] (and_true (list_any is_suffix w) _ back).1 in
        parts_are is_suffix is_name_byte suffix_is_name w
        (elim (or_true (is_decimal_integer (before_first is_suffix w)) _ front) [
          | inl h ↦ decimal_bytes (before_first is_suffix w) h
          | inr h ↦ hex_bytes (before_first is_suffix w) h
        ])
        (ap (list_all is_name_byte) nothing)
  ]
]

pub digit_no_dot : (b : ℕ) → is_digit b ≡ true → is_dot b ≡ false
digit_no_dot b e = not_true _ (λ t. clash (sym (ap is_digit (eq_same b 46 t)) ∙ e) refl)

pub are_digits_all : (w : List ℕ) → are_digits w ≡ true → list_all is_digit w ≡ true
are_digits_all [] e = refl
are_digits_all (b ∷ bs) e = e

-- digits, and a byte that makes no longer number of them
