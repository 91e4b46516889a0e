-- Which words are tokens, by their first bytes.
use Rattle.std.proofs.Common.{◌≡◌, ◌∙◌, ◌⊎◌, inl, inr, ℕ, Bool, true, false, ◌&&◌, ◌||◌, ◌==◌, not, List, [], ◌∷◌, ◌++◌, refl, sym, ap, subst, arith, ◌<◌, Some, None, suc, ◌+◌, take, drop}
use Rattle.std.proofs.lemmas.Bool.Decides.{nat_tests}
use Rattle.std.proofs.lemmas.List.{append-nil}
use Rattle.std.proofs.lemmas.Slice.Eq.{bytes_eq-Decides}
use Rattle.std.specs.List.{list_all, list_any, before_first, after_first, prefix_len}
use Rattle.std.specs.Str.{bytes_eq}
use Rattle.grammar.specs.Bytes.{is_digit, is_hex, hex_value, decimal_value, hexadecimal}
use Rattle.grammar.specs.Tokens.{is_blank}
use Rattle.rtl_text.specs.Tokens.{Token, is_quote, is_sign, is_word, is_number, is_literal, is_hex_part, signs, token_of}
use Rattle.rtl_ir.specs.Names.{begins_name, continues_name}
use Rattle.verilog_print.specs.Printed.{digit_byte}

pub digit_no_name : (b : ℕ) → is_digit b ≡ true → begins_name b ≡ false
digit_no_name b h = grind (arith, nat_tests)

pub name_no_digit : (b : ℕ) → begins_name b ≡ true → is_digit b ≡ false
name_no_digit b h = grind (arith, nat_tests)

pub name_no_quote : (b : ℕ) → begins_name b ≡ true → is_quote b ≡ false
name_no_quote b h = grind (arith, nat_tests)

pub name_no_blank : (b : ℕ) → begins_name b ≡ true → is_blank b ≡ false
name_no_blank b h = grind (arith, nat_tests)

pub name_no_slash : (b : ℕ) → begins_name b ≡ true → (b == 47) ≡ false
name_no_slash b h = grind (arith, nat_tests)

pub digit_no_blank : (b : ℕ) → is_digit b ≡ true → is_blank b ≡ false
digit_no_blank b h = grind (arith, nat_tests)

pub digit_no_slash : (b : ℕ) → is_digit b ≡ true → (b == 47) ≡ false
digit_no_slash b h = grind (arith, nat_tests)

pub digit_no_quote : (b : ℕ) → is_digit b ≡ true → is_quote b ≡ false
digit_no_quote b h = grind (arith, nat_tests)

pub byte_is_digit : (d : ℕ) → d < 10 → is_digit (digit_byte d) ≡ true
byte_is_digit d h = grind (arith, nat_tests)

pub byte_is_hex : (d : ℕ) → d < 16 → is_hex (digit_byte d) ≡ true
byte_is_hex d h = grind (arith, nat_tests)

pub byte_value : (d : ℕ) → d < 16 → hex_value (digit_byte d) ≡ d
byte_value d h = grind (arith, nat_tests)

-- tests
pub and_left : (a b : Bool) → (a && b) ≡ true → a ≡ true
and_left true b h = refl
and_left false b h = h

pub and_right : (a b : Bool) → (a && b) ≡ true → b ≡ true
and_right true b h = h
and_right false b h = cc

or_cases : (a b : Bool) → (a || b) ≡ true → (a ≡ true) ⊎ (b ≡ true)
or_cases true b h = inl refl
or_cases false b h = inr h

and_false : (a : Bool) → (a && false) ≡ false
and_false true = refl
and_false false = refl

pub not_so : (b : Bool) → (b ≡ true → ⊥) → b ≡ false
not_so true h = absurd (h refl)
not_so false h = refl

-- a byte that fails the test, behind whatever passes it
pub all_stop : (test : ℕ → Bool) (xs : List ℕ) (b : ℕ) (more : List ℕ) → test b ≡ false → list_all test (xs ++ b ∷ more) ≡ false
all_stop test [] b more h = rw h refl
all_stop test (x ∷ xs) b more h = rw (all_stop test xs b more h) (and_false (test x))

-- no sign begins with such a byte
begins_well : (ℕ → Bool) → List ℕ → Bool
begins_well bad [] = true
begins_well bad (b ∷ bs) = not (bad b)

one_of : (good : List ℕ → Bool) (word : List ℕ) (words : List (List ℕ)) → list_any (bytes_eq word) words ≡ true → list_all good words ≡ true → good word ≡ true
one_of good word [] h k = cc
one_of good word (w ∷ ws) h k =
    elim (or_cases (bytes_eq word w) (list_any (bytes_eq word) ws) h) [
      | inl e ↦ subst (λ v. good v ≡ true) (sym ((bytes_eq-Decides word w).0 e)) (and_left (good w) (list_all good ws) k)
      | inr e ↦ one_of good word ws e (and_right (good w) (list_all good ws) k)
    ]

no_sign : (bad : ℕ → Bool) (b : ℕ) (bs : List ℕ) → list_all (begins_well bad) signs ≡ true → bad b ≡ true → is_sign (b ∷ bs) ≡ false
unfolding begins_well
no_sign bad b bs h k = not_so (is_sign (b ∷ bs)) (λ s. let t : not (bad b) ≡ true = one_of (begins_well bad) (b ∷ bs) signs s h in let f : not (bad b) ≡ false = rw k refl in cc)

no_token : (w : List ℕ) → is_word w ≡ false → is_number w ≡ false → is_literal w ≡ false → is_sign w ≡ false → token_of w ≡ None
no_token w a b c d = rw (a, b, c, d) refl

-- what stands before a quote
take_one : (p b : ℕ) (bs : List ℕ) → take (1 + p) (b ∷ bs) ≡ b ∷ take p bs
take_one p b bs = let e : 1 + p ≡ suc p = omega arith in rw e refl

drop_one : (p b : ℕ) (bs : List ℕ) → drop (1 + p + 1) (b ∷ bs) ≡ drop (p + 1) bs
drop_one p b bs = let e : 1 + p + 1 ≡ suc (p + 1) = omega arith in rw e refl

before_one : (b : ℕ) (bs : List ℕ) → is_quote b ≡ false → before_first is_quote (b ∷ bs) ≡ b ∷ before_first is_quote bs
before_one b bs h = rw h (take_one (prefix_len (λ x. not (is_quote x)) bs) b bs)

before_digits : (ds ys : List ℕ) → list_all is_digit ds ≡ true → before_first is_quote (ds ++ ys) ≡ ds ++ before_first is_quote ys
before_digits [] ys h = refl
before_digits (d ∷ ds) ys h =
    before_one d (ds ++ ys) (digit_no_quote d (and_left (is_digit d) (list_all is_digit ds) h)) ∙ ap (λ l. d ∷ l) (before_digits ds ys (and_right (is_digit d) (list_all is_digit ds) h))

after_one : (b : ℕ) (bs : List ℕ) → is_quote b ≡ false → after_first is_quote (b ∷ bs) ≡ after_first is_quote bs
after_one b bs h = rw h (drop_one (prefix_len (λ x. not (is_quote x)) bs) b bs)

after_digits : (ds ys : List ℕ) → list_all is_digit ds ≡ true → after_first is_quote (ds ++ ys) ≡ after_first is_quote ys
after_digits [] ys h = refl
after_digits (d ∷ ds) ys h =
    after_one d (ds ++ ys) (digit_no_quote d (and_left (is_digit d) (list_all is_digit ds) h)) ∙ after_digits ds ys (and_right (is_digit d) (list_all is_digit ds) h)

-- a sign with more behind it
pub sign_stops : (s b : ℕ) (more : List ℕ) → begins_name s ≡ false → is_digit s ≡ false → is_quote s ≡ false → is_sign (s ∷ b ∷ more) ≡ false → token_of (s ∷ b ∷ more) ≡ None
sign_stops s b more h k q e =
    let e1 : is_word (s ∷ b ∷ more) ≡ false = rw h refl in
    let e2 : is_number (s ∷ b ∷ more) ≡ false = rw k refl in
    let e3 : is_literal (s ∷ b ∷ more) ≡ false = rw (before_one s (b ∷ more) q) (rw k refl) in
    no_token (s ∷ b ∷ more) e1 e2 e3 e

-- names, and what ends them
pub name_stops : (n : ℕ) (ns : List ℕ) (b : ℕ) → begins_name n ≡ true → continues_name b ≡ false → (more : List ℕ) → token_of (n ∷ ns ++ b ∷ more) ≡ None
unfolding begins_well
name_stops n ns b h k more =
    let e1 : is_word (n ∷ ns ++ b ∷ more) ≡ false = rw (all_stop continues_name ns b more k) (and_false (begins_name n)) in
    let e2 : is_number (n ∷ ns ++ b ∷ more) ≡ false = rw (name_no_digit n h) refl in
    let e3 : is_literal (n ∷ ns ++ b ∷ more) ≡ false = rw (before_one n (ns ++ b ∷ more) (name_no_quote n h)) (rw (name_no_digit n h) refl) in
    no_token (n ∷ ns ++ b ∷ more) e1 e2 e3 (no_sign begins_name n (ns ++ b ∷ more) refl h)

pub name_is : (n : ℕ) (ns : List ℕ) → is_word (n ∷ ns) ≡ true → token_of (n ∷ ns) ≡ Some (Token.Word (n ∷ ns))
name_is n ns h = rw h refl

-- numbers, and what ends them
pub number_stops : (d : ℕ) (ds : List ℕ) (b : ℕ) → list_all is_digit (d ∷ ds) ≡ true → is_digit b ≡ false → is_quote b ≡ false → (more : List ℕ) → token_of (d ∷ ds ++ b ∷ more) ≡ None
unfolding begins_well
number_stops d ds b h k q more =
    let digit : is_digit d ≡ true = and_left (is_digit d) (list_all is_digit ds) h in
    let e1 : is_word (d ∷ ds ++ b ∷ more) ≡ false = rw (digit_no_name d digit) refl in
    let e2 : is_number (d ∷ ds ++ b ∷ more) ≡ false = all_stop is_digit (d ∷ ds) b more k in
    let e3 : is_literal (d ∷ ds ++ b ∷ more) ≡ false = rw (before_digits (d ∷ ds) (b ∷ more) h, before_one b more q, all_stop is_digit (d ∷ ds) b (before_first is_quote more) k) refl in
    no_token (d ∷ ds ++ b ∷ more) e1 e2 e3 (no_sign is_digit d (ds ++ b ∷ more) refl digit)

pub number_is : (d : ℕ) (ds : List ℕ) → list_all is_digit (d ∷ ds) ≡ true → token_of (d ∷ ds) ≡ Some (Token.Number (decimal_value (d ∷ ds)))
number_is d ds h =
    let digit : is_digit d ≡ true = and_left (is_digit d) (list_all is_digit ds) h in
    let e1 : is_word (d ∷ ds) ≡ false = rw (digit_no_name d digit) refl in
    rw (e1, h) refl

-- literals, and what ends them
pub literal_stops : (d : ℕ) (ds : List ℕ) (e : ℕ) (es : List ℕ) (b : ℕ)
    → list_all is_digit (d ∷ ds) ≡ true → is_hex b ≡ false → (more : List ℕ)
    → token_of (d ∷ ds ++ 39 ∷ 104 ∷ e ∷ (es ++ b ∷ more)) ≡ None
unfolding begins_well
literal_stops d ds e es b h k more =
    let digit : is_digit d ≡ true = and_left (is_digit d) (list_all is_digit ds) h in
    let tail : List ℕ = 104 ∷ e ∷ (es ++ b ∷ more) in
    let e1 : is_word (d ∷ ds ++ 39 ∷ tail) ≡ false = rw (digit_no_name d digit) refl in
    let e2 : is_number (d ∷ ds ++ 39 ∷ tail) ≡ false = all_stop is_digit (d ∷ ds) 39 tail refl in
    let e4 : is_hex_part tail ≡ false = all_stop is_hex (e ∷ es) b more k in
    let e5 : is_hex_part (after_first is_quote (d ∷ ds ++ 39 ∷ tail)) ≡ false = rw (after_digits (d ∷ ds) (39 ∷ tail) h) e4 in
    let e3 : is_literal (d ∷ ds ++ 39 ∷ tail) ≡ false = rw e5 (and_false (is_number (before_first is_quote (d ∷ ds ++ 39 ∷ tail)))) in
    no_token (d ∷ ds ++ 39 ∷ tail) e1 e2 e3 (no_sign is_digit d (ds ++ 39 ∷ tail) refl digit)

pub literal_is : (d : ℕ) (ds : List ℕ) (e : ℕ) (es : List ℕ) → list_all is_digit (d ∷ ds) ≡ true
    → list_all is_hex (e ∷ es) ≡ true → token_of (d ∷ ds ++ 39 ∷ 104 ∷ e
    ∷ es) ≡ Some (Token.Literal (decimal_value (d ∷ ds)) (hexadecimal (e ∷ es)))
literal_is d ds e es h k =
    let digit : is_digit d ≡ true = and_left (is_digit d) (list_all is_digit ds) h in
    let tail : List ℕ = 104 ∷ e ∷ es in
    let e1 : is_word (d ∷ ds ++ 39 ∷ tail) ≡ false = rw (digit_no_name d digit) refl in
    let e2 : is_number (d ∷ ds ++ 39 ∷ tail) ≡ false = all_stop is_digit (d ∷ ds) 39 tail refl in
    let before : before_first is_quote (d ∷ ds ++ 39 ∷ tail) ≡ d ∷ ds = before_digits (d ∷ ds) (39 ∷ tail) h ∙ append-nil (d ∷ ds) in
    let after : after_first is_quote (d ∷ ds ++ 39 ∷ tail) ≡ tail = after_digits (d ∷ ds) (39 ∷ tail) h in
    rw (e1, e2, before, after, h, k) refl
