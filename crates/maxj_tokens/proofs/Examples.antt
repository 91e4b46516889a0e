-- Words and the tokens that they are, and the tokens of small texts.
use Rattle.std.proofs.Common.{◌≡◌, ◌==◌, ℕ, List, [], ◌∷◌, refl, sym, ap, subst, true, false, codes, Some, None}
use Rattle.grammar.specs.Tokens.{Reads, Gaps, is_blank}
use Rattle.maxj_tokens.specs.Tokens.{Token, token_of, is_followed, is_sign, Apart, IsTokens}
use Rattle.text_scan.specs.Gaps.{BeginsNoGap}
use Rattle.maxj_tokens.specs.Reading.{Takes, LacksSign}
use Rattle.maxj_tokens.specs.declared.sign.Sign.TheVariants.{Minus, MinusMinus, Connect}
use Rattle.maxj_tokens.specs.Faults.{integer_value}
use Rattle.text_scan.proofs.ByteTests.{clash, not_true}
use Rattle.text_scan.proofs.GapLemmas.{no_gap}
use Rattle.maxj_tokens.proofs.Fronts.{word_taken, one_taken, two_taken, three_taken, no_three, no_two, double_ends}

hex_is : token_of (codes "0x1fL") ≡ Some (Token.Whole (codes "0x1fL"))
hex_is = refl

hex_says : integer_value (codes "0x1fL") ≡ 31
hex_says = refl

no_leading_zero : token_of (codes "01") ≡ None
no_leading_zero = refl

decimal_is : token_of (codes "1.5") ≡ Some (Token.Decimal (codes "1.5"))
decimal_is = refl

no_half_decimal : token_of (codes "1.") ≡ None
no_half_decimal = refl

string_is : token_of (codes "\"a b\"") ≡ Some (Token.Str (codes "\"a b\""))
string_is = refl

no_open_string : token_of (codes "\"a") ≡ None
no_open_string = refl

connects : token_of (codes "<==") ≡ Some (Token.Sign (codes "<=="))
connects = refl

counts_down : token_of (codes "--") ≡ Some (Token.Sign (codes "--"))
counts_down = refl

no_two_signs : token_of (codes "- ") ≡ None
no_two_signs = refl

followed : is_followed (Token.Whole (codes "0")) (codes "x") ≡ true
followed = refl

-- small texts

-- a text whose first byte is neither white space nor `/` begins with no gap
begins : (b : ℕ) (bs : List ℕ) → is_blank b ≡ false → (b == 47) ≡ false → BeginsNoGap (b ∷ bs)
begins b bs h e = no_gap (b ∷ bs) (λ rest f. slash f) (λ rest f. slash f) (λ c rest f. let same : b ≡ c = cc in subst (λ x. is_blank x ≡ false) same h)
  where
    slash : {c : ℕ} {rest : List ℕ} → b ∷ bs ≡ 47 ∷ c ∷ rest → ⊥
    slash f = let same : b ≡ 47 = cc in clash (ap (λ x. x == 47) same) e

next : {text rest left : List ℕ} {t : Token} {ts : List Token} → Takes text t rest → is_followed t rest ≡ false → Reads Gaps token_of Apart rest ts left → Reads Gaps token_of Apart text (t ∷ ts) left
next {left = left} {t = t} {ts = ts} (word, e, n) f r =
    subst (λ l. Reads Gaps token_of Apart l (t ∷ ts) left) (sym e) (Reads.token word (record { is = n.is; longest = n.longest; begins = n.begins; apart = (n.apart, f) }) r)

blank : {rest left : List ℕ} {ts : List Token} → Reads Gaps token_of Apart rest ts left → Reads Gaps token_of Apart (32 ∷ rest) ts left
blank r = Reads.skip (32 ∷ []) (Gaps.blank 32 refl) r

-- a sign that stands before a byte with which it makes no longer one
lacks_three : (b c : ℕ) (rest : List ℕ) → (c == 61) ≡ false → LacksSign 3 (b ∷ c ∷ rest)
lacks_three b c rest e = no_three (b ∷ c ∷ rest) (λ d back f. let same : c ≡ 61 = cc in absurd (clash (ap (λ x. x == 61) same) e))

lacks_two : (b c : ℕ) (rest : List ℕ) → is_sign (b ∷ c ∷ []) ≡ false → LacksSign 2 (b ∷ c ∷ rest)
lacks_two b c rest h = no_two (b ∷ c ∷ rest) (λ x y back f.
    let first : b ≡ x = cc in
    let second : c ≡ y = cc in
    subst (λ z. is_sign (z ∷ y ∷ []) ≡ false) first (subst (λ z. is_sign (b ∷ z ∷ []) ≡ false) second h))

minus : (c : ℕ) (rest : List ℕ) → (c == 61) ≡ false → (c == 45) ≡ false → Takes (45 ∷ c ∷ rest) (Token.Sign (codes "-")) (c ∷ rest)
minus c rest e f =
    one_taken (45 ∷ c ∷ rest) (c ∷ rest) 45 Minus (begins 45 (c ∷ rest) refl refl) (lacks_three 45 c rest e)
    (lacks_two 45 c rest (not_true _ (λ t. double_ends 45 c t e f))) (λ back g. no_slash g) refl refl
  where
    same_head : {a b : ℕ} {xs ys : List ℕ} → a ∷ xs ≡ b ∷ ys → a ≡ b
    same_head e = cc

    no_slash : {back : List ℕ} → 45 ∷ c ∷ rest ≡ 47 ∷ 42 ∷ back → ⊥
    no_slash g = let same : ◌≡◌ {A = ℕ} 45 47 = same_head g in clash (ap (λ x. x == 47) same) refl

two_minuses : IsTokens (codes "a - -b") (Token.Word (codes "a") ∷ Token.Sign (codes "-") ∷ Token.Sign (codes "-") ∷ Token.Word (codes "b") ∷ [])
two_minuses =
    next (word_taken (codes "a - -b") (codes "a") (codes " - -b") (begins 97 (codes " - -b") refl refl) refl refl refl refl) refl
    (blank (next (minus 32 (codes "-b") refl refl) refl
    (blank (next (minus 98 [] refl refl) refl
    (next (word_taken (codes "b") (codes "b") [] (begins 98 [] refl refl) refl refl refl tt) refl Reads.end)))))

one_count : IsTokens (codes "--") (Token.Sign (codes "--") ∷ [])
one_count = next (two_taken (codes "--") [] 45 45 MinusMinus (begins 45 (codes "-") refl refl) (lacks_three 45 45 [] refl) refl refl) refl Reads.end

one_connection : IsTokens (codes "a<==b") (Token.Word (codes "a") ∷ Token.Sign (codes "<==") ∷ Token.Word (codes "b") ∷ [])
one_connection =
    next (word_taken (codes "a<==b") (codes "a") (codes "<==b") (begins 97 (codes "<==b") refl refl) refl refl refl refl) refl
    (next (three_taken (codes "<==b") (codes "b") 60 Connect (begins 60 (codes "==b") refl refl) refl refl) refl
    (next (word_taken (codes "b") (codes "b") [] (begins 98 [] refl refl) refl refl refl tt) refl Reads.end))
