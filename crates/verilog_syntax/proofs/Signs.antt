-- The token at the front of a text.
use Rattle.std.proofs.Common.{◌≡◌, ◌∙◌, inl, inr, ℕ, ◌==◌, Bool, true, false, ◌&&◌, List, [], ◌∷◌, ◌++◌, Some, IsSome, refl, sym, ap, subst, append_assoc}
use Rattle.std.specs.List.{list_all, list_any}
use Rattle.std.specs.Str.{bytes_eq}
use Rattle.std.proofs.lemmas.List.{append_cancel_right}
use Rattle.grammar.specs.Bytes.{is_digit, is_hex, decimal_value}
use Rattle.rtl_text.specs.Tokens.{Token, token_of, is_hex_part, is_quote, is_sign, signs}
use Rattle.rtl_ir.specs.Names.{begins_name, continues_name}
use Rattle.rtl_ir.specs.declared.design.Sign.TheVariants.{Add, Sub, Mul, Div, And, Or, Xor, Eq, Lt}
use Rattle.verilog_syntax.specs.declared.mark.Mark.{Mark}
use Rattle.verilog_syntax.specs.declared.mark.Mark.TheVariants.{Open, Close, OpenBracket}
use Rattle.verilog_syntax.specs.declared.mark.Mark.TheVariants.{CloseBracket, OpenBrace, CloseBrace}
use Rattle.verilog_syntax.specs.declared.mark.Mark.TheVariants.{Semicolon, Colon, Comma, Dot, At}
use Rattle.verilog_syntax.specs.declared.mark.Mark.TheVariants.{Question, Assign, LessEqual, Tilde}
use Rattle.verilog_syntax.specs.declared.mark.Mark.TheVariants.{Operator}
use Rattle.text_scan.specs.Classes.{BeginsOutside}
use Rattle.text_scan.specs.declared.bytes.ByteClass.TheVariants.{WordOrDollar, Digit, Hex}
use Rattle.rtl_text.specs.Tokens.{Apart, BeginsStar}
use Rattle.text_scan.specs.Gaps.{BeginsNoGap}
use Rattle.verilog_syntax.specs.Scanning.{Takes, BeginsNoToken, starts_name, begins_number, begins_double, begins_hex_part, literal_width, literal_value, mark_bytes}
use Rattle.text_scan.proofs.ByteTests.{and_true, both_true, or_true, clash, not_true, true_or_false, none_some, bytes_same, not_all, eq_same, some_is}
use Rattle.text_scan.proofs.Fronts.{taken}
use Rattle.verilog_syntax.proofs.Words.{start_is_name, token_of_word, no_longer_word, token_of_number, no_longer_number, token_of_literal, no_longer_literal, hex_part_ends, sign_alone}

-- words

pub word_taken : (text front rest : List ℕ) → BeginsNoGap text → starts_name text ≡ true
    → text ≡ front ++ rest → list_all continues_name front ≡ true
    → BeginsOutside WordOrDollar rest → Takes text (Token.Word front) rest
word_taken text [] [] gap h e a o = absurd (clash (sym (ap starts_name e) ∙ h) refl)
word_taken text [] (y ∷ rest) gap h e a o = absurd (clash (start_is_name y (sym (ap starts_name e) ∙ h)) o)
word_taken text (b ∷ bs) rest gap h e a o =
    let start : begins_name b ≡ true = sym (ap starts_name e) ∙ h in
    taken (b ∷ bs) rest e gap (token_of_word (b ∷ bs) (both_true (begins_name b) _ start (and_true (continues_name b) _ a).1)) (longer start) tt
  where
    longer : begins_name b ≡ true → (c : ℕ) (cs back : List ℕ) → rest ≡ c ∷ cs ++ back → IsSome (token_of (b ∷ bs ++ c ∷ cs)) → ⊥
    longer start c cs back f s = none_some _ (no_longer_word b (bs ++ c ∷ cs) start (not_all continues_name bs c cs (subst (BeginsOutside WordOrDollar) f o))) s

-- numbers

pub number_taken : (text front rest : List ℕ) → BeginsNoGap text → begins_number text ≡ true
    → text ≡ front ++ rest → list_all is_digit front ≡ true → BeginsOutside Digit rest
    → begins_hex_part rest ≡ false → Takes text (Token.Number (decimal_value front)) rest
number_taken text [] [] gap h e a o x = absurd (clash (sym (ap begins_number e) ∙ h) refl)
number_taken text [] (y ∷ rest) gap h e a o x = absurd (clash (sym (ap begins_number e) ∙ h) o)
number_taken text (b ∷ bs) rest gap h e a o x = taken (b ∷ bs) rest e gap (token_of_number (b ∷ bs) a) longer tt
  where
    no_part : (cs back : List ℕ) → rest ≡ 39 ∷ cs ++ back → is_hex_part cs ≡ false
    no_part [] back f = refl
    no_part (h ∷ []) back f = refl
    no_part (h ∷ d ∷ ds) back f = not_true _ (λ t.
        let (p, q) = and_true (h == 104) _ t in
        clash (both_true (is_quote 39) _ refl (both_true (h == 104) _ p (and_true (is_hex d) _ q).0)) (sym (ap begins_hex_part f) ∙ x))

    longer : (c : ℕ) (cs back : List ℕ) → rest ≡ c ∷ cs ++ back → IsSome (token_of (b ∷ bs ++ c ∷ cs)) → ⊥
    longer c cs back f s = elim (true_or_false (is_quote c)) [
      | inl q ↦ (
          let same = eq_same c 39 q in
          let g : rest ≡ 39 ∷ cs ++ back = f ∙ ap (λ y. y ∷ cs ++ back) same in
          none_some _ (no_longer_literal b bs cs a (no_part cs back g)) (subst (λ y. IsSome (token_of (b ∷ bs ++ y ∷ cs))) same s))
      | inr q ↦ none_some _ (no_longer_number b bs c cs a (subst (BeginsOutside Digit) f o) q) s
    ]

pub literal_taken : (text front behind hs rest : List ℕ) → BeginsNoGap text
    → begins_number text ≡ true → text ≡ front ++ behind → list_all is_digit front ≡ true
    → BeginsOutside Digit behind → behind ≡ 39 ∷ hs ++ rest → is_hex_part hs ≡ true
    → BeginsOutside Hex rest
    → (word : List ℕ) → text ≡ word ++ rest → Takes text (Token.Literal (literal_width word) (literal_value word)) rest
literal_taken text [] [] hs rest gap h e a o f p q word w = absurd (clash (sym (ap begins_number e) ∙ h) refl)
literal_taken text [] (y ∷ behind) hs rest gap h e a o f p q word w = absurd (clash (sym (ap begins_number e) ∙ h) o)
literal_taken text (b ∷ bs) behind hs rest gap h e a o f p q word w =
    let whole : text ≡ (b ∷ bs ++ 39 ∷ hs) ++ rest = e ∙ ap (λ l. b ∷ bs ++ l) f ∙ sym (append_assoc (b ∷ bs) (39 ∷ hs) rest) in
    let same : b ∷ bs ++ 39 ∷ hs ≡ word = append_cancel_right (b ∷ bs ++ 39 ∷ hs) word rest (sym whole ∙ w) in
    subst (λ l. Takes text (Token.Literal (literal_width l) (literal_value l)) rest) same (taken (b ∷ bs ++ 39 ∷ hs) rest whole gap (token_of_literal b bs hs a p) longer tt)
  where
    longer : (c : ℕ) (cs back : List ℕ) → rest ≡ c ∷ cs ++ back → IsSome (token_of ((b ∷ bs ++ 39 ∷ hs) ++ c ∷ cs)) → ⊥
    longer c cs back g s =
        none_some _ (no_longer_literal b bs (hs ++ c ∷ cs) a (hex_part_ends hs c cs p (subst (BeginsOutside Hex) g q))) (subst (λ l. IsSome (token_of l)) (append_assoc (b ∷ bs) (39 ∷ hs) (c ∷ cs)) s)

-- signs

-- what holds of each sign
any_all : (p : List ℕ → Bool) (w : List ℕ) (ss : List (List ℕ)) → list_any (bytes_eq w) ss ≡ true → list_all p ss ≡ true → p w ≡ true
any_all p w [] e f = absurd (cc)
any_all p w (s ∷ ss) e f =
    let (a, r) = and_true (p s) _ f in
    elim (or_true (bytes_eq w s) _ e) [ inl m ↦ ap p (bytes_same w s m) ∙ a | inr m ↦ any_all p w ss m r ]

is_first_a_sign : List ℕ → Bool
is_first_a_sign [] = false
is_first_a_sign (b ∷ bs) = is_sign (b ∷ [])

pub sign_first : (b : ℕ) (bs : List ℕ) → is_sign (b ∷ bs) ≡ true → is_sign (b ∷ []) ≡ true
unfolding is_first_a_sign
sign_first b bs e = any_all is_first_a_sign (b ∷ bs) signs e refl

is_short : List ℕ → Bool
is_short [] = true
is_short (b ∷ []) = true
is_short (b ∷ c ∷ ds) = begins_double (b ∷ c ∷ ds) && bytes_eq ds []

sign_long : (b c : ℕ) (ds : List ℕ) → is_sign (b ∷ c ∷ ds) ≡ true → (begins_double (b ∷ c ∷ ds) ≡ true) × (ds ≡ [])
unfolding is_short
sign_long b c ds e = let (p, q) = and_true (begins_double (b ∷ c ∷ ds)) _ (any_all is_short (b ∷ c ∷ ds) signs e refl) in (p, bytes_same ds [] q)

-- what begins with no name and no number is a token only as a sign
some_sign : (b : ℕ) (bs : List ℕ) → begins_name b ≡ false → is_digit b ≡ false → IsSome (token_of (b ∷ bs)) → is_sign (b ∷ bs) ≡ true
some_sign b bs n d s = elim (true_or_false (is_sign (b ∷ bs))) [
  | inl t ↦ t
  | inr f ↦ absurd (none_some _ (sign_alone b bs n d ∙ (rw f refl)) s)
]

sign_is : (b : ℕ) (bs : List ℕ) → begins_name b ≡ false → is_digit b ≡ false → is_sign (b ∷ bs) ≡ true → token_of (b ∷ bs) ≡ Some (Token.Sign (b ∷ bs))
sign_is b bs n d s = sign_alone b bs n d ∙ (rw s refl)

pub double_taken : (text rest : List ℕ) (b : ℕ) → BeginsNoGap text → text ≡ b ∷ 61 ∷ rest
    → is_sign (b ∷ 61 ∷ []) ≡ true → begins_name b ≡ false → is_digit b ≡ false
    → Takes text (Token.Sign (b ∷ 61 ∷ [])) rest
double_taken text rest b gap e h n d = taken (b ∷ 61 ∷ []) rest e gap (sign_is b (61 ∷ []) n d h) (λ c cs back f s. longer c cs (sign_long b 61 (c ∷ cs) (some_sign b (61 ∷ c ∷ cs) n d s)).1) apart
  where
    longer : (c : ℕ) (cs : List ℕ) → c ∷ cs ≡ [] → ⊥
    longer c cs e = cc

    apart : b ∷ 61 ∷ [] ≡ 47 ∷ [] → BeginsStar rest → ⊥
    apart e s = cc

pub single_taken : (text rest : List ℕ) (b : ℕ) → BeginsNoGap text → starts_name text ≡ false → begins_number text ≡ false → begins_double text ≡ false → ((back : List ℕ) → text ≡ 47 ∷ 42 ∷ back → ⊥)
    → text ≡ b ∷ rest → is_sign (b ∷ []) ≡ true → Takes text (Token.Sign (b ∷ [])) rest
single_taken text rest b gap n d one comment e h =
    let name : begins_name b ≡ false = sym (ap starts_name e) ∙ n in
    let digit : is_digit b ≡ false = sym (ap begins_number e) ∙ d in
    taken (b ∷ []) rest e gap (sign_is b [] name digit h) (longer name digit) (apart rest e)
  where
    longer : begins_name b ≡ false → is_digit b ≡ false → (c : ℕ) (cs back : List ℕ) → rest ≡ c ∷ cs ++ back → IsSome (token_of (b ∷ c ∷ cs)) → ⊥
    longer name digit c cs back f s =
        let double : begins_double (b ∷ c ∷ cs ++ back) ≡ true = (sign_long b c cs (some_sign b (c ∷ cs) name digit s)).0 in
        clash double (sym (ap begins_double (e ∙ ap (λ l. b ∷ l) f)) ∙ one)

    apart : (rest : List ℕ) → text ≡ b ∷ rest → b ∷ [] ≡ 47 ∷ [] → BeginsStar rest → ⊥
    apart [] e f s = s
    apart (c ∷ cs) e f s = let first : b ≡ 47 = cc in comment cs (e ∙ (rw (first, s) refl))

-- no token

pub none_taken : (text : List ℕ) → starts_name text ≡ false → begins_number text ≡ false → ((b : ℕ) (rest : List ℕ) → text ≡ b ∷ rest → is_sign (b ∷ []) ≡ false) → BeginsNoToken text
none_taken text n d alone [] rest t e k = let is = k.is in absurd (cc)
none_taken text n d alone (b ∷ bs) rest t e k =
    let name : begins_name b ≡ false = sym (ap starts_name e) ∙ n in
    let digit : is_digit b ≡ false = sym (ap begins_number e) ∙ d in
    clash (sign_first b bs (some_sign b bs name digit (some_is (token_of (b ∷ bs)) k.is))) (alone b (bs ++ rest) e)

-- an open comment is no `/`
pub open_taken : (text rest : List ℕ) → text ≡ 47 ∷ 42 ∷ rest → BeginsNoToken text
open_taken text rest e [] back t f k = let is = k.is in absurd (cc)
open_taken text rest e (b ∷ []) back t f k =
    let first : b ≡ 47 = cc in
    let behind : back ≡ 42 ∷ rest = cc in
    let is : Some (Token.Sign (47 ∷ [])) ≡ Some t = subst (λ x. token_of (x ∷ []) ≡ Some t) first k.is in
    let sign : t ≡ Token.Sign (47 ∷ []) = cc in
    subst (λ l. Apart (Token.Sign (47 ∷ [])) l) behind (subst (λ x. Apart x back) sign k.apart) refl refl
open_taken text rest e (b ∷ c ∷ cs) back t f k =
    let first : b ≡ 47 = cc in
    clash (sign_long 47 c cs (some_sign 47 (c ∷ cs) refl refl (subst (λ x. IsSome (token_of (x ∷ c ∷ cs))) first (some_is (token_of (b ∷ c ∷ cs)) k.is)))).0 refl

pub mark_is_sign : (m : Mark) → is_sign (mark_bytes m) ≡ true
mark_is_sign Open = refl
mark_is_sign Close = refl
mark_is_sign OpenBracket = refl
mark_is_sign CloseBracket = refl
mark_is_sign OpenBrace = refl
mark_is_sign CloseBrace = refl
mark_is_sign Semicolon = refl
mark_is_sign Colon = refl
mark_is_sign Comma = refl
mark_is_sign Dot = refl
mark_is_sign At = refl
mark_is_sign Question = refl
mark_is_sign Assign = refl
mark_is_sign LessEqual = refl
mark_is_sign Tilde = refl
mark_is_sign (Operator Add) = refl
mark_is_sign (Operator Sub) = refl
mark_is_sign (Operator Mul) = refl
mark_is_sign (Operator Div) = refl
mark_is_sign (Operator And) = refl
mark_is_sign (Operator Or) = refl
mark_is_sign (Operator Xor) = refl
mark_is_sign (Operator Eq) = refl
mark_is_sign (Operator Lt) = refl
