-- The token at the front of a text.
use Rattle.std.proofs.Common.{◌≡◌, ◌∙◌, inl, inr, ℕ, ◌==◌, not, Bool, true, false, ◌&&◌, ◌||◌, List, [], ◌∷◌, ◌++◌, Some, IsSome, refl, sym, ap, subst, append_assoc, arith, length, ◌-◌, take}
use Rattle.std.specs.List.{list_all, list_any}
use Rattle.std.specs.Str.{bytes_eq}
use Rattle.grammar.specs.Bytes.{is_digit}
use Rattle.maxj_tokens.specs.Tokens.{Token, token_of, is_name_start, is_name_byte, is_quote, is_sign, is_string_byte, signs, OpensNone, BeginsStar}
use Rattle.text_scan.specs.Gaps.{BeginsNoGap}
use Rattle.maxj_tokens.specs.Scanning.{BeginsNoToken}
use Rattle.text_scan.specs.Classes.{BeginsOutside}
use Rattle.maxj_tokens.specs.Reading.{Takes, LacksSign, starts_name, starts_number, starts_string, sign_bytes}
use Rattle.text_scan.specs.declared.bytes.ByteClass.TheVariants.{Word, Quotable}
use Rattle.maxj_tokens.specs.declared.sign.Sign.{Sign}
use Rattle.maxj_tokens.specs.declared.sign.Sign.TheVariants as S
use Rattle.text_scan.proofs.ByteTests.{and_true, both_true, or_true, clash, not_true, true_or_false, none_some, bytes_same, not_all, eq_same, some_is}
use Rattle.text_scan.proofs.Fronts.{taken, front_is}
use Rattle.maxj_tokens.proofs.Words.{start_is_name, token_of_word, no_longer_word, sign_alone, token_of_string, no_longer_string, string_is, string_token}

-- words

pub word_taken : (text front rest : List ℕ) → BeginsNoGap text → starts_name text ≡ true
    → text ≡ front ++ rest → list_all is_name_byte front ≡ true → BeginsOutside Word rest
    → Takes text (Token.Word front) rest
word_taken text [] [] gap h e a o = absurd (clash (sym (ap starts_name e) ∙ h) refl)
word_taken text [] (y ∷ rest) gap h e a o = absurd (clash (start_is_name y (sym (ap starts_name e) ∙ h)) o)
word_taken text (b ∷ bs) rest gap h e a o =
    let start : is_name_start b ≡ true = sym (ap starts_name e) ∙ h in
    taken (b ∷ bs) rest e gap (token_of_word (b ∷ bs) (both_true (is_name_start b) _ start (and_true (is_name_byte b) _ a).1)) (longer start) tt
  where
    longer : is_name_start b ≡ true → (c : ℕ) (cs back : List ℕ) → rest ≡ c ∷ cs ++ back → IsSome (token_of (b ∷ bs ++ c ∷ cs)) → ⊥
    longer start c cs back f s = none_some _ (no_longer_word b (bs ++ c ∷ cs) start (not_all is_name_byte bs c cs (subst (BeginsOutside Word) f o))) s

-- strings

pub string_taken : (text inner front behind rest : List ℕ) → BeginsNoGap text → text ≡ 34
    ∷ inner → inner ≡ front ++ behind → list_all is_string_byte front ≡ true → behind ≡ 34
    ∷ rest → Takes text (Token.Str (take (length text - length rest) text)) rest
string_taken text inner front behind rest gap e f all g =
    let whole : text ≡ (34 ∷ front ++ 34 ∷ []) ++ rest = e ∙ ap (λ l. 34 ∷ l) (f ∙ ap (λ l. front ++ l) g ∙ sym (append_assoc front (34 ∷ []) rest)) in
    let same = front_is text (34 ∷ front ++ 34 ∷ []) rest whole in
    subst (λ l. Takes text (Token.Str l) rest) (sym same) (taken (34 ∷ front ++ 34 ∷ []) rest whole gap (token_of_string front all) longer tt)
  where
    longer : (c : ℕ) (cs back : List ℕ) → rest ≡ c ∷ cs ++ back → IsSome (token_of ((34 ∷ front ++ 34 ∷ []) ++ c ∷ cs)) → ⊥
    longer c cs back h s = none_some _ (no_longer_string front c cs all) (subst (λ l. IsSome (token_of (34 ∷ l))) (append_assoc front (34 ∷ []) (c ∷ cs)) s)

-- string bytes, and then one that is none: all of them are the front
same_front : (c d front behind : List ℕ) → c ++ 34 ∷ d ≡ front ++ behind → list_all is_string_byte c ≡ true → list_all is_string_byte front ≡ true → BeginsOutside Quotable behind → behind ≡ 34 ∷ d
same_front [] d [] behind e a b o = sym e
same_front [] d (y ∷ front) behind e a b o =
    let first : 34 ≡ y = cc in
    absurd (clash (and_true (is_string_byte y) _ b).0 (sym (ap is_string_byte first)))
same_front (x ∷ c) d [] [] e a b o = cc
same_front (x ∷ c) d [] (y ∷ behind) e a b o =
    let first : x ≡ y = cc in
    absurd (clash (sym (ap is_string_byte first) ∙ (and_true (is_string_byte x) _ a).0) o)
same_front (x ∷ c) d (y ∷ front) behind e a b o =
    let tail : c ++ 34 ∷ d ≡ front ++ behind = cc in
    same_front c d front behind tail (and_true (is_string_byte x) _ a).1 (and_true (is_string_byte y) _ b).1 o

-- a text that begins with a quote begins with a string or with no token
quoted : (text : List ℕ) → starts_string text ≡ true → (word rest : List ℕ) (t : Token)
    → text ≡ word ++ rest → token_of word ≡ Some t → (c : List ℕ) × (text ≡ 34 ∷ c ++ 34 ∷ rest)
    × (list_all is_string_byte c ≡ true)
quoted text h [] rest t e is = absurd (cc)
quoted text h (b ∷ bs) rest t e is =
    let quote : b ≡ 34 = eq_same b 34 (sym (ap starts_string e) ∙ h) in
    let some : IsSome (token_of (34 ∷ bs)) = subst (λ x. IsSome (token_of (x ∷ bs))) quote (some_is (token_of (b ∷ bs)) is) in
    let (c, f, all) = string_is (34 ∷ bs) (string_token bs some) in
    (c, e ∙ ap (λ x. x ∷ bs ++ rest) quote ∙ ap (λ l. l ++ rest) f ∙ ap (λ l. 34 ∷ l) (append_assoc c (34 ∷ []) rest), all)

pub no_string_closed : (text inner front behind : List ℕ) → starts_string text ≡ true
    → text ≡ 34 ∷ inner → inner ≡ front ++ behind → list_all is_string_byte front ≡ true
    → BeginsOutside Quotable behind → ((rest : List ℕ) → behind ≡ 34 ∷ rest → ⊥)
    → BeginsNoToken text
no_string_closed text inner front behind h e f all o none word rest t g k =
    let (c, w, a) = quoted text h word rest t g k.is in
    let tail : c ++ 34 ∷ rest ≡ front ++ behind = (let q : inner ≡ c ++ 34 ∷ rest = cc in sym q ∙ f) in
    none rest (same_front c rest front behind tail a all o)

-- signs

-- what holds of each sign
any_all : (p : List ℕ → Bool) (w : List ℕ) (ss : List (List ℕ)) → list_any (bytes_eq w) ss ≡ true → list_all p ss ≡ true → p w ≡ true
any_all p w [] e f = absurd (cc)
any_all p w (s ∷ ss) e f =
    let (a, r) = and_true (p s) _ f in
    elim (or_true (bytes_eq w s) _ e) [ inl m ↦ ap p (bytes_same w s m) ∙ a | inr m ↦ any_all p w ss m r ]

is_first_a_sign : List ℕ → Bool
is_first_a_sign [] = false
is_first_a_sign (b ∷ bs) = is_sign (b ∷ [])

pub sign_first : (b : ℕ) (bs : List ℕ) → is_sign (b ∷ bs) ≡ true → is_sign (b ∷ []) ≡ true
unfolding is_first_a_sign
sign_first b bs e = any_all is_first_a_sign (b ∷ bs) signs e refl

-- no sign has over three bytes
is_short : List ℕ → Bool
is_short (b ∷ c ∷ d ∷ e ∷ ds) = false
is_short _ = true

no_long : (b c d e : ℕ) (ds : List ℕ) → is_sign (b ∷ c ∷ d ∷ e ∷ ds) ≡ true → ⊥
unfolding is_short
no_long b c d e ds h = let f : false ≡ true = any_all is_short (b ∷ c ∷ d ∷ e ∷ ds) signs h refl in absurd (cc)

-- signs of three bytes end with `==`
ends_equal : List ℕ → Bool
ends_equal (b ∷ c ∷ d ∷ ds) = c == 61 && d == 61
ends_equal _ = true

pub triple_ends : (b c d : ℕ) → is_sign (b ∷ c ∷ d ∷ []) ≡ true → (c ≡ 61) × (d ≡ 61)
unfolding ends_equal
triple_ends b c d h =
    let (p, q) = and_true (c == 61) _ (any_all ends_equal (b ∷ c ∷ d ∷ []) signs h refl) in
    (eq_same c 61 p, eq_same d 61 q)

-- signs of two bytes end with `=` or with their first byte
ends_double : List ℕ → Bool
ends_double (b ∷ c ∷ []) = c == 61 || c == b
ends_double _ = true

pub double_ends : (b c : ℕ) → is_sign (b ∷ c ∷ []) ≡ true → (c == 61) ≡ false → (c == b) ≡ false → ⊥
unfolding ends_double
double_ends b c h e f = elim (or_true (c == 61) _ (any_all ends_double (b ∷ c ∷ []) signs h refl)) [ inl x ↦ clash x e | inr x ↦ clash x f ]

-- no sign begins as a name, a number or a string
begins_other : List ℕ → Bool
begins_other [] = true
begins_other (b ∷ bs) = not (is_name_start b) && (not (is_digit b) && not (is_quote b))

pub record IsOther (b : ℕ) : Type 0 where
  pub name : is_name_start b ≡ false
  pub digit : is_digit b ≡ false
  pub quote : is_quote b ≡ false

not_false : (b : Bool) → not b ≡ true → b ≡ false
not_false true e = cc
not_false false e = refl

pub sign_other : (b : ℕ) (bs : List ℕ) → is_sign (b ∷ bs) ≡ true → IsOther b
unfolding begins_other
sign_other b bs h =
    let (n, t) = and_true (not (is_name_start b)) _ (any_all begins_other (b ∷ bs) signs h refl) in
    let (d, q) = and_true (not (is_digit b)) _ t in
    record { name = not_false _ n; digit = not_false _ d; quote = not_false _ q }

sign_is : (b : ℕ) (bs : List ℕ) → IsOther b → is_sign (b ∷ bs) ≡ true → token_of (b ∷ bs) ≡ Some (Token.Sign (b ∷ bs))
sign_is b bs o s = sign_alone b bs o.name o.digit o.quote ∙ (rw s refl)

some_sign : (b : ℕ) (bs : List ℕ) → IsOther b → IsSome (token_of (b ∷ bs)) → is_sign (b ∷ bs) ≡ true
some_sign b bs o s = elim (true_or_false (is_sign (b ∷ bs))) [
  | inl t ↦ t
  | inr f ↦ absurd (none_some _ (sign_alone b bs o.name o.digit o.quote ∙ (rw f refl)) s)
]

pub sign_view : (s : Sign) → is_sign (sign_bytes s) ≡ true
sign_view S.Open = refl
sign_view S.Close = refl
sign_view S.OpenBrace = refl
sign_view S.CloseBrace = refl
sign_view S.OpenBracket = refl
sign_view S.CloseBracket = refl
sign_view S.Semicolon = refl
sign_view S.Comma = refl
sign_view S.Dot = refl
sign_view S.Assign = refl
sign_view S.Plus = refl
sign_view S.Minus = refl
sign_view S.Star = refl
sign_view S.Slash = refl
sign_view S.Percent = refl
sign_view S.And = refl
sign_view S.Or = refl
sign_view S.Xor = refl
sign_view S.Tilde = refl
sign_view S.Not = refl
sign_view S.Question = refl
sign_view S.Colon = refl
sign_view S.Less = refl
sign_view S.Greater = refl
sign_view S.LessEqual = refl
sign_view S.GreaterEqual = refl
sign_view S.Equal = refl
sign_view S.NotEqual = refl
sign_view S.Same = refl
sign_view S.NotSame = refl
sign_view S.ShiftLeft = refl
sign_view S.ShiftRight = refl
sign_view S.AndAnd = refl
sign_view S.OrOr = refl
sign_view S.PlusPlus = refl
sign_view S.MinusMinus = refl
sign_view S.PlusAssign = refl
sign_view S.MinusAssign = refl
sign_view S.StarAssign = refl
sign_view S.Connect = refl

same_length : (b : ℕ) (xs ys : List ℕ) → b ∷ xs ≡ ys → length (b ∷ xs) ≡ length ys
same_length b xs ys e = ap length e

pub three_taken : (text rest : List ℕ) (b : ℕ) (s : Sign) → BeginsNoGap text → text ≡ b ∷ 61 ∷ 61 ∷ rest → sign_bytes s ≡ b ∷ 61 ∷ 61 ∷ [] → Takes text (Token.Sign (sign_bytes s)) rest
three_taken text rest b s gap e is =
    let h : is_sign (b ∷ 61 ∷ 61 ∷ []) ≡ true = sym (ap is_sign is) ∙ sign_view s in
    let o = sign_other b (61 ∷ 61 ∷ []) h in
    subst (λ l. Takes text (Token.Sign l) rest) (sym is)
    (taken (b ∷ 61 ∷ 61 ∷ []) rest e gap (sign_is b (61 ∷ 61 ∷ []) o h) (λ c cs back f k. no_long b 61 61 c cs (some_sign b (61 ∷ 61 ∷ c ∷ cs) o k)) apart)
  where
    apart : b ∷ 61 ∷ 61 ∷ [] ≡ 47 ∷ [] → BeginsStar rest → ⊥
    apart e s = cc

pub two_taken : (text rest : List ℕ) (b c : ℕ) (s : Sign) → BeginsNoGap text → LacksSign 3 text → text ≡ b ∷ c ∷ rest → sign_bytes s ≡ b ∷ c ∷ [] → Takes text (Token.Sign (sign_bytes s)) rest
two_taken text rest b c s gap three e is =
    let h : is_sign (b ∷ c ∷ []) ≡ true = sym (ap is_sign is) ∙ sign_view s in
    let o = sign_other b (c ∷ []) h in
    subst (λ l. Takes text (Token.Sign l) rest) (sym is) (taken (b ∷ c ∷ []) rest e gap (sign_is b (c ∷ []) o h) (λ d ds back f k. longer d ds back f (some_sign b (c ∷ d ∷ ds) o k)) apart)
  where
    longer : (d : ℕ) (ds back : List ℕ) → rest ≡ d ∷ ds ++ back → is_sign (b ∷ c ∷ d ∷ ds) ≡ true → ⊥
    longer d [] back f k = clash k (three (b ∷ c ∷ d ∷ []) back (e ∙ ap (λ l. b ∷ c ∷ l) f) refl)
    longer d (x ∷ ds) back f k = no_long b c d x ds k

    apart : b ∷ c ∷ [] ≡ 47 ∷ [] → BeginsStar rest → ⊥
    apart e s = cc

pub one_taken : (text rest : List ℕ) (b : ℕ) (s : Sign) → BeginsNoGap text → LacksSign 3 text
    → LacksSign 2 text → ((back : List ℕ) → text ≡ 47 ∷ 42 ∷ back → ⊥) → text ≡ b ∷ rest
    → sign_bytes s ≡ b ∷ [] → Takes text (Token.Sign (sign_bytes s)) rest
one_taken text rest b s gap three two comment e is =
    let h : is_sign (b ∷ []) ≡ true = sym (ap is_sign is) ∙ sign_view s in
    let o = sign_other b [] h in
    subst (λ l. Takes text (Token.Sign l) rest) (sym is) (taken (b ∷ []) rest e gap (sign_is b [] o h) (λ c cs back f k. longer c cs back f (some_sign b (c ∷ cs) o k)) (apart rest e))
  where
    longer : (c : ℕ) (cs back : List ℕ) → rest ≡ c ∷ cs ++ back → is_sign (b ∷ c ∷ cs) ≡ true → ⊥
    longer c [] back f k = clash k (two (b ∷ c ∷ []) back (e ∙ ap (λ l. b ∷ l) f) refl)
    longer c (d ∷ []) back f k = clash k (three (b ∷ c ∷ d ∷ []) back (e ∙ ap (λ l. b ∷ l) f) refl)
    longer c (d ∷ x ∷ ds) back f k = no_long b c d x ds k

    apart : (rest : List ℕ) → text ≡ b ∷ rest → b ∷ [] ≡ 47 ∷ [] → BeginsStar rest → ⊥
    apart [] e f s = s
    apart (c ∷ cs) e f s = let first : b ≡ 47 = cc in comment cs (e ∙ (rw (first, s) refl))

-- no sign of a length

pub no_three : (text : List ℕ) → ((b : ℕ) (rest : List ℕ) → text ≡ b ∷ 61 ∷ 61 ∷ rest → is_sign (b ∷ 61 ∷ 61 ∷ []) ≡ false) → LacksSign 3 text
no_three text none [] back e n = absurd (omega arith)
no_three text none (b ∷ []) back e n = absurd (omega arith)
no_three text none (b ∷ c ∷ []) back e n = absurd (omega arith)
no_three text none (b ∷ c ∷ d ∷ x ∷ ds) back e n = absurd (omega arith)
no_three text none (b ∷ c ∷ d ∷ []) back e n = not_true _ (λ h.
    let (p, q) = triple_ends b c d h in
    let whole : text ≡ b ∷ 61 ∷ 61 ∷ back = e ∙ ap (λ x. b ∷ x ∷ d ∷ back) p ∙ ap (λ x. b ∷ 61 ∷ x ∷ back) q in
    clash (subst (λ l. is_sign l ≡ true) (ap (λ x. b ∷ x ∷ d ∷ []) p ∙ ap (λ x. b ∷ 61 ∷ x ∷ []) q) h) (none b back whole))

pub no_two : (text : List ℕ) → ((b c : ℕ) (rest : List ℕ) → text ≡ b ∷ c ∷ rest → is_sign (b ∷ c ∷ []) ≡ false) → LacksSign 2 text
no_two text none [] back e n = absurd (omega arith)
no_two text none (b ∷ []) back e n = absurd (omega arith)
no_two text none (b ∷ c ∷ []) back e n = none b c back e
no_two text none (b ∷ c ∷ d ∷ ds) back e n = absurd (omega arith)

-- no token

pub none_taken : (text : List ℕ) → starts_name text ≡ false → starts_number text ≡ false
    → starts_string text ≡ false → ((b : ℕ) (rest : List ℕ) → text ≡ b ∷ rest
    → is_sign (b ∷ []) ≡ false) → BeginsNoToken text
none_taken text n d q alone [] rest t e k = let is = k.is in absurd (cc)
none_taken text n d q alone (b ∷ bs) rest t e k =
    let o : IsOther b = record { name = sym (ap starts_name e) ∙ n; digit = sym (ap starts_number e) ∙ d; quote = sym (ap starts_string e) ∙ q } in
    clash (sign_first b bs (some_sign b bs o (some_is (token_of (b ∷ bs)) k.is))) (alone b (bs ++ rest) e)

slash_long : (c : ℕ) (cs : List ℕ) → is_sign (47 ∷ c ∷ cs) ≡ true → ⊥
slash_long c [] h = elim (true_or_false (c == 61)) [
  | inl e ↦ clash (subst (λ x. is_sign (47 ∷ x ∷ []) ≡ true) (eq_same c 61 e) h) refl
  | inr e ↦ elim (true_or_false (c == 47)) [
    | inl f ↦ clash (subst (λ x. is_sign (47 ∷ x ∷ []) ≡ true) (eq_same c 47 f) h) refl
    | inr f ↦ double_ends 47 c h e f
  ]
]
slash_long c (d ∷ []) h =
    let (p, q) = triple_ends 47 c d h in
    clash (subst (λ l. is_sign l ≡ true) (ap (λ x. 47 ∷ x ∷ d ∷ []) p ∙ ap (λ x. 47 ∷ 61 ∷ x ∷ []) q) h) refl
slash_long c (d ∷ x ∷ ds) h = no_long 47 c d x ds h

-- an open comment is no `/`
pub open_taken : (text rest : List ℕ) → text ≡ 47 ∷ 42 ∷ rest → BeginsNoToken text
open_taken text rest e [] back t f k = let is = k.is in absurd (cc)
open_taken text rest e (b ∷ []) back t f k =
    let first : b ≡ 47 = cc in
    let behind : back ≡ 42 ∷ rest = cc in
    let is : Some (Token.Sign (47 ∷ [])) ≡ Some t = subst (λ x. token_of (x ∷ []) ≡ Some t) first k.is in
    let sign : t ≡ Token.Sign (47 ∷ []) = cc in
    subst (λ l. OpensNone (Token.Sign (47 ∷ [])) l) behind (subst (λ x. OpensNone x back) sign k.apart) refl refl
open_taken text rest e (b ∷ c ∷ cs) back t f k =
    let first : b ≡ 47 = cc in
    let o : IsOther 47 = record { name = refl; digit = refl; quote = refl } in
    slash_long c cs (some_sign 47 (c ∷ cs) o (subst (λ x. IsSome (token_of (x ∷ c ∷ cs))) first (some_is (token_of (b ∷ c ∷ cs)) k.is)))
