-- Integers and decimals at the front of a text.
use Rattle.std.proofs.Common.{◌≡◌, ◌∙◌, ◌⊎◌, inl, inr, ℕ, ◌==◌, Bool, true, false, cond, not, ◌||◌}
use Rattle.std.proofs.Common.{List, [], ◌∷◌, ◌++◌, Some, None, IsSome, length, take, ◌-◌, refl, sym}
use Rattle.std.proofs.Common.{ap, subst, append_assoc, arith}
use Rattle.std.specs.List.{list_all, list_any, before_first, after_first}
use Rattle.std.specs.Str.{bytes_eq}
use Rattle.grammar.specs.Bytes.{is_digit, is_hex}
use Rattle.maxj_tokens.specs.Tokens.{Token, token_of, is_name_byte, are_digits, is_decimal_integer, is_hex_integer, is_suffix, is_integer, is_dot, is_decimal, is_quote, signs}
use Rattle.text_scan.specs.Gaps.{BeginsNoGap}
use Rattle.text_scan.specs.Classes.{is_in, BeginsOutside}
use Rattle.maxj_tokens.specs.Reading.{Takes, TakesPlain, LacksDecimal, BeginsNoSuffix, starts_number, is_plain}
use Rattle.text_scan.specs.declared.bytes.ByteClass.{ByteClass}
use Rattle.text_scan.specs.declared.bytes.ByteClass.TheVariants.{Digit, Hex}
use Rattle.text_scan.proofs.ByteTests.{and_true, both_true, or_true, or_left, or_right, clash}
use Rattle.text_scan.proofs.ByteTests.{not_true, true_or_false, none_some, bytes_same, not_all}
use Rattle.text_scan.proofs.ByteTests.{eq_same, before_here, before_later, after_later, parts_at}
use Rattle.maxj_tokens.proofs.Words.{not_word, no_string, no_sign, parted, all_are, all_digits, integer_bytes, digit_no_dot, are_digits_all}
use Rattle.text_scan.proofs.Fronts.{taken, front_is}

-- bytes of a class, and then one that is none: all of them are the front
pub same_split : (class : ByteClass) (x : ℕ) → is_in class x ≡ false
    → (c d front behind : List ℕ) → c ++ x ∷ d ≡ front ++ behind
    → list_all (is_in class) c ≡ true → list_all (is_in class) front ≡ true
    → BeginsOutside class behind → behind ≡ x ∷ d
same_split class x h [] d [] behind e a b o = sym e
same_split class x h [] d (y ∷ front) behind e a b o =
    let first : x ≡ y = cc in
    absurd (clash (and_true (is_in class y) _ b).0 (sym (ap (is_in class) first) ∙ h))
same_split class x h (z ∷ c) d [] [] e a b o = cc
same_split class x h (z ∷ c) d [] (y ∷ behind) e a b o =
    let first : z ≡ y = cc in
    absurd (clash (sym (ap (is_in class) first) ∙ (and_true (is_in class z) _ a).0) o)
same_split class x h (z ∷ c) d (y ∷ front) behind e a b o =
    let tail : c ++ x ∷ d ≡ front ++ behind = cc in
    same_split class x h c d front behind tail (and_true (is_in class z) _ a).1 (and_true (is_in class y) _ b).1 o

some_length : (d : ℕ) (ds : List ℕ) → (length (d ∷ ds) == 0) ≡ false
some_length d ds = not_true _ (λ t. let e = eq_same (length (d ∷ ds)) 0 t in absurd (omega arith))

-- decimals

nothing_after : (p : ℕ → Bool) (xs : List ℕ) → list_any p xs ≡ false → after_first p xs ≡ []
nothing_after p [] e = refl
nothing_after p (x ∷ xs) e = elim (true_or_false (p x)) [
  | inl h ↦ absurd (clash (or_left (p x) _ h) e)
  | inr h ↦ after_later p x xs h ∙ nothing_after p xs (not_true _ (λ t. clash (or_right (p x) _ t) e))
]

pub record IsDecimal (w : List ℕ) : Type 0 where
  pub whole : List ℕ
  pub part : List ℕ
  pub split : w ≡ whole ++ 46 ∷ part
  pub digits : are_digits whole ≡ true
  pub more : are_digits part ≡ true

decimal_is : (w : List ℕ) → is_decimal w ≡ true → IsDecimal w
decimal_is w e =
    let (d, m) = and_true (are_digits (before_first is_dot w)) _ e in
    elim (true_or_false (list_any is_dot w)) [
      | inl h ↦
          let (c, dot, s) = parted is_dot w h in
          record { whole = before_first is_dot w; part = after_first is_dot w; split = s ∙ ap (λ x. before_first is_dot w ++ x ∷ after_first is_dot w) (eq_same c 46 dot); digits = d; more = m }
      | inr h ↦ absurd (clash m (ap are_digits (nothing_after is_dot w h)))
    ]

digits_are : (ds : List ℕ) → list_all is_digit ds ≡ true → (length ds == 0) ≡ false → are_digits ds ≡ true
digits_are [] h e = cc
digits_are (d ∷ ds) h e = h

pub decimal_word : (d e : List ℕ) → list_all is_digit d ≡ true → list_all is_digit e ≡ true → (length d == 0) ≡ false → (length e == 0) ≡ false → is_decimal (d ++ 46 ∷ e) ≡ true
decimal_word d e a b n m =
    let r = parts_at is_dot is_digit digit_no_dot d 46 e a refl in
    both_true _ _ (ap are_digits r.before ∙ digits_are d a n) (ap are_digits r.after ∙ digits_are e b m)

-- where digits, a dot and digits must stand
decimal_split : (text front behind : List ℕ) → text ≡ front ++ behind
    → list_all is_digit front ≡ true → BeginsOutside Digit behind → (word back : List ℕ)
    → text ≡ word ++ back → is_decimal word ≡ true → (e : List ℕ) × (behind ≡ 46 ∷ e ++ back)
    × (are_digits e ≡ true)
decimal_split text front behind s a o word back f t =
    let i = decimal_is word t in
    let whole : text ≡ i.whole ++ (46 ∷ i.part ++ back) = f ∙ ap (λ l. l ++ back) i.split ∙ append_assoc i.whole (46 ∷ i.part) back in
    (i.part, same_split Digit 46 refl i.whole (i.part ++ back) front behind (sym whole ∙ s) (are_digits_all i.whole i.digits) a o, i.more)

pub no_dot : (text front behind : List ℕ) → text ≡ front ++ behind → list_all is_digit front ≡ true → BeginsOutside Digit behind → ((rest : List ℕ) → behind ≡ 46 ∷ rest → ⊥) → LacksDecimal text
no_dot text front behind s a o none word back f = not_true _ (λ t. let (e, g, _) = decimal_split text front behind s a o word back f t in none (e ++ back) g)

pub no_part : (text front behind inner part rest : List ℕ) → text ≡ front ++ behind
    → list_all is_digit front ≡ true → BeginsOutside Digit behind → behind ≡ 46 ∷ inner
    → inner ≡ part ++ rest → (length part == 0) ≡ true → BeginsOutside Digit rest
    → LacksDecimal text
no_part text front behind inner (x ∷ part) rest s a o e f n q = absurd (clash n (some_length x part))
no_part text front behind inner [] rest s a o e f n q = λ word back g. not_true _ (λ t.
    let (p, h, d) = decimal_split text front behind s a o word back g t in
    let same : rest ≡ p ++ back = (let k : inner ≡ p ++ back = cc in sym f ∙ k) in
    first p back same d)
  where
    first : (p back : List ℕ) → rest ≡ p ++ back → are_digits p ≡ true → ⊥
    first [] back e h = cc
    first (x ∷ p) back e h = clash (and_true (is_digit x) _ h).0 (subst (BeginsOutside Digit) e q)

-- a word that begins with a digit is a number or no token
digit_alone : (b : ℕ) (bs : List ℕ) → is_digit b ≡ true → token_of (b ∷ bs) ≡ cond (is_integer (b ∷ bs)) (Some (Token.Whole (b ∷ bs))) (cond (is_decimal (b ∷ bs)) (Some (Token.Decimal (b ∷ bs))) None)
digit_alone b bs d =
    let quote : is_quote b ≡ false = not_true _ (λ t. clash (sym (ap is_digit (eq_same b 34 t)) ∙ d) refl) in
    rw (not_word b bs d, no_string b bs quote, no_sign is_digit b bs d signs refl) refl

no_dot_inside : (a c : List ℕ) → is_integer (a ++ 46 ∷ c) ≡ false
no_dot_inside a c = not_true _ (λ t. clash (integer_bytes (a ++ 46 ∷ c) t) (not_all is_name_byte a 46 c refl))

decimal_more : (d e : List ℕ) (c : ℕ) (cs : List ℕ) → list_all is_digit d ≡ true → is_digit c ≡ false → is_decimal (d ++ (46 ∷ e ++ c ∷ cs)) ≡ false
decimal_more d e c cs a h = not_true _ (λ t.
    let r = parts_at is_dot is_digit digit_no_dot d 46 (e ++ c ∷ cs) a refl in
    clash (are_digits_all (e ++ c ∷ cs) (sym (ap are_digits r.after) ∙ (and_true _ _ t).1)) (not_all is_digit e c cs h))

pub decimal_taken : (text word rest : List ℕ) → BeginsNoGap text → text ≡ word ++ rest
    → is_decimal word ≡ true → BeginsOutside Digit rest
    → Takes text (Token.Decimal (take (length text - length rest) text)) rest
decimal_taken text word rest gap e h o = subst (λ l. Takes text (Token.Decimal l) rest) (sym (front_is text word rest e)) (by (decimal_is word h))
  where
    whole : (d p : List ℕ) → word ≡ d ++ 46 ∷ p → are_digits d ≡ true → Takes text (Token.Decimal word) rest
    whole [] p s a = cc
    whole (b ∷ d) p s a =
        let digit = (and_true (is_digit b) _ a).0 in
        let is : token_of (b ∷ d ++ 46 ∷ p) ≡ Some (Token.Decimal (b ∷ d ++ 46 ∷ p)) =
        digit_alone b (d ++ 46 ∷ p) digit ∙ (rw (no_dot_inside (b ∷ d) p, sym (ap is_decimal s) ∙ h) refl) in
        subst (λ l. Takes text (Token.Decimal l) rest) (sym s) (taken (b ∷ d ++ 46 ∷ p) rest (e ∙ ap (λ l. l ++ rest) s) gap is (longer digit) tt)
      where
        longer : is_digit b ≡ true → (c : ℕ) (cs back : List ℕ) → rest ≡ c ∷ cs ++ back → IsSome (token_of ((b ∷ d ++ 46 ∷ p) ++ c ∷ cs)) → ⊥
        longer digit c cs back f k =
            let no : is_digit c ≡ false = subst (BeginsOutside Digit) f o in
            none_some _ (digit_alone b (d ++ (46 ∷ p ++ c
            ∷ cs)) digit ∙ (rw (
              no_dot_inside (b ∷ d) (p ++ c ∷ cs),
              decimal_more (b ∷ d) p c cs a no,
            ) refl)) (subst (λ l. IsSome (token_of (b
            ∷ l))) (append_assoc d (46 ∷ p) (c ∷ cs)) k)

    by : IsDecimal word → Takes text (Token.Decimal word) rest
    by i = whole i.whole i.part i.split i.digits

-- integers without a suffix

pub hex_word : (ds : List ℕ) → list_all is_hex ds ≡ true → (length ds == 0) ≡ false → is_hex_integer (48 ∷ 120 ∷ ds) ≡ true
hex_word [] h n = cc
hex_word (d ∷ ds) h n = h

pub record IsHex (w : List ℕ) : Type 0 where
  pub digits : List ℕ
  pub split : w ≡ 48 ∷ 120 ∷ digits
  pub some : (length digits == 0) ≡ false
  pub all : list_all is_hex digits ≡ true

pub hex_is : (w : List ℕ) → is_hex_integer w ≡ true → IsHex w
hex_is [] e = cc
hex_is (a ∷ []) e = cc
hex_is (a ∷ x ∷ []) e = cc
hex_is (a ∷ x ∷ d ∷ ds) e =
    let (f, t) = and_true (a == 48) _ e in
    let (g, t) = and_true (x == 120) _ t in
    record { digits = d ∷ ds; split = ap (λ y. y ∷ x ∷ d ∷ ds) (eq_same a 48 f) ∙ ap (λ y. 48 ∷ y ∷ d ∷ ds) (eq_same x 120 g); some = some_length d ds; all = t }

pub no_prefix : (text : List ℕ) → ((rest : List ℕ) → text ≡ 48 ∷ 120 ∷ rest → ⊥) → (word back : List ℕ) → text ≡ word ++ back → is_hex_integer word ≡ false
no_prefix text none word back e = not_true _ (λ t. let i = hex_is word t in none (i.digits ++ back) (e ∙ ap (λ l. l ++ back) i.split))

pub hex_taken : (text word rest : List ℕ) → text ≡ word ++ rest → is_hex_integer word ≡ true → BeginsOutside Hex rest → TakesPlain text rest
hex_taken text word rest e h o = record { word = word; split = e; is = or_right (is_decimal_integer word) _ h; longest = longest (hex_is word h) }
  where
    longest : IsHex word → (more back : List ℕ) → rest ≡ more ++ back → is_plain (word ++ more) ≡ true → more ≡ []
    longest i [] back f t = refl
    longest i (c ∷ cs) back f t =
        let u : is_plain (48 ∷ 120 ∷ i.digits ++ c ∷ cs) ≡ true = subst (λ l. is_plain (l ++ c ∷ cs) ≡ true) i.split t in
        elim (or_true (is_decimal_integer (48 ∷ 120 ∷ i.digits ++ c ∷ cs)) _ u) [
          | inl d ↦ absurd (clash (all_digits (48 ∷ 120 ∷ i.digits ++ c ∷ cs) d) refl)
          | inr d ↦
              let j = hex_is (48 ∷ 120 ∷ i.digits ++ c ∷ cs) d in
              let same : i.digits ++ c ∷ cs ≡ j.digits = (let s = j.split in cc) in
              absurd (clash (subst (λ l. list_all is_hex l ≡ true) (sym same) j.all) (not_all is_hex i.digits c cs (subst (BeginsOutside Hex) f o)))
        ]

pub zero_taken : (text rest : List ℕ) → text ≡ 48 ∷ rest → ((word back : List ℕ) → text ≡ word ++ back → is_hex_integer word ≡ false) → TakesPlain text rest
zero_taken text rest e none = record { word = 48 ∷ []; split = e; is = refl; longest = longest }
  where
    longest : (more back : List ℕ) → rest ≡ more ++ back → is_plain (48 ∷ more) ≡ true → more ≡ []
    longest [] back f t = refl
    longest (c ∷ cs) back f t = elim (or_true (is_decimal_integer (48 ∷ c ∷ cs)) _ t) [
      | inl d ↦ absurd (clash (and_true (list_all is_digit (c ∷ cs)) _ d).1 refl)
      | inr d ↦ absurd (clash d (none (48 ∷ c ∷ cs) back (e ∙ ap (λ l. 48 ∷ l) f)))
    ]

pub digits_taken : (text front rest : List ℕ) → starts_number text ≡ true
    → ((rest : List ℕ) → text ≡ 48 ∷ rest → ⊥) → text ≡ front ++ rest
    → list_all is_digit front ≡ true → BeginsOutside Digit rest
    → ((word back : List ℕ) → text ≡ word ++ back → is_hex_integer word ≡ false)
    → TakesPlain text rest
digits_taken text [] [] h zero e a o none = absurd (clash (sym (ap starts_number e) ∙ h) refl)
digits_taken text [] (y ∷ rest) h zero e a o none = absurd (clash (sym (ap starts_number e) ∙ h) o)
digits_taken text (b ∷ bs) rest h zero e a o none = record { word = b ∷ bs; split = e; is = or_left _ _ is; longest = longest }
  where
    other : (b == 48) ≡ false
    other = not_true _ (λ t. zero (bs ++ rest) (e ∙ ap (λ x. x ∷ bs ++ rest) (eq_same b 48 t)))

    is : is_decimal_integer (b ∷ bs) ≡ true
    is = let (d, ds) = and_true (is_digit b) _ a in both_true (is_digit b) _ d (both_true (list_all is_digit bs) _ ds (or_left (not (b == 48)) _ (ap not other)))

    longest : (more back : List ℕ) → rest ≡ more ++ back → is_plain (b ∷ bs ++ more) ≡ true → more ≡ []
    longest [] back f t = refl
    longest (c ∷ cs) back f t = elim (or_true (is_decimal_integer (b ∷ bs ++ c ∷ cs)) _ t) [
      | inl d ↦ absurd (clash (all_digits (b ∷ bs ++ c ∷ cs) d) (not_all is_digit (b ∷ bs) c cs (subst (BeginsOutside Digit) f o)))
      | inr d ↦ absurd (clash d (none (b ∷ bs ++ c ∷ cs) back (e ∙ ap (λ l. b ∷ bs ++ l) f ∙ sym (append_assoc (b ∷ bs) (c ∷ cs) back))))
    ]

-- integers

is_plain_byte : ℕ → Bool
is_plain_byte b = is_hex b || b == 120

digit_is_plain : (b : ℕ) → is_digit b ≡ true → is_plain_byte b ≡ true
unfolding is_plain_byte
digit_is_plain b e = or_left (is_hex b) _ (or_left (is_digit b) _ e)

hex_is_plain : (b : ℕ) → is_hex b ≡ true → is_plain_byte b ≡ true
unfolding is_plain_byte
hex_is_plain b e = or_left (is_hex b) _ e

plain_no_suffix : (b : ℕ) → is_plain_byte b ≡ true → is_suffix b ≡ false
unfolding is_plain_byte
plain_no_suffix b e = not_true _ (λ t. elim (or_true (b == 76) _ t) [
  | inl h ↦ clash (subst (λ x. (is_hex x || x == 120) ≡ true) (eq_same b 76 h) e) refl
  | inr h ↦ clash (subst (λ x. (is_hex x || x == 120) ≡ true) (eq_same b 108 h) e) refl
])

plain_bytes : (w : List ℕ) → is_plain w ≡ true → list_all is_plain_byte w ≡ true
unfolding is_plain_byte
plain_bytes w e = elim (or_true (is_decimal_integer w) _ e) [
  | inl h ↦ all_are is_digit is_plain_byte digit_is_plain w (all_digits w h)
  | inr h ↦ (let i = hex_is w h in subst (λ l. list_all is_plain_byte l ≡ true) (sym i.split) (all_are is_hex is_plain_byte hex_is_plain i.digits i.all))
]

plain_first : (w : List ℕ) → is_plain w ≡ true → (b : ℕ) × (bs : List ℕ) × (w ≡ b ∷ bs) × (is_digit b ≡ true)
plain_first [] e = cc
plain_first (b ∷ bs) e = elim (or_true (is_decimal_integer (b ∷ bs)) _ e) [
  | inl h ↦ (b, bs, refl, (and_true (is_digit b) _ h).0)
  | inr h ↦ (let i = hex_is (b ∷ bs) h in let first : b ≡ 48 = (let s = i.split in cc) in (b, bs, refl, ap is_digit first))
]

plain_integer : (w : List ℕ) → is_plain w ≡ true → is_integer w ≡ true
plain_integer w e = elim (or_true (is_decimal_integer w) _ e) [
  | inl h ↦ or_left (is_decimal_integer w) _ h
  | inr h ↦ or_right (is_decimal_integer w) _ (or_left (is_hex_integer w) _ h)
]

-- an integer is one without a suffix, or one and a suffix
integer_cases : (w : List ℕ) → is_integer w ≡ true → (is_plain w ≡ true) ⊎ ((is_plain (before_first is_suffix w) ≡ true) × (after_first is_suffix w ≡ []))
integer_cases w e = elim (or_true (is_decimal_integer w) _ e) [
  | inl h ↦ inl (or_left (is_decimal_integer w) _ h)
  | inr t ↦ elim (or_true (is_hex_integer w) _ t) [
    | inl h ↦ inl (or_right (is_decimal_integer w) _ h)
    | inr t ↦ (let (front, back) = and_true _ _ t in inr (front, bytes_same (after_first is_suffix w) [] (and_true (list_any is_suffix w) _ back).1))
  ]
]

has_suffix : (w : List ℕ) (c : ℕ) (cs : List ℕ) → is_suffix c ≡ true → list_any is_suffix (w ++ c ∷ cs) ≡ true
has_suffix [] c cs h = or_left (is_suffix c) _ h
has_suffix (x ∷ w) c cs h = or_right (is_suffix x) _ (has_suffix w c cs h)

suffixed : (w : List ℕ) (c : ℕ) → is_plain w ≡ true → is_suffix c ≡ true → is_integer (w ++ c ∷ []) ≡ true
suffixed w c e h =
    let r = parts_at is_suffix is_plain_byte plain_no_suffix w c [] (plain_bytes w e) h in
    or_right (is_decimal_integer (w ++ c ∷ [])) _ (or_right (is_hex_integer (w ++ c ∷ [])) _
    (both_true _ _ (subst (λ l. is_plain l ≡ true) (sym r.before) e) (both_true (list_any is_suffix (w ++ c ∷ [])) _ (has_suffix w c [] h) (ap (λ l. bytes_eq l []) r.after))))

before_is_front : (p : ℕ → Bool) (xs : List ℕ) → (ys : List ℕ) × (xs ≡ before_first p xs ++ ys)
before_is_front p [] = ([], refl)
before_is_front p (x ∷ xs) = elim (true_or_false (p x)) [
  | inl h ↦ (x ∷ xs, sym (ap (λ l. l ++ x ∷ xs) (before_here p x xs h)))
  | inr h ↦ (let (ys, e) = before_is_front p xs in (ys, ap (λ l. x ∷ l) e ∙ sym (ap (λ l. l ++ ys) (before_later p x xs h))))
]

before_on : (w : List ℕ) (c : ℕ) (cs : List ℕ) → list_all is_plain_byte w ≡ true → is_suffix c ≡ false → before_first is_suffix (w ++ c ∷ cs) ≡ w ++ c ∷ before_first is_suffix cs
before_on [] c cs e h = before_later is_suffix c cs h
before_on (x ∷ w) c cs e h =
    let (a, b) = and_true (is_plain_byte x) _ e in
    before_later is_suffix x (w ++ c ∷ cs) (plain_no_suffix x a) ∙ ap (λ l. x ∷ l) (before_on w c cs b h)

-- a longer word is no number
no_number : (w : List ℕ) (c : ℕ) (cs : List ℕ) → is_plain w ≡ true → is_integer (w ++ c ∷ cs) ≡ false → is_decimal (w ++ c ∷ cs) ≡ false → token_of (w ++ c ∷ cs) ≡ None
no_number w c cs e i d = by (plain_first w e)
  where
    by : (b : ℕ) × (bs : List ℕ) × (w ≡ b ∷ bs) × (is_digit b ≡ true) → token_of (w ++ c ∷ cs) ≡ None
    by (b, bs, s, digit) =
        let same : w ++ c ∷ cs ≡ b ∷ bs ++ c ∷ cs = ap (λ l. l ++ c ∷ cs) s in
        ap token_of same ∙ digit_alone b (bs ++ c ∷ cs) digit ∙ (rw (sym (ap is_integer same) ∙ i, sym (ap is_decimal same) ∙ d) refl)

number_of : (w v : List ℕ) → is_plain w ≡ true → (u : List ℕ) → v ≡ w ++ u → is_integer v ≡ true → token_of v ≡ Some (Token.Whole v)
number_of w v e u s i =
    let (b, bs, f, digit) = plain_first w e in
    let same : v ≡ b ∷ bs ++ u = s ∙ ap (λ l. l ++ u) f in
    subst (λ l. token_of l ≡ Some (Token.Whole l)) (sym same) (digit_alone b (bs ++ u) digit ∙ (rw (sym (ap is_integer same) ∙ i) refl))

pub whole_taken : (text rest : List ℕ) → BeginsNoGap text → LacksDecimal text → TakesPlain text rest → BeginsNoSuffix rest → Takes text (Token.Whole (take (length text - length rest) text)) rest
whole_taken text rest gap lacks p none =
    subst (λ l. Takes text (Token.Whole l) rest) (sym (front_is text p.word rest p.split))
    (taken p.word rest p.split gap (number_of p.word p.word p.is [] (sym (nil p.word))
    (plain_integer p.word p.is)) longer tt)
  where
    nil : (xs : List ℕ) → xs ++ [] ≡ xs
    nil [] = refl
    nil (x ∷ xs) = ap (λ l. x ∷ l) (nil xs)

    longer : (c : ℕ) (cs back : List ℕ) → rest ≡ c ∷ cs ++ back → IsSome (token_of (p.word ++ c ∷ cs)) → ⊥
    longer c cs back f s =
        let no : is_suffix c ≡ false = subst BeginsNoSuffix f none in
        let integer : is_integer (p.word ++ c ∷ cs) ≡ false = not_true _ (λ t. elim (integer_cases (p.word ++ c ∷ cs) t) [
          | inl h ↦ (let e = p.longest (c ∷ cs) back f h in absurd (cc))
          | inr h ↦
              let (ys, g) = before_is_front is_suffix cs in
              let split : rest ≡ (c ∷ before_first is_suffix cs) ++ (ys ++ back) = f ∙ ap (λ l. c ∷ l ++ back) g ∙ ap (λ l. c ∷ l) (append_assoc (before_first is_suffix cs) ys back) in
              let e = p.longest (c ∷ before_first is_suffix cs) (ys ++ back) split (subst (λ l. is_plain l ≡ true) (before_on p.word c cs (plain_bytes p.word p.is) no) h.0) in
              absurd (cc)
        ]) in
        none_some _ (no_number p.word c cs p.is integer (lacks (p.word ++ c ∷ cs) back (p.split ∙ ap (λ l. p.word ++ l) f ∙ sym (append_assoc p.word (c ∷ cs) back)))) s

pub suffix_taken : (text mid rest : List ℕ) (x : ℕ) → BeginsNoGap text → LacksDecimal text
    → TakesPlain text mid → mid ≡ x ∷ rest → is_suffix x ≡ true
    → Takes text (Token.Whole (take (length text - length rest) text)) rest
suffix_taken text mid rest x gap lacks p m h =
    let whole : text ≡ (p.word ++ x ∷ []) ++ rest = p.split ∙ ap (λ l. p.word ++ l) m ∙ sym (append_assoc p.word (x ∷ []) rest) in
    subst (λ l. Takes text (Token.Whole l) rest) (sym (front_is text (p.word ++ x ∷ []) rest whole))
    (taken (p.word ++ x ∷ []) rest whole gap (number_of p.word (p.word ++ x ∷ []) p.is (x ∷ []) refl (suffixed p.word x p.is h)) longer tt)
  where
    longer : (c : ℕ) (cs back : List ℕ) → rest ≡ c ∷ cs ++ back → IsSome (token_of ((p.word ++ x ∷ []) ++ c ∷ cs)) → ⊥
    longer c cs back f s =
        let r = parts_at is_suffix is_plain_byte plain_no_suffix p.word x (c ∷ cs) (plain_bytes p.word p.is) h in
        let integer : is_integer (p.word ++ x ∷ c ∷ cs) ≡ false = not_true _ (λ t. elim (integer_cases (p.word ++ x ∷ c ∷ cs) t) [
          | inl k ↦ clash (plain_bytes (p.word ++ x ∷ c ∷ cs) k) (not_all is_plain_byte p.word x (c ∷ cs) (not_true _ (λ q. clash h (plain_no_suffix x q))))
          | inr k ↦ (let e = sym r.after ∙ k.1 in absurd (cc))
        ]) in
        let split : text ≡ (p.word ++ x ∷ c ∷ cs) ++ back = p.split ∙ ap (λ l. p.word ++ l) (m ∙ ap (λ l. x ∷ l) f) ∙ sym (append_assoc p.word (x ∷ c ∷ cs) back) in
        none_some _ (no_number p.word x (c ∷ cs) p.is integer (lacks (p.word ++ x ∷ c ∷ cs) back split)) (subst (λ l. IsSome (token_of l)) (append_assoc p.word (x ∷ []) (c ∷ cs)) s)
