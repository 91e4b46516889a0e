-- Bytes that spell a stack of parts: they fall into tokens that are a whole list of the parts.
use Rattle.std.proofs.Common.{◌≡◌, ◌∙◌, ℕ, Bool, true, false, ◌&&◌, ◌==◌, not, List, [], ◌∷◌, ◌++◌, refl, sym, ap, subst, Some, None, append_assoc}
use Rattle.std.specs.Prelude.{IsSome, codes}
use Rattle.std.specs.List.{list_all}
use Rattle.grammar.specs.Bytes.{is_digit, is_hex, decimal_value, hexadecimal}
use Rattle.grammar.specs.Tokens.{Reads, Gaps, is_blank}
use Rattle.grammar.specs.Stack.{Runs}
use Rattle.rtl_text.specs.Tokens.{Token, token_of, Apart, IsTokens, is_word, is_quote, is_sign}
use Rattle.rtl_ir.specs.Names.{begins_name, continues_name, is_name, is_reserved}
use Rattle.rtl_text.specs.Tree.{Name}
use Rattle.rtl_text.specs.Productions.{Part, Is, Choice}
use Rattle.verilog_print.specs.Printed.{digits}
use Rattle.verilog_print.proofs.Letters.{sign_stops, and_left, and_right, name_stops, name_is}
use Rattle.verilog_print.proofs.Letters.{name_no_blank, name_no_slash, number_stops, number_is}
use Rattle.verilog_print.proofs.Letters.{literal_stops, literal_is, digit_no_blank, digit_no_slash}
use Rattle.verilog_print.proofs.Numerals.{AreDigits, decimal_digits, hex_digits}

pub record Spells (ps : List Part) (bytes : List ℕ) : Type 0 where
  pub tokens : List Token
  pub read : IsTokens bytes tokens
  pub derived : Runs Is Choice ps tokens

-- no gap begins here
abbrev pub NoGap : List ℕ → Type 0
NoGap bytes = (gap back : List ℕ) → bytes ≡ gap ++ back → Gaps gap back → ⊥

pub no_gap : (b : ℕ) (bs : List ℕ) → is_blank b ≡ false → (b == 47) ≡ false → NoGap (b ∷ bs)
no_gap b bs h k gap back e (Gaps.blank c q) = let same : b ≡ c = cc in cc
no_gap b bs h k gap back e (Gaps.line text p q) = let same : b ≡ 47 = cc in let other : (47 == 47) ≡ false = rw same at k in cc
no_gap b bs h k gap back e (Gaps.block text p) = let same : b ≡ 47 = cc in let other : (47 == 47) ≡ false = rw same at k in cc

-- a slash with another byte behind it
pub no_gap_slash : (c : ℕ) (bs : List ℕ) → (c == 47) ≡ false → (c == 42) ≡ false → NoGap (47 ∷ c ∷ bs)
no_gap_slash c bs h k gap back e (Gaps.blank d q) = let same : 47 ≡ d = cc in let other : is_blank 47 ≡ true = rw (← same) at q in cc
no_gap_slash c bs h k gap back e (Gaps.line text p q) = let same : c ≡ 47 = cc in let other : (47 == 47) ≡ false = rw same at h in cc
no_gap_slash c bs h k gap back e (Gaps.block text p) = let same : c ≡ 42 = cc in let other : (42 == 42) ≡ false = rw same at k in cc

-- whatever begins with this byte makes the word no token
abbrev pub Stops : List ℕ → ℕ → Type 0
Stops w b = (more : List ℕ) → token_of (w ++ b ∷ more) ≡ None

longest : (w rest : List ℕ) → ((c : ℕ) (cs back : List ℕ) → rest ≡ c ∷ (cs ++ back) → token_of (w ++ c ∷ cs) ≡ None)
    → (more back : List ℕ) → rest ≡ more ++ back → IsSome (token_of (w ++ more)) → more ≡ []
longest w rest s [] back e t = refl
longest w rest s (c ∷ cs) back e t = let never : false ≡ true = rw (s c cs back e) at t in cc

eat_before : {p : Part} {ps : List Part} (w rest : List ℕ) (t : Token) → Is p t → token_of w ≡ Some t → ((c : ℕ) (cs back : List ℕ) → rest ≡ c ∷ (cs ++ back) → token_of (w ++ c ∷ cs) ≡ None)
    → NoGap (w ++ rest) → Apart t rest → Spells ps rest → Spells (p ∷ ps) (w ++ rest)
eat_before w rest t i is s g a r = record {
  tokens = t ∷ r.tokens;
  read = Reads.token w (record { is = is; longest = longest w rest s; begins = g; apart = a }) r.read;
  derived = Runs.eat i r.derived;
}

pub eat : {p : Part} {ps : List Part} {rest : List ℕ} (w : List ℕ) (b : ℕ) (t : Token) → Is p t
    → token_of w ≡ Some t → Stops w b → NoGap (w ++ b ∷ rest) → Apart t (b ∷ rest)
    → Spells ps (b ∷ rest) → Spells (p ∷ ps) (w ++ b ∷ rest)
eat {rest = rest} w b t i is s g a r =
    eat_before w (b ∷ rest) t i is (λ c cs back e. let same : b ≡ c = cc in subst (λ x. token_of (w ++ x ∷ cs) ≡ None) same (s cs)) g a r

pub pick : {p : Part} {qs ps : List Part} {bytes : List ℕ} → Choice p qs → Spells (qs ++ ps) bytes → Spells (p ∷ ps) bytes
pick {qs = qs} c r = record { tokens = r.tokens; read = r.read; derived = Runs.pick qs c r.derived }

pub blank : {ps : List Part} {b : ℕ} {rest : List ℕ} → is_blank b ≡ true → Spells ps rest → Spells ps (b ∷ rest)
blank {b = b} h r = record { tokens = r.tokens; read = Reads.skip (b ∷ []) (Gaps.blank b h) r.read; derived = r.derived }

pub end : Spells [] []
end = record { tokens = []; read = Reads.end; derived = Runs.end }

-- a byte that begins no gap, name or number
abbrev pub is_other : ℕ → Bool
is_other s = not (is_blank s) && (not (s == 47) && (not (begins_name s) && (not (is_digit s) && not (is_quote s))))

record IsOther (s : ℕ) : Type 0 where
  no_blank : is_blank s ≡ false
  no_slash : (s == 47) ≡ false
  no_name : begins_name s ≡ false
  no_digit : is_digit s ≡ false
  no_quote : is_quote s ≡ false

not_true : (b : Bool) → not b ≡ true → b ≡ false
not_true true h = sym h
not_true false h = refl

not_first : (a b : Bool) → (not a && b) ≡ true → a ≡ false
not_first true b h = sym h
not_first false b h = refl

others : (s : ℕ) → is_other s ≡ true → IsOther s
others s h =
    let h2 = and_right (not (is_blank s)) _ h in
    let h3 = and_right (not (s == 47)) _ h2 in
    let h4 = and_right (not (begins_name s)) _ h3 in
    record {
      no_blank = not_first (is_blank s) _ h;
      no_slash = not_first (s == 47) _ h2;
      no_name = not_first (begins_name s) _ h3;
      no_digit = not_first (is_digit s) _ h4;
      no_quote = not_true (is_quote s) (and_right (not (is_digit s)) _ h4);
    }

-- only a slash has to stand apart from what follows
no_slash_apart : (s : ℕ) (rest : List ℕ) → (s == 47) ≡ false → Apart (Token.Sign (s ∷ [])) rest
no_slash_apart s rest h same _ = let slash : s ≡ 47 = cc in let other : (47 == 47) ≡ false = rw slash at h in cc

-- a sign of one byte that is part of no other, whatever follows
pub lone : {s : ℕ} {ps : List Part} {rest : List ℕ} → token_of (s
    ∷ []) ≡ Some (Token.Sign (s ∷ [])) → is_other s ≡ true
    → ((b : ℕ) (more : List ℕ) → is_sign (s ∷ b ∷ more) ≡ false) → Spells ps rest
    → Spells (Part.Sign_ (s ∷ []) ∷ ps) (s ∷ rest)
lone {s = s} {rest = rest} is o stops r =
    let k : IsOther s = others s o in
    eat_before (s ∷ []) rest (Token.Sign (s
    ∷ [])) refl is (λ c cs back e. sign_stops s c cs k.no_name k.no_digit k.no_quote
    (stops c cs)) (no_gap s rest k.no_blank k.no_slash) (no_slash_apart s rest k.no_slash) r

-- a sign of one byte before this one
pub sign : {s b : ℕ} {ps : List Part} {rest : List ℕ} → token_of (s
    ∷ []) ≡ Some (Token.Sign (s ∷ [])) → is_other s ≡ true
    → ((more : List ℕ) → is_sign (s ∷ b ∷ more) ≡ false) → Spells ps (b ∷ rest)
    → Spells (Part.Sign_ (s ∷ []) ∷ ps) (s ∷ b ∷ rest)
sign {s = s} {b = b} {rest = rest} is o stops r =
    let k : IsOther s = others s o in
    eat (s ∷ []) b (Token.Sign (s ∷ [])) refl is
    (λ more. sign_stops s b more k.no_name k.no_digit k.no_quote (stops more)) (no_gap s (b
    ∷ rest) k.no_blank k.no_slash) (no_slash_apart s (b ∷ rest) k.no_slash) r

-- `/`, `<=` and `==`, with a blank behind them
pub slash : {ps : List Part} {rest : List ℕ} → Spells ps (32 ∷ rest) → Spells (Part.Sign_ (codes "/") ∷ ps) (47 ∷ 32 ∷ rest)
slash {rest = rest} r = eat (codes "/") 32 (Token.Sign (codes "/")) refl refl (λ more. sign_stops 47 32 more refl refl refl refl) (no_gap_slash 32 rest refl refl) (λ _ star. cc) r

pub at_most : {ps : List Part} {rest : List ℕ} → Spells ps (32 ∷ rest) → Spells (Part.Sign_ (codes "<=") ∷ ps) (60 ∷ 61 ∷ 32 ∷ rest)
at_most {rest = rest} r = eat (codes "<=") 32 (Token.Sign (codes "<=")) refl refl (λ more. sign_stops 60 61 (32 ∷ more) refl refl refl refl) (no_gap 60 (61 ∷ 32 ∷ rest) refl refl) (λ same _. cc) r

pub equal : {ps : List Part} {rest : List ℕ} → Spells ps (32 ∷ rest) → Spells (Part.Sign_ (codes "==") ∷ ps) (61 ∷ 61 ∷ 32 ∷ rest)
equal {rest = rest} r = eat (codes "==") 32 (Token.Sign (codes "==")) refl refl (λ more. sign_stops 61 61 (32 ∷ more) refl refl refl refl) (no_gap 61 (61 ∷ 32 ∷ rest) refl refl) (λ same _. cc) r

word_then : {ps : List Part} {rest : List ℕ} {p : Part} (n : ℕ) (ns : List ℕ) (b : ℕ)
    → Is p (Token.Word (n ∷ ns)) → is_word (n ∷ ns) ≡ true → continues_name b ≡ false
    → Spells ps (b ∷ rest) → Spells (p ∷ ps) (n ∷ ns ++ b ∷ rest)
word_then {rest = rest} n ns b i h k r =
    let start : begins_name n ≡ true = and_left (begins_name n) (list_all continues_name ns) h in
    eat (n ∷ ns) b (Token.Word (n ∷ ns)) i (name_is n ns h) (name_stops n ns b start k) (no_gap n (ns ++ b ∷ rest) (name_no_blank n start) (name_no_slash n start)) tt r

-- a reserved word, or `clk`
pub word : {p : Part} {ps : List Part} {rest : List ℕ} (w : List ℕ) (b : ℕ) → Is p (Token.Word w) → is_word w ≡ true → continues_name b ≡ false → Spells ps (b ∷ rest) → Spells (p ∷ ps) (w ++ b ∷ rest)
word [] b i h k r = cc
word (n ∷ ns) b i h k r = word_then n ns b i h k r

pub id : {w : Name} {b : ℕ} {ps : List Part} {rest : List ℕ} → is_name w ≡ true → continues_name b ≡ false → Spells ps (b ∷ rest) → Spells (Part.Id w ∷ ps) (w ++ b ∷ rest)
id {w = []} {b = b} h k r = cc
id {w = n ∷ ns} {b = b} h k r =
    let w : List ℕ = n ∷ ns in
    word w b (refl, not_true (is_reserved w) (and_right (is_word w) (not (is_reserved w)) h)) (and_left (is_word w) (not (is_reserved w)) h) k r

pub number_then : {ps : List Part} {rest : List ℕ} (d : ℕ) (ds : List ℕ) (n b : ℕ) → list_all is_digit (d ∷ ds) ≡ true → decimal_value (d ∷ ds) ≡ n → is_digit b ≡ false → is_quote b ≡ false
    → Spells ps (b ∷ rest) → Spells (Part.Number n ∷ ps) (d ∷ ds ++ b ∷ rest)
number_then {rest = rest} d ds n b h e k q r =
    let digit : is_digit d ≡ true = and_left (is_digit d) (list_all is_digit ds) h in
    eat (d ∷ ds) b (Token.Number n) refl (number_is d ds h ∙ ap (λ v. Some (Token.Number v)) e)
    (number_stops d ds b h k q) (no_gap d (ds ++ b
    ∷ rest) (digit_no_blank d digit) (digit_no_slash d digit)) tt r

pub number : {n b : ℕ} {ps : List Part} {rest : List ℕ} → is_digit b ≡ false → is_quote b ≡ false → Spells ps (b ∷ rest) → Spells (Part.Number n ∷ ps) (digits 10 n ++ b ∷ rest)
number {n = n} {b = b} {rest = rest} h k r =
    let a : AreDigits 10 is_digit n (digits 10 n) = decimal_digits n in
    rw a.some (number_then a.first a.rest n b (rw a.some at a.pass) (rw a.some at a.say) h k r)

literal_then : {ps : List Part} {rest : List ℕ} (d : ℕ) (ds : List ℕ) (e : ℕ) (es : List ℕ)
    (w n b : ℕ) → list_all is_digit (d ∷ ds) ≡ true → decimal_value (d ∷ ds) ≡ w
    → list_all is_hex (e ∷ es) ≡ true → hexadecimal (e ∷ es) ≡ n → is_hex b ≡ false
    → Spells ps (b ∷ rest) → Spells (Part.Literal w n ∷ ps) (d ∷ ds ++ 39 ∷ 104 ∷ (e ∷ es ++ b ∷ rest))
literal_then {ps = ps} {rest = rest} d ds e es w n b h wide k value stop r =
    let digit : is_digit d ≡ true = and_left (is_digit d) (list_all is_digit ds) h in
    let body : List ℕ = 39 ∷ 104 ∷ e ∷ es in
    let is : token_of (d ∷ ds ++ body) ≡ Some
    (Token.Literal w n) = literal_is d ds e es h k ∙ ap
    (λ v. Some (Token.Literal v (hexadecimal (e
    ∷ es)))) wide ∙ ap (λ v. Some (Token.Literal w v)) value in
    let stops : Stops (d ∷ ds ++ body) b = λ more. subst (λ l. token_of l ≡ None) (sym (append_assoc (d ∷ ds) body (b ∷ more))) (literal_stops d ds e es b h stop more) in
    subst (λ l. Spells (Part.Literal w n ∷ ps) l) (append_assoc (d ∷ ds) body (b ∷ rest))
    (eat (d ∷ ds ++ body) b (Token.Literal w n) refl is stops (no_gap d ((ds ++ body) ++ b ∷ rest) (digit_no_blank d digit) (digit_no_slash d digit)) tt r)

pub literal : {w n b : ℕ} {ps : List Part} {rest : List ℕ} → is_hex b ≡ false → Spells ps (b ∷ rest) → Spells (Part.Literal w n ∷ ps) (digits 10 w ++ 39 ∷ 104 ∷ (digits 16 n ++ b ∷ rest))
literal {w = w} {n = n} {b = b} {rest = rest} h r =
    let a : AreDigits 10 is_digit w (digits 10 w) = decimal_digits w in
    let x : AreDigits 16 is_hex n (digits 16 n) = hex_digits n in
    rw (a.some, x.some) (literal_then a.first a.rest x.first x.rest w n b (rw a.some at a.pass) (rw a.some at a.say) (rw x.some at x.pass) (rw x.some at x.say) h r)
