-- The first tokens of what is left.
use Rattle.std.proofs.Common.{◌≡◌, ◌∙◌, inl, inr, ◌≤◌, ℕ, true, false, List, [], ◌∷◌, ◌++◌, Some, None, refl, sym, ap, subst, append_assoc, arith, drop, codes, nat_le}
use Rattle.std.specs.Str.{bytes_eq}
use Rattle.std.proofs.lemmas.List.{append-nil}
use Rattle.std.proofs.lemmas.Bool.Decides.{nat_tests}
use Rattle.grammar.specs.Grammar.{Derives}
use Rattle.grammar.specs.Stack.{Starts}
use Rattle.grammar.proofs.Leftmost.{starts_then, joined}
use Rattle.rtl_ir.specs.declared.design.Sign.{Sign as Operation}
use Rattle.rtl_ir.specs.declared.design.Sign.TheVariants.{Add, Sub, Mul, Div, And, Or, Xor, Eq, Lt}
use Rattle.rtl_text.specs.Tokens.{Token, is_sign}
use Rattle.rtl_ir.specs.Names.{is_reserved}
use Rattle.rtl_text.specs.Productions.{Part, Sign_, Id, Number, Literal, Is, Choice}
use Rattle.rtl_ir.specs.Spelling.{sign_bytes}
use Rattle.verilog_syntax.specs.Parsing.{NameOf, NumberTo, LiteralOf, OperatorOf, SizedNumber, IsTree, ended, end_token, Reads, Stops, ReadsAll, StopsAll}
use Rattle.verilog_syntax.specs.Pieces.{piece_part, piece_token, same_token, begins_with, name_at, number_at, operator_at, operator_in, BeginsLiteral, BeginsNoLiteral, keyword_bytes}
use Rattle.verilog_syntax.specs.Scanning.{mark_bytes}
use Rattle.verilog_syntax.specs.declared.keyword.Piece.{Piece}
use Rattle.verilog_syntax.specs.declared.keyword.Piece.TheVariants.{Word, Sign, Clock, Zero}
use Rattle.text_scan.proofs.ByteTests.{clash, bytes_same, bytes_refl, eq_same, cond_split}
use Rattle.verilog_syntax.proofs.Signs.{mark_is_sign}

-- tokens as they are compared

pub same_is : (p : Piece) (t : Token) → same_token t (piece_token p) ≡ true → t ≡ piece_token p
same_is (Word k) (Token.Word v) e = ap Token.Word (bytes_same v (keyword_bytes k) e)
same_is (Word k) (Token.Number n) e = cc
same_is (Word k) (Token.Literal w v) e = cc
same_is (Word k) (Token.Sign s) e = cc
same_is (Sign m) (Token.Word v) e = cc
same_is (Sign m) (Token.Number n) e = cc
same_is (Sign m) (Token.Literal w v) e = cc
same_is (Sign m) (Token.Sign s) e = ap Token.Sign (bytes_same s (mark_bytes m) e)
same_is Clock (Token.Word v) e = ap Token.Word (bytes_same v (codes "clk") e)
same_is Clock (Token.Number n) e = cc
same_is Clock (Token.Literal w v) e = cc
same_is Clock (Token.Sign s) e = cc
same_is Zero (Token.Word v) e = cc
same_is Zero (Token.Number n) e = ap Token.Number (eq_same n 0 e)
same_is Zero (Token.Literal w v) e = cc
same_is Zero (Token.Sign s) e = cc

pub is_same : (p : Piece) → same_token (piece_token p) (piece_token p) ≡ true
is_same (Word k) = bytes_refl (keyword_bytes k)
is_same (Sign m) = bytes_refl (mark_bytes m)
is_same Clock = refl
is_same Zero = refl

piece_is : (p : Piece) → Is (piece_part p) (piece_token p)
piece_is (Word k) = refl
piece_is (Sign m) = refl
piece_is Clock = refl
piece_is Zero = refl

pub is_piece : (p : Piece) (t : Token) → Is (piece_part p) t → t ≡ piece_token p
is_piece (Word k) t i = i
is_piece (Sign m) t i = i
is_piece Clock t i = i
is_piece Zero t i = i

pub no_choice : (p : Piece) (qs : List Part) → Choice (piece_part p) qs → ⊥
no_choice (Word k) qs c = elim c [ ]
no_choice (Sign m) qs c = elim c [ ]
no_choice Clock qs c = elim c [ ]
no_choice Zero qs c = elim c [ ]

no_end : (p : Piece) → piece_token p ≡ end_token → ⊥
no_end (Word k) e = cc
no_end (Sign m) e = let s : mark_bytes m ≡ [] = cc in clash (mark_is_sign m) (ap is_sign s)
no_end Clock e = cc
no_end Zero e = cc

-- the first token, where it is this piece
pub front_is : (p : Piece) (ys : List Token) → begins_with (piece_token p) ys ≡ true → ys ≡ piece_token p ∷ drop 1 ys
front_is p [] e = cc
front_is p (t ∷ ts) e = ap (λ u. u ∷ ts) (same_is p t e)

pub front_is_not : (p : Piece) (ys : List Token) → begins_with (piece_token p) ys ≡ false → (t : Token) (back : List Token) → ended ys ≡ t ∷ back → t ≡ piece_token p → ⊥
front_is_not p [] e t back f g = no_end p (let h : end_token ≡ t = cc in sym (h ∙ g))
front_is_not p (y ∷ ys) e t back f g =
    let h : y ≡ t = cc in
    clash (ap (λ u. same_token u (piece_token p)) (h ∙ g) ∙ is_same p) e

-- parts without trees

pub all_none : (xs : List Token) → ReadsAll [] xs xs
all_none xs = record { read = []; split = refl; derived = Derives.none; only = λ below u back n f st. st }

module _ {ps : List Part} {xs ys : List Token} (p : Piece) (r : ReadsAll ps xs ys) where
  behind : (u : List Token) (below : List Part) → (u ≡ [] → ⊥) → Starts Is Choice (piece_part p ∷ below) u → (v : List Token) × (u ≡ piece_token p ∷ v) × Starts Is Choice below v
  behind u below n Starts.end = absurd (n refl)
  behind u below n (Starts.eat {t = t} {ts = ts} i st) = (ts, ap (λ x. x ∷ ts) (is_piece p t i), st)
  behind u below n (Starts.pick qs c st) = absurd (no_choice p qs c)

  pub all_more : {zs : List Token} → begins_with (piece_token p) ys ≡ true → zs ≡ drop 1 ys → ReadsAll (ps ++ piece_part p ∷ []) xs zs
  all_more {zs = zs} e f =
      let front : ys ≡ piece_token p ∷ zs = front_is p ys e ∙ ap (λ l. piece_token p ∷ l) (sym f) in
      record {
        read = r.read ++ piece_token p ∷ [];
        split = r.split ∙ ap (λ l. r.read ++ l) front ∙ sym (append_assoc r.read (piece_token p ∷ []) zs);
        derived = joined Is Choice r.derived (Derives.token (piece_is p) Derives.none);
        only = λ below u back n g st.
            let st = subst (λ l. Starts Is Choice l ((r.read ++ piece_token p ∷ []) ++ u)) (append_assoc ps (piece_part p ∷ []) below) st in
            let st = subst (λ l. Starts Is Choice (ps ++ (piece_part p ∷ below)) l) (append_assoc r.read (piece_token p ∷ []) u) st in
            let st = r.only (piece_part p ∷ below) (piece_token p ∷ u) back (λ h. cc) (ap ended front ∙ ap (λ l. piece_token p ∷ l) g) st in
            let (v, h, st) = behind (piece_token p ∷ u) below (λ h. cc) st in
            let same : v ≡ u = cc in
            subst (λ l. Starts Is Choice below l) same st;
      }

  pub all_stop : (rest : List Part) → begins_with (piece_token p) ys ≡ false → StopsAll (ps ++ (piece_part p ∷ rest)) xs ys
  all_stop rest e = record {
    read = r.read;
    split = r.split;
    begun = λ below.
        subst (λ l. Starts Is Choice l r.read) (sym (append_assoc ps (piece_part p ∷ rest) below))
        (subst (λ l. Starts Is Choice (ps ++ ((piece_part p ∷ rest) ++ below)) l) (append-nil r.read) (starts_then Is Choice ((piece_part p ∷ rest) ++ below) [] r.derived Starts.end));
    bad = λ t back f below st.
        let st = subst (λ l. Starts Is Choice l (r.read ++ t ∷ [])) (append_assoc ps (piece_part p ∷ rest) below) st in
        let st = r.only ((piece_part p ∷ rest) ++ below) (t ∷ []) back (λ h. cc) f st in
        let (v, h, _) = behind (t ∷ []) (rest ++ below) (λ h. cc) st in
        front_is_not p ys e t back f (cc);
  }

-- names

pub name_front : (xs : List Token) (w : List ℕ) → name_at xs ≡ Some w → (xs ≡ Token.Word w ∷ drop 1 xs) × (is_reserved w ≡ false)
name_front [] w e = absurd (cc)
name_front (Token.Number n ∷ ts) w e = absurd (cc)
name_front (Token.Literal n v ∷ ts) w e = absurd (cc)
name_front (Token.Sign s ∷ ts) w e = absurd (cc)
name_front (Token.Word v ∷ ts) w e = elim (cond_split (is_reserved v) None (Some v) (Some w) e) [
  | inl x ↦ (let f = x.1 in absurd (cc))
  | inr x ↦ (let f = x.1 in let same : v ≡ w = cc in (ap (λ u. Token.Word u ∷ ts) same, subst (λ u. is_reserved u ≡ false) same x.0))
]

pub no_name : (xs : List Token) → name_at xs ≡ None → (t : Token) (back : List Token) → ended xs ≡ t ∷ back → (w : List ℕ) → t ≡ Token.Word w → is_reserved w ≡ false → ⊥
no_name [] e t back f w g h = let k : end_token ≡ t = cc in absurd (cc)
no_name (Token.Number n ∷ ts) e t back f w g h = absurd (cc)
no_name (Token.Literal n v ∷ ts) e t back f w g h = absurd (cc)
no_name (Token.Sign s ∷ ts) e t back f w g h = absurd (cc)
no_name (Token.Word v ∷ ts) e t back f w g h =
    let same : v ≡ w = cc in
    let free : is_reserved v ≡ false = ap is_reserved same ∙ h in
    elim (cond_split (is_reserved v) None (Some v) None e) [
      | inl x ↦ clash x.0 free
      | inr x ↦ (let k = x.1 in absurd (cc))
    ]

name_only : {below : List Part} {w b : List ℕ} {u : List Token} → Starts Is Choice (Id b ∷ below) (Token.Word w ∷ u) → (b ≡ w) × Starts Is Choice below u
name_only (Starts.eat i st) = let e = i.0 in (cc, st)
name_only (Starts.pick qs c st) = elim c [ ]

pub name_read : {xs ys : List Token} {w : List ℕ} → name_at xs ≡ Some w → ys ≡ drop 1 xs → Reads NameOf xs ys w
name_read {xs = xs} {ys = ys} {w = w} e f =
    let (front, free) = name_front xs w e in
    record {
      read = Token.Word w ∷ [];
      split = front ∙ ap (λ l. Token.Word w ∷ l) (sym f);
      valid = tt;
      derived = Derives.token (refl, free) Derives.none;
      only = λ b v below n u back k g st. name_only st;
    }

name_bad : {below : List Part} {b : List ℕ} {t : Token} → Starts Is Choice (Id b ∷ below) (t ∷ []) → (t ≡ Token.Word b) × (is_reserved b ≡ false)
name_bad (Starts.eat i st) = i
name_bad (Starts.pick qs c st) = elim c [ ]

pub name_stop : {xs : List Token} → name_at xs ≡ None → Stops NameOf xs xs
name_stop {xs = xs} e = record {
  read = [];
  split = refl;
  tree = [];
  valid = tt;
  begun = λ below. Starts.end;
  bad = λ t back f b v below n st. let (g, h) = name_bad st in no_name xs e t back f b g h;
}

-- numbers

number_front : (limit : ℕ) (xs : List Token) (n : ℕ) → number_at limit xs ≡ Some n → (xs ≡ Token.Number n ∷ drop 1 xs) × (n ≤ limit)
number_front limit [] n e = absurd (cc)
number_front limit (Token.Word w ∷ ts) n e = absurd (cc)
number_front limit (Token.Literal w v ∷ ts) n e = absurd (cc)
number_front limit (Token.Sign s ∷ ts) n e = absurd (cc)
number_front limit (Token.Number m ∷ ts) n e = elim (cond_split (nat_le m limit) (Some m) None (Some n) e) [
  | inl x ↦ (let f = x.1 in let same : m ≡ n = cc in (ap (λ u. Token.Number u ∷ ts) same, (let h : nat_le m limit ≡ true = x.0 in within m h same)))
  | inr x ↦ (let f = x.1 in absurd (cc))
]
  where
    within : (m : ℕ) → nat_le m limit ≡ true → m ≡ n → n ≤ limit
    within m h same = grind (arith, nat_tests)

pub no_number : (limit : ℕ) (xs : List Token) → number_at limit xs ≡ None → (t : Token) (back : List Token) → ended xs ≡ t ∷ back → (n : ℕ) → t ≡ Token.Number n → n ≤ limit → ⊥
no_number limit [] e t back f n g h = let k : end_token ≡ t = cc in absurd (cc)
no_number limit (Token.Word w ∷ ts) e t back f n g h = absurd (cc)
no_number limit (Token.Literal w v ∷ ts) e t back f n g h = absurd (cc)
no_number limit (Token.Sign s ∷ ts) e t back f n g h = absurd (cc)
no_number limit (Token.Number m ∷ ts) e t back f n g h =
    let same : m ≡ n = cc in
    elim (cond_split (nat_le m limit) (Some m) None None e) [
      | inl x ↦ (let k = x.1 in absurd (cc))
      | inr x ↦ over m same x.0
    ]
  where
    over : (m : ℕ) → m ≡ n → nat_le m limit ≡ false → ⊥
    over m same k = grind (arith, nat_tests)

number_only : {below : List Part} {n b : ℕ} {u : List Token} → Starts Is Choice (Number b ∷ below) (Token.Number n ∷ u) → (b ≡ n) × Starts Is Choice below u
number_only (Starts.eat i st) = (cc, st)
number_only (Starts.pick qs c st) = elim c [ ]

pub number_read : {limit : ℕ} {xs ys : List Token} {n : ℕ} → number_at limit xs ≡ Some n → ys ≡ drop 1 xs → Reads (NumberTo limit) xs ys n
number_read {limit = limit} {xs = xs} {ys = ys} {n = n} e f =
    let (front, within) = number_front limit xs n e in
    record {
      read = Token.Number n ∷ [];
      split = front ∙ ap (λ l. Token.Number n ∷ l) (sym f);
      valid = within;
      derived = Derives.token refl Derives.none;
      only = λ b v below m u back k g st. number_only st;
    }

number_bad : {below : List Part} {b : ℕ} {t : Token} → Starts Is Choice (Number b ∷ below) (t ∷ []) → t ≡ Token.Number b
number_bad (Starts.eat i st) = i
number_bad (Starts.pick qs c st) = elim c [ ]

pub number_stop : {limit : ℕ} {xs : List Token} → number_at limit xs ≡ None → Stops (NumberTo limit) xs xs
number_stop {limit = limit} {xs = xs} e = record {
  read = [];
  split = refl;
  tree = 0;
  valid = omega arith;
  begun = λ below. Starts.end;
  bad = λ t back f b v below n st. no_number limit xs e t back f b (number_bad st) v;
}

-- literals

literal_front : (n : SizedNumber) (xs : List Token) → BeginsLiteral n xs → (xs ≡ Token.Literal n.width n.value ∷ drop 1 xs) × IsTree LiteralOf n
literal_front n [] e = absurd e
literal_front n (Token.Word w ∷ ts) e = absurd e
literal_front n (Token.Number m ∷ ts) e = absurd e
literal_front n (Token.Sign s ∷ ts) e = absurd e
literal_front n (Token.Literal w v ∷ ts) (f, g, h) = (ap (λ x. Token.Literal x v ∷ ts) f ∙ ap (λ x. Token.Literal n.width x ∷ ts) g, h)

pub no_literal : (xs : List Token) → BeginsNoLiteral xs → (t : Token) (back : List Token) → ended xs ≡ t ∷ back → (n : SizedNumber) → t ≡ Token.Literal n.width n.value → IsTree LiteralOf n → ⊥
no_literal [] e t back f n g h = let k : end_token ≡ t = cc in absurd (cc)
no_literal (Token.Word w ∷ ts) e t back f n g h = absurd (cc)
no_literal (Token.Number m ∷ ts) e t back f n g h = absurd (cc)
no_literal (Token.Sign s ∷ ts) e t back f n g h = absurd (cc)
no_literal (Token.Literal w v ∷ ts) e t back f n g h =
    let p : n.width ≡ w = cc in
    let q : n.value ≡ v = cc in
    e (subst (λ x. IsTree LiteralOf (record { width = w; value = x })) q (subst (λ x. IsTree LiteralOf (record { width = x; value = n.value })) p h))

literal_only : {below : List Part} {w v : ℕ} {b : SizedNumber} {u : List Token}
    → Starts Is Choice (Literal b.width b.value ∷ below) (Token.Literal w v ∷ u)
    → (b ≡ record { width = w; value = v }) × Starts Is Choice below u
literal_only {w = w} {v = v} {b = b} (Starts.eat i st) =
    let p : b.width ≡ w = cc in
    let q : b.value ≡ v = cc in
    (ap (λ x. record b { width = x }) p ∙ ap (λ x. record { width = w; value = x }) q, st)
literal_only (Starts.pick qs c st) = elim c [ ]

pub literal_read : (n : SizedNumber) {xs ys : List Token} → BeginsLiteral n xs → ys ≡ drop 1 xs → Reads LiteralOf xs ys n
literal_read n {xs = xs} {ys = ys} e f =
    let (front, valid) = literal_front n xs e in
    record {
      read = Token.Literal n.width n.value ∷ [];
      split = front ∙ ap (λ l. Token.Literal n.width n.value ∷ l) (sym f);
      valid = valid;
      derived = Derives.token refl Derives.none;
      only = λ b v below m u back k g st. literal_only st;
    }

literal_bad : {below : List Part} {w v : ℕ} {t : Token} → Starts Is Choice (Literal w v ∷ below) (t ∷ []) → t ≡ Token.Literal w v
literal_bad (Starts.eat i st) = i
literal_bad (Starts.pick qs c st) = elim c [ ]

pub literal_stop : {xs : List Token} → BeginsNoLiteral xs → Stops LiteralOf xs xs
literal_stop {xs = xs} e = record {
  read = [];
  split = refl;
  tree = record { width = 1; value = 0 };
  valid = ((omega arith, omega arith), omega arith);
  begun = λ below. Starts.end;
  bad = λ t back f b v below n st. no_literal xs e t back f b (literal_bad st) v;
}

-- operators

operator_is : (s : List ℕ) (o : Operation) → operator_in s ≡ Some o → s ≡ sign_bytes o
operator_is s o e = elim (cond_split (bytes_eq s (codes "+")) (Some Add) _ _ e) [
  | inl x ↦ bytes_same s _ x.0 ∙ ap sign_bytes (some_same x.1)
  | inr x ↦ elim (cond_split (bytes_eq s (codes "-")) (Some Sub) _ _ x.1) [
    | inl x ↦ bytes_same s _ x.0 ∙ ap sign_bytes (some_same x.1)
    | inr x ↦ elim (cond_split (bytes_eq s (codes "*")) (Some Mul) _ _ x.1) [
      | inl x ↦ bytes_same s _ x.0 ∙ ap sign_bytes (some_same x.1)
      | inr x ↦ elim (cond_split (bytes_eq s (codes "/")) (Some Div) _ _ x.1) [
        | inl x ↦ bytes_same s _ x.0 ∙ ap sign_bytes (some_same x.1)
        | inr x ↦ elim (cond_split (bytes_eq s (codes "&")) (Some And) _ _ x.1) [
          | inl x ↦ bytes_same s _ x.0 ∙ ap sign_bytes (some_same x.1)
          | inr x ↦ elim (cond_split (bytes_eq s (codes "|")) (Some Or) _ _ x.1) [
            | inl x ↦ bytes_same s _ x.0 ∙ ap sign_bytes (some_same x.1)
            | inr x ↦ elim (cond_split (bytes_eq s (codes "^")) (Some Xor) _ _ x.1) [
              | inl x ↦ bytes_same s _ x.0 ∙ ap sign_bytes (some_same x.1)
              | inr x ↦ elim (cond_split (bytes_eq s (codes "==")) (Some Eq) _ _ x.1) [
                | inl x ↦ bytes_same s _ x.0 ∙ ap sign_bytes (some_same x.1)
                | inr x ↦ elim (cond_split (bytes_eq s (codes "<")) (Some Lt) _ _ x.1) [
                  | inl x ↦ bytes_same s _ x.0 ∙ ap sign_bytes (some_same x.1)
                  | inr x ↦ (let f = x.1 in absurd (cc))
                ]
              ]
            ]
          ]
        ]
      ]
    ]
  ]
]
  where
    some_same : {a b : Operation} → Some a ≡ Some b → a ≡ b
    some_same e = cc

operator_found : (o : Operation) → operator_in (sign_bytes o) ≡ Some o
operator_found Add = refl
operator_found Sub = refl
operator_found Mul = refl
operator_found Div = refl
operator_found And = refl
operator_found Or = refl
operator_found Xor = refl
operator_found Eq = refl
operator_found Lt = refl

pub operator_front : (xs : List Token) (o : Operation) → operator_at xs ≡ Some o → xs ≡ Token.Sign (sign_bytes o) ∷ drop 1 xs
operator_front [] o e = absurd (cc)
operator_front (Token.Word w ∷ ts) o e = absurd (cc)
operator_front (Token.Number n ∷ ts) o e = absurd (cc)
operator_front (Token.Literal w v ∷ ts) o e = absurd (cc)
operator_front (Token.Sign s ∷ ts) o e = ap (λ x. Token.Sign x ∷ ts) (operator_is s o e)

pub no_operator : (xs : List Token) → operator_at xs ≡ None → (t : Token) (back : List Token) → ended xs ≡ t ∷ back → (o : Operation) → t ≡ Token.Sign (sign_bytes o) → ⊥
no_operator [] e t back f o g =
    let k : end_token ≡ t = cc in
    let h : [] ≡ sign_bytes o = cc in
    let found : None ≡ Some o = ap operator_in h ∙ operator_found o in
    absurd (cc)
no_operator (Token.Word w ∷ ts) e t back f o g = absurd (cc)
no_operator (Token.Number n ∷ ts) e t back f o g = absurd (cc)
no_operator (Token.Literal w v ∷ ts) e t back f o g = absurd (cc)
no_operator (Token.Sign s ∷ ts) e t back f o g =
    let h : s ≡ sign_bytes o = cc in
    let found = sym e ∙ ap operator_in h ∙ operator_found o in
    absurd (cc)

same_operator : (a b : Operation) → sign_bytes a ≡ sign_bytes b → a ≡ b
same_operator a b e = let f = sym (operator_found a) ∙ ap operator_in e ∙ operator_found b in cc

operator_only : {below : List Part} {o b : Operation} {u : List Token} → Starts Is Choice (Sign_ (sign_bytes b) ∷ below) (Token.Sign (sign_bytes o) ∷ u) → (b ≡ o) × Starts Is Choice below u
operator_only {o = o} {b = b} (Starts.eat i st) = (same_operator b o (cc), st)
operator_only (Starts.pick qs c st) = elim c [ ]

pub operator_read : {xs ys : List Token} {o : Operation} → operator_at xs ≡ Some o → ys ≡ drop 1 xs → Reads OperatorOf xs ys o
operator_read {xs = xs} {ys = ys} {o = o} e f = record {
  read = Token.Sign (sign_bytes o) ∷ [];
  split = operator_front xs o e ∙ ap (λ l. Token.Sign (sign_bytes o) ∷ l) (sym f);
  valid = tt;
  derived = Derives.token refl Derives.none;
  only = λ b v below m u back k g st. operator_only {o = o} {b = b} st;
}

operator_bad : {below : List Part} (b : Operation) {t : Token} → Starts Is Choice (Sign_ (sign_bytes b) ∷ below) (t ∷ []) → t ≡ Token.Sign (sign_bytes b)
operator_bad b (Starts.eat i st) = i
operator_bad b (Starts.pick qs c st) = elim c [ ]

pub operator_stop : {xs : List Token} → operator_at xs ≡ None → Stops OperatorOf xs xs
operator_stop {xs = xs} e = record {
  read = [];
  split = refl;
  tree = Add;
  valid = tt;
  begun = λ below. Starts.end;
  bad = λ t back f b v below n st. no_operator xs e t back f b (operator_bad b st);
}
