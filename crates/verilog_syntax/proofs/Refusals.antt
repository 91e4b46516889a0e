-- Tokens with which a plan does not go on.
use Rattle.std.proofs.Common.{◌≡◌, ◌∙◌, inl, inr, ℕ, true, false, List, ◌∷◌, ◌++◌, Option, Some, None, is_some, refl, sym, ap, codes, drop}
use Rattle.std.specs.Str.{bytes_eq}
use Rattle.grammar.specs.Stack.{Starts}
use Rattle.rtl_ir.specs.declared.design.Sign.{Sign as Operation}
use Rattle.rtl_ir.specs.declared.design.Sign.TheVariants.{Add, Sub, Mul, Div, And, Or, Xor, Eq, Lt}
use Rattle.rtl_text.specs.Tokens.{Token}
use Rattle.rtl_ir.specs.Names.{is_reserved}
use Rattle.rtl_text.specs.Productions.{Part, Id, Sign_, Number, Literal, Is, Choice}
use Rattle.rtl_ir.specs.Spelling.{sign_bytes}
use Rattle.verilog_syntax.specs.Parsing.{Symbol, NameOf, NumberTo, LiteralOf, OperatorOf, ExprOf, TreeOf, GoesOn, Ends, ended}
use Rattle.verilog_syntax.specs.Pieces.{piece_part, piece_token, same_token, begins_with, name_at, operator_at}
use Rattle.verilog_syntax.specs.declared.keyword.Piece.{Piece}
use Rattle.text_scan.proofs.ByteTests.{clash, bytes_refl}
use Rattle.verilog_syntax.proofs.Fronts.{front_is, front_is_not, no_name, no_operator, is_piece, no_choice, name_front, operator_front}
use Rattle.verilog_syntax.proofs.Plans.{Plan, done, read, fixed, either, Path, stack, Refuses}

begun_by : (p : Piece) {below : List Part} {t : Token} {u : List Token} → Starts Is Choice (piece_part p ∷ below) (t ∷ u) → t ≡ piece_token p
begun_by p (Starts.eat i st) = is_piece p _ i
begun_by p (Starts.pick qs c st) = absurd (no_choice p qs c)

-- another piece
pub other : (p q : Piece) (ys : List Token) → begins_with (piece_token p) ys ≡ true → same_token (piece_token p) (piece_token q) ≡ false → begins_with (piece_token q) ys ≡ false
other p q ys e f = ap (begins_with (piece_token q)) (front_is p ys e) ∙ f

is_name : {a : List ℕ} {below : List Part} {t : Token} {u : List Token} → Starts Is Choice (Id a ∷ below) (t ∷ u) → (t ≡ Token.Word a) × (is_reserved a ≡ false)
is_name (Starts.eat i st) = i
is_name (Starts.pick qs c st) = elim c [ ]

is_number : {a : ℕ} {below : List Part} {t : Token} {u : List Token} → Starts Is Choice (Number a ∷ below) (t ∷ u) → t ≡ Token.Number a
is_number (Starts.eat i st) = i
is_number (Starts.pick qs c st) = elim c [ ]

is_literal : {w v : ℕ} {below : List Part} {t : Token} {u : List Token} → Starts Is Choice (Literal w v ∷ below) (t ∷ u) → t ≡ Token.Literal w v
is_literal (Starts.eat i st) = i
is_literal (Starts.pick qs c st) = elim c [ ]

is_operator : (o : Operation) {below : List Part} {t : Token} {u : List Token} → Starts Is Choice (Sign_ (sign_bytes o) ∷ below) (t ∷ u) → t ≡ Token.Sign (sign_bytes o)
is_operator o (Starts.eat i st) = i
is_operator o (Starts.pick qs c st) = elim c [ ]

module _ {s : Symbol} where
  pub no_piece : (p : Piece) {rest : List Part} {k : Plan (TreeOf s)} {ys : List Token} → begins_with (piece_token p) ys ≡ false → Refuses s (fixed (piece_part p ∷ rest) k) ys
  no_piece p {ys = ys} e = record { none = λ x below n t u back f st. front_is_not p ys e t back f (begun_by p st) }

  pub neither : {p q : Plan (TreeOf s)} {ys : List Token} → Refuses s p ys → Refuses s q ys → Refuses s (either p q) ys
  neither {p = p} {q = q} {ys = ys} a b = record { none = none }
    where
      none : (x : Path (either p q)) (below : List Part) → Ends s below → (t : Token) (u back : List Token) → ended ys ≡ t ∷ back → Starts Is Choice (stack (either p q) x ++ below) (t ∷ u) → ⊥
      none (inl x) below n t u back f st = a.none x below n t u back f st
      none (inr x) below n t u back f st = b.none x below n t u back f st

  pub not_name : {k : TreeOf NameOf → Plan (TreeOf s)} {ys : List Token} → is_some (name_at ys) ≡ false → Refuses s (read NameOf k) ys
  not_name {ys = ys} e = record { none = λ x below n t u back f st. let (g, h) = is_name st in no_name ys (none_is (name_at ys) e) t back f x.0 g h }
    where
      none_is : (o : Option (List ℕ)) → is_some o ≡ false → o ≡ None
      none_is None e = refl
      none_is (Some x) e = cc

  pub not_operator : {k : TreeOf OperatorOf → Plan (TreeOf s)} {ys : List Token} → is_some (operator_at ys) ≡ false → Refuses s (read OperatorOf k) ys
  not_operator {ys = ys} e = record { none = λ x below n t u back f st. no_operator ys (none_is (operator_at ys) e) t back f x.0 (is_operator x.0 st) }
    where
      none_is : (o : Option Operation) → is_some o ≡ false → o ≡ None
      none_is None e = refl
      none_is (Some x) e = cc

-- the word that a name is
pub named : (ys : List Token) → is_some (name_at ys) ≡ true → (w : List ℕ) × (ys ≡ Token.Word w ∷ drop 1 ys) × (is_reserved w ≡ false)
named ys e = by (name_at ys) refl e
  where
    by : (o : Option (List ℕ)) → name_at ys ≡ o → is_some o ≡ true → (w : List ℕ) × (ys ≡ Token.Word w ∷ drop 1 ys) × (is_reserved w ≡ false)
    by None f g = cc
    by (Some w) f g = let (a, b) = name_front ys w f in (w, a, b)

pub signed : (ys : List Token) → is_some (operator_at ys) ≡ true → (o : Operation) × (ys ≡ Token.Sign (sign_bytes o) ∷ drop 1 ys)
signed ys e = by (operator_at ys) refl e
  where
    by : (o : Option Operation) → operator_at ys ≡ o → is_some o ≡ true → (o : Operation) × (ys ≡ Token.Sign (sign_bytes o) ∷ drop 1 ys)
    by None f g = cc
    by (Some o) f g = (o, operator_front ys o f)

-- Where a name is next, no sign, number or literal is.
pub no_sign_at : (ys : List Token) (b : List ℕ) → is_some (name_at ys) ≡ true → begins_with (Token.Sign b) ys ≡ false
no_sign_at ys b e = let (w, f, _) = named ys e in ap (begins_with (Token.Sign b)) f

first : (ys : List Token) → is_some (name_at ys) ≡ true → (t : Token) (back : List Token) → ended ys ≡ t ∷ back → (w : List ℕ) × (t ≡ Token.Word w)
first ys e t back f = let (w, g, _) = named ys e in (w, (let h = sym f ∙ ap ended g in cc))

module _ {s : Symbol} {ys : List Token} (e : is_some (name_at ys) ≡ true) where
  pub name_not_number : {n : ℕ} {k : TreeOf (NumberTo n) → Plan (TreeOf s)} → Refuses s (read (NumberTo n) k) ys
  name_not_number = record { none = λ x below n t u back f st. let (w, g) = first ys e t back f in let h = is_number st in cc }

  pub name_not_literal : {k : TreeOf LiteralOf → Plan (TreeOf s)} → Refuses s (read LiteralOf k) ys
  name_not_literal = record { none = λ x below n t u back f st. let (w, g) = first ys e t back f in let h = is_literal st in cc }

-- Where a sign is next, no name, and no literal is.
pub sign_no_name : (ys : List Token) (b : List ℕ) → ys ≡ Token.Sign b ∷ drop 1 ys → is_some (name_at ys) ≡ false
sign_no_name ys b e = ap (λ l. is_some (name_at l)) e

module _ {s : Symbol} {ys : List Token} (b : List ℕ) (e : ys ≡ Token.Sign b ∷ drop 1 ys) where
  pub sign_not_literal : {k : TreeOf LiteralOf → Plan (TreeOf s)} → Refuses s (read LiteralOf k) ys
  sign_not_literal = record { none = λ x below n t u back f st. let g = sym f ∙ ap ended e in let h = is_literal st in cc }

-- Where a reserved word is next, no name is.
pub word_no_name : (ys : List Token) (w : List ℕ) → ys ≡ Token.Word w ∷ drop 1 ys → is_reserved w ≡ true → is_some (name_at ys) ≡ false
word_no_name ys w e r = ap (λ l. is_some (name_at l)) e ∙ (rw r refl)

-- the part may go on with the next token
pub goes_on : {s : Symbol} {v : TreeOf s} {ys : List Token} → ((t : Token) (back : List Token) → ended ys ≡ t ∷ back → GoesOn s t) → Refuses s (done v) ys
goes_on goes = record { none = λ x below n t u back f st. n t u (goes t back f) st }

-- operators are no other signs
pub no_other_sign : (b : List ℕ) → ((o : Operation) → bytes_eq (sign_bytes o) b ≡ false) → (ys : List Token) → is_some (operator_at ys) ≡ true → begins_with (Token.Sign b) ys ≡ false
no_other_sign b f ys e = let (o, g) = signed ys e in ap (begins_with (Token.Sign b)) g ∙ f o

pub not_question : (o : Operation) → bytes_eq (sign_bytes o) (codes "?") ≡ false
not_question Add = refl
not_question Sub = refl
not_question Mul = refl
not_question Div = refl
not_question And = refl
not_question Or = refl
not_question Xor = refl
not_question Eq = refl
not_question Lt = refl

pub not_bracket : (o : Operation) → bytes_eq (sign_bytes o) (codes "[") ≡ false
not_bracket Add = refl
not_bracket Sub = refl
not_bracket Mul = refl
not_bracket Div = refl
not_bracket And = refl
not_bracket Or = refl
not_bracket Xor = refl
not_bracket Eq = refl
not_bracket Lt = refl

pub not_semicolon : (o : Operation) → bytes_eq (sign_bytes o) (codes ";") ≡ false
not_semicolon Add = refl
not_semicolon Sub = refl
not_semicolon Mul = refl
not_semicolon Div = refl
not_semicolon And = refl
not_semicolon Or = refl
not_semicolon Xor = refl
not_semicolon Eq = refl
not_semicolon Lt = refl

-- an expression ends before `;`
pub expr_ends : {below : List Part} → Ends ExprOf (Sign_ (codes ";") ∷ below)
expr_ends t ts g st = by t (is_sign st) g
  where
    is_sign : {below : List Part} {t : Token} {ts : List Token} → Starts Is Choice (Sign_ (codes ";") ∷ below) (t ∷ ts) → t ≡ Token.Sign (codes ";")
    is_sign (Starts.eat i st) = i
    is_sign (Starts.pick qs c st) = elim c [ ]

    differ : (b : List ℕ) → bytes_eq b (codes ";") ≡ false → Token.Sign (codes ";") ≡ Token.Sign b → ⊥
    differ b f e = let g : codes ";" ≡ b = cc in clash (sym (ap (λ x. bytes_eq x (codes ";")) g) ∙ bytes_refl (codes ";")) f

    by : (t : Token) → t ≡ Token.Sign (codes ";") → GoesOn ExprOf t → ⊥
    by t e (inl h) = differ (codes "?") refl (sym e ∙ h)
    by t e (inr (inl h)) = differ (codes "[") refl (sym e ∙ h)
    by t e (inr (inr (o, h))) = differ (sign_bytes o) (not_semicolon o) (sym e ∙ h)
