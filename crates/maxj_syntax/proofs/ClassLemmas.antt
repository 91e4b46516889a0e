-- A class has the kinds of its tokens, and no others.
use Rattle.std.proofs.Common.{◌≡◌, ℕ, List, Bool, true, false, ◌||◌, Option, Some, None, refl, sym, ap, subst, ◌∙◌}
use Rattle.std.specs.Str.{bytes_eq}
use Rattle.maxj_syntax.specs.declared.level.Level.{Level}
use Rattle.maxj_tokens.specs.declared.sign.Sign.{Sign}
use Rattle.maxj_tokens.specs.declared.sign.Sign.TheVariants as S
use Rattle.maxj_syntax.specs.declared.kind.Word.{Word}
use Rattle.maxj_syntax.specs.declared.kind.Word.TheVariants as W
use Rattle.maxj_syntax.specs.declared.kind.Kind.{Kind}
use Rattle.maxj_syntax.specs.declared.kind.Kind.TheVariants as K
use Rattle.maxj_syntax.specs.declared.symbol.TokenClass.{TokenClass}
use Rattle.maxj_syntax.specs.declared.symbol.TokenClass.TheVariants as C
use Rattle.maxj_tokens.specs.Tokens.{Token, written}
use Rattle.maxj_tokens.specs.Reading.{sign_bytes}
use Rattle.maxj_tokens.specs.Tokens.{is_word}
use Rattle.maxj_syntax.specs.Kinds.{word_bytes, word_kind, kind_of, known_word, kind_of_word, first_sign, all_signs, kind_of_sign}
use Rattle.maxj_syntax.specs.TokenClasses.{same, among, names, operators, kinds_in, class_has, leaf_kind, IsWordOf, IsSignOf, IsNameToken, Accepts}
use Rattle.maxj_syntax.specs.Productions.{modifiers, type_words, value_words, assigning_signs, counting_signs, signs_of, IsLiteral}
use Rattle.text_scan.proofs.ByteTests.{bytes_same, clash}
use Rattle.maxj_syntax.proofs.KindLemmas.{Each, each_bytes, each_kind, same_is, is_same, sign_token, word_token, word_kind_is, sign_kind_is, name_kind, plain_name, without_has, has_without}

or_first : (b : Bool) → b ≡ true → (c : Bool) → (b || c) ≡ true
or_first true e c = refl
or_first false e c = absurd (cc)

-- the class has the kind of each of its tokens

has_word_of : (c : TokenClass) (ws : List (List ℕ)) (t : Token) → Each (λ w. class_has c (word_kind w) ≡ true) ws → IsWordOf ws t → class_has c (kind_of t) ≡ true
has_word_of c ws t h i = subst (λ x. class_has c (kind_of x) ≡ true) (sym i.0) (each_bytes (λ w. class_has c (word_kind w) ≡ true) (written t) ws i.1 h)

has_sign_of : (c : TokenClass) (ss : List (List ℕ)) (t : Token) → Each (λ s. class_has c (kind_of (Token.Sign s)) ≡ true) ss → IsSignOf ss t → class_has c (kind_of t) ≡ true
has_sign_of c ss t h i = subst (λ x. class_has c (kind_of x) ≡ true) (sym i.0) (each_bytes (λ s. class_has c (kind_of (Token.Sign s)) ≡ true) (written t) ss i.1 h)

has_name : (t : Token) → IsNameToken t → among (kind_of t) names ≡ true
has_name t i = subst (λ x. among (kind_of x) names ≡ true) (sym i.0) (name_kind (written t) i.1)

has_operator : (l : Level) (t : Token) → IsSignOf (signs_of l) t → class_has (C.Operator l) (kind_of t) ≡ true
has_operator Level.Prefixes t i = has_sign_of (C.Operator Level.Prefixes) (signs_of Level.Prefixes) t (refl, (refl, (refl, tt))) i
has_operator Level.Products t i = has_sign_of (C.Operator Level.Products) (signs_of Level.Products) t (refl, (refl, (refl, tt))) i
has_operator Level.Sums t i = has_sign_of (C.Operator Level.Sums) (signs_of Level.Sums) t (refl, (refl, tt)) i
has_operator Level.Shifts t i = has_sign_of (C.Operator Level.Shifts) (signs_of Level.Shifts) t (refl, (refl, tt)) i
has_operator Level.Orders t i = has_sign_of (C.Operator Level.Orders) (signs_of Level.Orders) t (refl, (refl, (refl, (refl, tt)))) i
has_operator Level.Equalities t i = has_sign_of (C.Operator Level.Equalities) (signs_of Level.Equalities) t (refl, (refl, (refl, (refl, tt)))) i
has_operator Level.BitAnds t i = has_sign_of (C.Operator Level.BitAnds) (signs_of Level.BitAnds) t (refl, tt) i
has_operator Level.BitXors t i = has_sign_of (C.Operator Level.BitXors) (signs_of Level.BitXors) t (refl, tt) i
has_operator Level.BitOrs t i = has_sign_of (C.Operator Level.BitOrs) (signs_of Level.BitOrs) t (refl, tt) i
has_operator Level.Ands t i = has_sign_of (C.Operator Level.Ands) (signs_of Level.Ands) t (refl, tt) i
has_operator Level.Ors t i = has_sign_of (C.Operator Level.Ors) (signs_of Level.Ors) t (refl, tt) i

word_self : (x : Word) → bytes_eq (word_bytes x) (word_bytes x) ≡ true
word_self W.Package = refl
word_self _ = refl

sign_self : (x : Sign) → bytes_eq (sign_bytes x) (sign_bytes x) ≡ true
sign_self S.Open = refl
sign_self _ = refl

other_word : (t : Token) (x : Word) → bytes_eq (written t) (word_bytes x) ≡ false → same (kind_of t) (K.Word x) ≡ false
other_word t x e = step (same (kind_of t) (K.Word x)) refl
  where
    step : (b : Bool) → same (kind_of t) (K.Word x) ≡ b → same (kind_of t) (K.Word x) ≡ false
    step false f = f
    step true f =
        let g : written t ≡ word_bytes x = ap written (word_token t x (same_is (kind_of t) (K.Word x) f)) in
        let h : bytes_eq (word_bytes x) (word_bytes x) ≡ false = subst (λ w. bytes_eq w (word_bytes x) ≡ false) g e in
        absurd (clash (word_self x) h)

other_sign : (t : Token) (x : Sign) → bytes_eq (written t) (sign_bytes x) ≡ false → same (kind_of t) (K.Sign x) ≡ false
other_sign t x e = step (same (kind_of t) (K.Sign x)) refl
  where
    step : (b : Bool) → same (kind_of t) (K.Sign x) ≡ b → same (kind_of t) (K.Sign x) ≡ false
    step false f = f
    step true f =
        let g : written t ≡ sign_bytes x = ap written (sign_token t x (same_is (kind_of t) (K.Sign x) f)) in
        let h : bytes_eq (sign_bytes x) (sign_bytes x) ≡ false = subst (λ w. bytes_eq w (sign_bytes x) ≡ false) g e in
        absurd (clash (sign_self x) h)

has_literal : (t : Token) → IsLiteral (leaf_kind t) (written t) t → class_has C.Literal (kind_of t) ≡ true
has_literal (Token.Whole w) i = refl
has_literal (Token.Decimal w) i = refl
has_literal (Token.Str w) i = refl
has_literal _ i = absurd i

pub accepted : (c : TokenClass) (t : Token) → Accepts c t → class_has c (kind_of t) ≡ true
accepted (C.Sign s) t i = or_first (same (kind_of t) (K.Sign s)) (is_same (kind_of t) (K.Sign s) (ap kind_of i ∙ sign_kind_is s)) _
accepted (C.Word w) t i = or_first (same (kind_of t) (K.Word w)) (is_same (kind_of t) (K.Word w) (ap kind_of i ∙ word_kind_is w)) _
accepted C.Name t i = has_name t i
accepted (C.NameBut w) t i = without_has (kind_of t) (K.Word w) names (has_name t i.0) (other_word t w i.1)
accepted C.TypeWord t i = has_word_of C.TypeWord type_words t (refl, (refl, tt)) i
accepted C.Modifier t i = has_word_of C.Modifier modifiers t (refl, (refl, (refl, (refl, (refl, tt))))) i
accepted C.ValueWord t i = has_word_of C.ValueWord value_words t (refl, (refl, (refl, tt))) i
accepted C.Literal t i = has_literal t i
accepted C.Assigning t i = has_sign_of C.Assigning assigning_signs t (refl, (refl, (refl, (refl, tt)))) i
accepted C.Counting t i = has_sign_of C.Counting counting_signs t (refl, (refl, tt)) i
accepted (C.Operator l) t i = has_operator l t i
accepted (C.OrderBut s) t i = without_has (kind_of t) (K.Sign s) (operators Level.Orders) (has_operator Level.Orders t i.0) (other_sign t s i.1)

-- and what has such a kind is one of them

abbrev Is : TokenClass → Token → Kind → Type 0
Is c t k = kind_of t ≡ k → Accepts c t

by_word : (c : TokenClass) (t : Token) (x : Word) → Accepts c (Token.Word (word_bytes x)) → Is c t (K.Word x)
by_word c t x a e = subst (λ y. Accepts c y) (sym (word_token t x e)) a

by_sign : (c : TokenClass) (t : Token) (x : Sign) → Accepts c (Token.Sign (sign_bytes x)) → Is c t (K.Sign x)
by_sign c t x a e = subst (λ y. Accepts c y) (sym (sign_token t x e)) a

by_kinds : (c : TokenClass) (t : Token) (ks : List Kind) → among (kind_of t) ks ≡ true → Each (Is c t) ks → Accepts c t
by_kinds c t ks e h = each_kind (Is c t) (kind_of t) ks e h refl

is_name_token : (t : Token) → among (kind_of t) names ≡ true → IsNameToken t
is_name_token t e = by_kinds C.Name t names e (
  plain_name t,
  (
    by_word C.Name t W.Kernel (refl, refl),
    (
      by_word C.Name t W.CustomManager (refl, refl),
      (
        by_word C.Name t W.Memory (refl, refl),
        (
          by_word C.Name t W.DFEVar (refl, refl),
          (
            by_word C.Name t W.KernelParameters (refl, refl),
            (by_word C.Name t W.EngineParameters (refl, refl), tt),
          ),
        ),
      ),
    ),
  ),
)

is_operator : (l : Level) (t : Token) → class_has (C.Operator l) (kind_of t) ≡ true → IsSignOf (signs_of l) t
is_operator Level.Prefixes t e = let c = C.Operator Level.Prefixes in by_kinds c t
    (kinds_in c) e (
      by_sign c t S.Minus (refl, refl),
      (
        by_sign c t S.Tilde (refl, refl),
        (by_sign c t S.Not (refl, refl), tt),
      ),
    )
is_operator Level.Products t e = let c = C.Operator Level.Products in by_kinds c t
    (kinds_in c) e (
      by_sign c t S.Star (refl, refl),
      (
        by_sign c t S.Slash (refl, refl),
        (by_sign c t S.Percent (refl, refl), tt),
      ),
    )
is_operator Level.Sums t e = let c = C.Operator Level.Sums in by_kinds c t (kinds_in c) e (by_sign c t S.Plus (refl, refl), (by_sign c t S.Minus (refl, refl), tt))
is_operator Level.Shifts t e = let c = C.Operator Level.Shifts in by_kinds c t (kinds_in c) e (by_sign c t S.ShiftLeft (refl, refl), (by_sign c t S.ShiftRight (refl, refl), tt))
is_operator Level.Orders t e = let c = C.Operator Level.Orders in
    by_kinds c t (kinds_in c) e (by_sign c t S.Less (refl, refl), (by_sign c t S.LessEqual (refl, refl), (by_sign c t S.Greater (refl, refl), (by_sign c t S.GreaterEqual (refl, refl), tt))))
is_operator Level.Equalities t e = let c = C.Operator Level.Equalities in
    by_kinds c t (kinds_in c) e (by_sign c t S.Same (refl, refl), (by_sign c t S.NotSame (refl, refl), (by_sign c t S.Equal (refl, refl), (by_sign c t S.NotEqual (refl, refl), tt))))
is_operator Level.BitAnds t e = let c = C.Operator Level.BitAnds in by_kinds c t (kinds_in c) e (by_sign c t S.And (refl, refl), tt)
is_operator Level.BitXors t e = let c = C.Operator Level.BitXors in by_kinds c t (kinds_in c) e (by_sign c t S.Xor (refl, refl), tt)
is_operator Level.BitOrs t e = let c = C.Operator Level.BitOrs in by_kinds c t (kinds_in c) e (by_sign c t S.Or (refl, refl), tt)
is_operator Level.Ands t e = let c = C.Operator Level.Ands in by_kinds c t (kinds_in c) e (by_sign c t S.AndAnd (refl, refl), tt)
is_operator Level.Ors t e = let c = C.Operator Level.Ors in by_kinds c t (kinds_in c) e (by_sign c t S.OrOr (refl, refl), tt)

-- the bytes of another kind differ
word_differs : (t : Token) (x : Word) → IsNameToken t → same (kind_of t) (K.Word x) ≡ false → bytes_eq (written t) (word_bytes x) ≡ false
word_differs t x i e = step (bytes_eq (written t) (word_bytes x)) refl
  where
    step : (b : Bool) → bytes_eq (written t) (word_bytes x) ≡ b → bytes_eq (written t) (word_bytes x) ≡ false
    step false f = f
    step true f =
        let g : kind_of t ≡ K.Word x = ap kind_of i.0 ∙ ap (λ w. kind_of (Token.Word w)) (bytes_same (written t) (word_bytes x) f) ∙ word_kind_is x in
        absurd (clash (is_same (kind_of t) (K.Word x) g) e)

sign_differs : (t : Token) (x : Sign) → t ≡ Token.Sign (written t) → same (kind_of t) (K.Sign x) ≡ false → bytes_eq (written t) (sign_bytes x) ≡ false
sign_differs t x i e = step (bytes_eq (written t) (sign_bytes x)) refl
  where
    step : (b : Bool) → bytes_eq (written t) (sign_bytes x) ≡ b → bytes_eq (written t) (sign_bytes x) ≡ false
    step false f = f
    step true f =
        let g : kind_of t ≡ K.Sign x = ap kind_of i ∙ ap (λ w. kind_of (Token.Sign w)) (bytes_same (written t) (sign_bytes x) f) ∙ sign_kind_is x in
        absurd (clash (is_same (kind_of t) (K.Sign x) g) e)

abbrev is_written : Kind → Bool
is_written K.Whole = true
is_written K.Decimal = true
is_written K.Str = true
is_written _ = false

no_word : {A : Type 0} (w : List ℕ) (k : Kind) → is_written k ≡ true → kind_of (Token.Word w) ≡ k → A
no_word {A = A} w k e f = step (known_word w) (is_word w) f
  where
    step : (o : Option Word) (b : Bool) → kind_of_word o b ≡ k → A
    step (Some x) b g = let h : false ≡ true = ap is_written g ∙ e in absurd (cc)
    step None true g = let h : false ≡ true = ap is_written g ∙ e in absurd (cc)
    step None false g = let h : false ≡ true = ap is_written g ∙ e in absurd (cc)

no_sign : {A : Type 0} (s : List ℕ) (k : Kind) → is_written k ≡ true → kind_of (Token.Sign s) ≡ k → A
no_sign {A = A} s k e f = step (first_sign s all_signs) f
  where
    step : (o : Option Sign) → kind_of_sign o ≡ k → A
    step (Some x) g = let h : false ≡ true = ap is_written g ∙ e in absurd (cc)
    step None g = let h : false ≡ true = ap is_written g ∙ e in absurd (cc)

is_literal : (t : Token) → class_has C.Literal (kind_of t) ≡ true → Accepts C.Literal t
is_literal (Token.Whole w) e = refl
is_literal (Token.Decimal w) e = refl
is_literal (Token.Str w) e = refl
is_literal (Token.Word w) e = by_kinds C.Literal (Token.Word w) (kinds_in C.Literal) e (λ f. no_word w K.Whole refl f, (λ f. no_word w K.Decimal refl f, (λ f. no_word w K.Str refl f, tt)))
is_literal (Token.Sign s) e = by_kinds C.Literal (Token.Sign s) (kinds_in C.Literal) e (λ f. no_sign s K.Whole refl f, (λ f. no_sign s K.Decimal refl f, (λ f. no_sign s K.Str refl f, tt)))

pub accepts : (c : TokenClass) (t : Token) → class_has c (kind_of t) ≡ true → Accepts c t
accepts (C.Sign s) t e = by_kinds (C.Sign s) t (kinds_in (C.Sign s)) e (by_sign (C.Sign s) t s refl, tt)
accepts (C.Word w) t e = by_kinds (C.Word w) t (kinds_in (C.Word w)) e (by_word (C.Word w) t w refl, tt)
accepts C.Name t e = is_name_token t e
accepts (C.NameBut w) t e = let h = has_without (kind_of t) (K.Word w) names e in (is_name_token t h.0, word_differs t w (is_name_token t h.0) h.1)
accepts C.TypeWord t e = let c = C.TypeWord in by_kinds c t (kinds_in c) e (by_word c t W.Int (refl, refl), (by_word c t W.Boolean (refl, refl), tt))
accepts C.Modifier t e = let c = C.Modifier in
    by_kinds c t (kinds_in c) e (
      by_word c t W.Public (refl, refl),
      (
        by_word c t W.Private (refl, refl),
        (
          by_word c t W.Protected (refl, refl),
          (by_word c t W.Static (refl, refl), (by_word c t W.Final (refl, refl), tt)),
        ),
      ),
    )
accepts C.ValueWord t e = let c = C.ValueWord in by_kinds c t (kinds_in c) e (by_word c t W.This (refl, refl), (by_word c t W.True (refl, refl), (by_word c t W.False (refl, refl), tt)))
accepts C.Literal t e = is_literal t e
accepts C.Assigning t e = let c = C.Assigning in
    by_kinds c t (kinds_in c) e (by_sign c t S.Assign (refl, refl), (by_sign c t S.PlusAssign (refl, refl), (by_sign c t S.MinusAssign (refl, refl), (by_sign c t S.StarAssign (refl, refl), tt))))
accepts C.Counting t e = let c = C.Counting in by_kinds c t (kinds_in c) e (by_sign c t S.PlusPlus (refl, refl), (by_sign c t S.MinusMinus (refl, refl), tt))
accepts (C.Operator l) t e = is_operator l t e
accepts (C.OrderBut s) t e =
    let h = has_without (kind_of t) (K.Sign s) (operators Level.Orders) e in
    let i = is_operator Level.Orders t h.0 in
    (i, sign_differs t s i.0 h.1)
