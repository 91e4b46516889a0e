-- Kinds and classes: what the kind of a token says of the token.
use Rattle.std.proofs.Common.{length, ◌≡◌, ℕ, List, [], ◌∷◌, Bool, true, false, not, ◌&&◌, ◌||◌, Option, Some, None, refl, sym, ap, subst, ◌∙◌, ◌⊎◌, inl, inr, nat_eq, slice_get}
use Rattle.std.proofs.lemmas.Bool.{eqb-true, eq-eqb}
use Rattle.std.specs.Str.{bytes_eq}
use Rattle.maxj_tokens.specs.declared.sign.Sign.{Sign}
use Rattle.maxj_tokens.specs.declared.sign.Sign.TheVariants as S
use Rattle.maxj_syntax.specs.declared.kind.Word.{Word}
use Rattle.maxj_syntax.specs.declared.kind.Word.TheVariants as W
use Rattle.maxj_syntax.specs.declared.kind.Kind.{Kind}
use Rattle.maxj_syntax.specs.declared.kind.Kind.TheVariants as K
use Rattle.maxj_tokens.specs.Tokens.{Token, is_word, is_among}
use Rattle.maxj_tokens.specs.Reading.{sign_bytes}
use Rattle.maxj_syntax.specs.Kinds.{word_bytes, words, of_length, words_of_length, all_signs, first_word, known_word, first_sign, kind_of_word, kind_of_sign, word_kind, kind_of}
use Rattle.maxj_syntax.specs.TokenClasses.{number, same, among, without, names, IsNameToken}
use Rattle.maxj_syntax.specs.Productions.{is_name, reserved_words}
use Rattle.text_scan.proofs.ByteTests.{bytes_same as bytes_eq_is, clash}

abbrev kinds : List Kind
kinds = K.Sign S.Open ∷ K.Sign S.Close ∷ K.Sign S.OpenBrace ∷ K.Sign S.CloseBrace
    ∷ K.Sign S.OpenBracket ∷ K.Sign S.CloseBracket ∷ K.Sign S.Semicolon ∷ K.Sign S.Comma
    ∷ K.Sign S.Dot ∷ K.Sign S.Assign ∷ K.Sign S.Plus ∷ K.Sign S.Minus ∷ K.Sign S.Star
    ∷ K.Sign S.Slash ∷ K.Sign S.Percent ∷ K.Sign S.And ∷ K.Sign S.Or ∷ K.Sign S.Xor
    ∷ K.Sign S.Tilde ∷ K.Sign S.Not ∷ K.Sign S.Question ∷ K.Sign S.Colon ∷ K.Sign S.Less
    ∷ K.Sign S.Greater ∷ K.Sign S.LessEqual ∷ K.Sign S.GreaterEqual ∷ K.Sign S.Equal
    ∷ K.Sign S.NotEqual ∷ K.Sign S.Same ∷ K.Sign S.NotSame ∷ K.Sign S.ShiftLeft
    ∷ K.Sign S.ShiftRight ∷ K.Sign S.AndAnd ∷ K.Sign S.OrOr ∷ K.Sign S.PlusPlus
    ∷ K.Sign S.MinusMinus ∷ K.Sign S.PlusAssign ∷ K.Sign S.MinusAssign ∷ K.Sign S.StarAssign
    ∷ K.Sign S.Connect ∷ K.Word W.Package ∷ K.Word W.Import ∷ K.Word W.Static ∷ K.Word W.Public
    ∷ K.Word W.Private ∷ K.Word W.Protected ∷ K.Word W.Final ∷ K.Word W.Class ∷ K.Word W.Extends
    ∷ K.Word W.Void ∷ K.Word W.Return ∷ K.Word W.If ∷ K.Word W.Else ∷ K.Word W.While
    ∷ K.Word W.For ∷ K.Word W.New ∷ K.Word W.This ∷ K.Word W.True ∷ K.Word W.False
    ∷ K.Word W.Int ∷ K.Word W.Boolean ∷ K.Word W.Super ∷ K.Word W.Kernel
    ∷ K.Word W.CustomManager ∷ K.Word W.Memory ∷ K.Word W.DFEVar ∷ K.Word W.KernelParameters
    ∷ K.Word W.EngineParameters ∷ K.Name ∷ K.Whole ∷ K.Decimal ∷ K.Str ∷ K.Other ∷ []

kind_at : (k : Kind) → slice_get kinds (number k) ≡ Some k
kind_at (K.Sign S.Open) = refl
kind_at (K.Sign _) = refl
kind_at (K.Word W.Package) = refl
kind_at (K.Word _) = refl
kind_at K.Name = refl
kind_at _ = refl

some_same : {A : Type 0} {a b : A} (o : Option A) → o ≡ Some a → o ≡ Some b → a ≡ b
some_same o e f = cc

number_one : (a b : Kind) → number a ≡ number b → a ≡ b
number_one a b e = some_same (slice_get kinds (number a)) (kind_at a) (ap (λ n. slice_get kinds n) e ∙ kind_at b)

pub same_is : (a b : Kind) → same a b ≡ true → a ≡ b
same_is a b e = number_one a b (eqb-true (number a) (number b) e)

pub is_same : (a b : Kind) → a ≡ b → same a b ≡ true
is_same a b e = eq-eqb (number a) (number b) (ap number e)

-- what is found among words or signs
or_cases : (a b : Bool) → (a || b) ≡ true → (a ≡ true) ⊎ (b ≡ true)
or_cases true b e = inl refl
or_cases false b e = inr e

and_left : (a b : Bool) → (a && b) ≡ true → a ≡ true
and_left true b e = refl
and_left false b e = absurd (cc)

and_right : (a b : Bool) → (a && b) ≡ true → b ≡ true
and_right true b e = e
and_right false b e = absurd (cc)

not_true : (a : Bool) → not a ≡ true → a ≡ false
not_true true e = absurd (cc)
not_true false e = refl

abbrev pub Each : {A : Type 0} → (A → Type 0) → List A → Type 0
Each P [] = Unit {0}
Each P (x ∷ xs) = P x × Each P xs

pub each_bytes : (P : List ℕ → Type 0) (w : List ℕ) (ws : List (List ℕ)) → is_among w ws ≡ true → Each P ws → P w
each_bytes P w [] e h = absurd (cc)
each_bytes P w (v ∷ vs) e h = elim (or_cases (bytes_eq w v) _ e) [
  | inl f ↦ subst P (sym (bytes_eq_is w v f)) h.0
  | inr f ↦ each_bytes P w vs f h.1
]

pub each_kind : (P : Kind → Type 0) (k : Kind) (ks : List Kind) → among k ks ≡ true → Each P ks → P k
each_kind P k [] e h = absurd (cc)
each_kind P k (j ∷ js) e h = elim (or_cases (same k j) _ e) [
  | inl f ↦ subst P (sym (same_is k j f)) h.0
  | inr f ↦ each_kind P k js f h.1
]

word_found : (w : List ℕ) (x : Word) (ws : List Word) → first_word w ws ≡ Some x → w ≡ word_bytes x
word_found w x [] e = absurd (cc)
word_found w x (v ∷ vs) e = step (bytes_eq w (word_bytes v)) refl (word_found w x vs)
  where
    step : (b : Bool) → bytes_eq w (word_bytes v) ≡ b → (first_word w vs ≡ Some x → w ≡ word_bytes x) → w ≡ word_bytes x
    step true f h = let g : Some v ≡ Some x = rw f at e in let i : v ≡ x = cc in bytes_eq_is w (word_bytes v) f ∙ ap word_bytes i
    step false f h = h (rw f at e)

sign_found : (w : List ℕ) (x : Sign) (ss : List Sign) → first_sign w ss ≡ Some x → w ≡ sign_bytes x
sign_found w x [] e = absurd (cc)
sign_found w x (v ∷ vs) e = step (bytes_eq w (sign_bytes v)) refl (sign_found w x vs)
  where
    step : (b : Bool) → bytes_eq w (sign_bytes v) ≡ b → (first_sign w vs ≡ Some x → w ≡ sign_bytes x) → w ≡ sign_bytes x
    step true f h = let g : Some v ≡ Some x = rw f at e in let i : v ≡ x = cc in bytes_eq_is w (sign_bytes v) f ∙ ap sign_bytes i
    step false f h = h (rw f at e)

-- the kind of each word and sign
pub word_kind_is : (x : Word) → kind_of (Token.Word (word_bytes x)) ≡ K.Word x
word_kind_is W.Package = refl
word_kind_is _ = refl

pub sign_kind_is : (x : Sign) → kind_of (Token.Sign (sign_bytes x)) ≡ K.Sign x
sign_kind_is S.Open = refl
sign_kind_is _ = refl

-- what a kind says of the word or sign that was found
sign_of_kind : (o : Option Sign) (x : Sign) → kind_of_sign o ≡ K.Sign x → o ≡ Some x
sign_of_kind (Some y) x e = let i : y ≡ x = cc in ap (λ s. Some s) i
sign_of_kind None x e = absurd (cc)

sign_no_word : (o : Option Sign) (x : Word) → kind_of_sign o ≡ K.Word x → ⊥
sign_no_word (Some y) x e = absurd (cc)
sign_no_word None x e = absurd (cc)

sign_no_name : (o : Option Sign) → kind_of_sign o ≡ K.Name → ⊥
sign_no_name (Some y) e = absurd (cc)
sign_no_name None e = absurd (cc)

word_of_kind : (o : Option Word) (is : Bool) (x : Word) → kind_of_word o is ≡ K.Word x → o ≡ Some x
word_of_kind (Some y) is x e = let i : y ≡ x = cc in ap (λ w. Some w) i
word_of_kind None true x e = absurd (cc)
word_of_kind None false x e = absurd (cc)

word_no_sign : (o : Option Word) (is : Bool) (x : Sign) → kind_of_word o is ≡ K.Sign x → ⊥
word_no_sign (Some y) is x e = absurd (cc)
word_no_sign None true x e = absurd (cc)
word_no_sign None false x e = absurd (cc)

name_of_kind : (o : Option Word) (is : Bool) → kind_of_word o is ≡ K.Name → (o ≡ None) × (is ≡ true)
name_of_kind (Some y) is e = absurd (cc)
name_of_kind None true e = (refl, refl)
name_of_kind None false e = absurd (cc)

pub sign_token : (t : Token) (x : Sign) → kind_of t ≡ K.Sign x → t ≡ Token.Sign (sign_bytes x)
sign_token (Token.Sign s) x e = ap (λ l. Token.Sign l) (sign_found s x all_signs (sign_of_kind (first_sign s all_signs) x e))
sign_token (Token.Word w) x e = absurd (word_no_sign (known_word w) (is_word w) x e)
sign_token _ x e = absurd (cc)

pub word_token : (t : Token) (x : Word) → kind_of t ≡ K.Word x → t ≡ Token.Word (word_bytes x)
word_token (Token.Word w) x e = ap (λ l. Token.Word l) (word_found w x words (word_of_kind (known_word w) (is_word w) x e))
word_token (Token.Sign s) x e = absurd (sign_no_word (first_sign s all_signs) x e)
word_token _ x e = absurd (cc)

-- whether the grammar knows each word of a list
abbrev is_known : Option Word → Bool
is_known (Some x) = true
is_known None = false

abbrev all_known : List (List ℕ) → Bool
all_known [] = true
all_known (v ∷ vs) = is_known (known_word v) && all_known vs

among_known : (w : List ℕ) (vs : List (List ℕ)) → all_known vs ≡ true → is_among w vs ≡ true → is_known (known_word w) ≡ true
among_known w [] k e = absurd (cc)
among_known w (v ∷ vs) k e = elim (or_cases (bytes_eq w v) _ e) [
  | inl f ↦ subst (λ u. is_known (known_word u) ≡ true) (sym (bytes_eq_is w v f)) (and_left (is_known (known_word v)) _ k)
  | inr f ↦ among_known w vs (and_right (is_known (known_word v)) _ k) f
]

reserved_known : all_known reserved_words ≡ true
reserved_known = refl

-- a word that is none of the grammar's is not among those that are no names
unknown_unreserved : (w : List ℕ) → known_word w ≡ None → is_among w reserved_words ≡ false
unknown_unreserved w e = step (is_among w reserved_words) refl
  where
    step : (b : Bool) → is_among w reserved_words ≡ b → is_among w reserved_words ≡ false
    step true f = let h : false ≡ true = subst (λ o. is_known o ≡ true) e (among_known w reserved_words reserved_known f) in absurd (cc)
    step false f = f

-- each word of the grammar that is a name is of a kind that names have
implied : (a b : Bool) → (not a || b) ≡ true → a ≡ true → b ≡ true
implied true b h e = h
implied false b h e = absurd (cc)

name_words : (x : Word) → (not (is_name (word_bytes x)) || among (K.Word x) names) ≡ true
name_words W.Package = refl
name_words _ = refl

pub name_kind : (w : List ℕ) → is_name w ≡ true → among (word_kind w) names ≡ true
name_kind w e = step (known_word w) refl
  where
    is : is_word w ≡ true
    is = and_left (is_word w) _ e

    step : (o : Option Word) → known_word w ≡ o → among (word_kind w) names ≡ true
    step (Some x) f = rw f (implied (is_name (word_bytes x)) _ (name_words x) (subst (λ v. is_name v ≡ true) (word_found w x words f) e))
    step None f = rw (f, is) refl

pub plain_name : (t : Token) → kind_of t ≡ K.Name → IsNameToken t
plain_name (Token.Word w) e = (refl, named (name_of_kind (known_word w) (is_word w) e))
  where
    named : (known_word w ≡ None) × (is_word w ≡ true) → is_name w ≡ true
    named (f, g) = rw (g, unknown_unreserved w f) refl
plain_name (Token.Sign s) e = absurd (sign_no_name (first_sign s all_signs) e)
plain_name _ e = absurd (cc)

-- a list without a kind
among_without : (k j : Kind) (ks : List Kind) → among k (without j ks) ≡ (among k ks && not (same k j))
among_without k j [] = refl
among_without k j (i ∷ is) = step (same i j) (same k i) refl refl (among_without k j is)
  where
    both : same k i ≡ true → same i j ≡ true → same k j ≡ true
    both e f = is_same k j (same_is k i e ∙ same_is i j f)

    back : same k i ≡ true → same i j ≡ false → not (same k j) ≡ true
    back e f = part (same k j) refl
      where
        part : (b : Bool) → same k j ≡ b → not (same k j) ≡ true
        part false g = rw g refl
        part true g = let h = is_same i j (sym (same_is k i e) ∙ same_is k j g) in absurd (cc)

    step : (a b : Bool) → same i j ≡ a → same k i ≡ b → among k (without j is) ≡ (among k is && not (same k j)) → among k (without j (i ∷ is)) ≡ (among k (i ∷ is) && not (same k j))
    step true true e f h = let g = both f e in rw (e, f, g, h) (rw g (last (among k is)))
      where
        last : (b : Bool) → (b && false) ≡ false
        last true = refl
        last false = refl
    step true false e f h = rw (e, f) h
    step false true e f h = rw (e, f) (sym (back f e))
    step false false e f h = rw (e, f) h

pub without_has : (k j : Kind) (ks : List Kind) → among k ks ≡ true → same k j ≡ false → among k (without j ks) ≡ true
without_has k j ks e f = among_without k j ks ∙ (rw (e, f) refl)

pub has_without : (k j : Kind) (ks : List Kind) → among k (without j ks) ≡ true → (among k ks ≡ true) × (same k j ≡ false)
has_without k j ks e = let f : (among k ks && not (same k j)) ≡ true = sym (among_without k j ks) ∙ e in (and_left (among k ks) _ f, not_true (same k j) (and_right (among k ks) _ f))

-- a word is the first of those that have as many bytes
first_of_length : (bytes : List ℕ) (ws : List Word) → first_word bytes (of_length (length bytes) ws) ≡ first_word bytes ws
first_of_length bytes [] = refl
first_of_length bytes (w ∷ ws) = step (nat_eq (length bytes) (length (word_bytes w))) (bytes_eq bytes (word_bytes w)) refl refl (first_of_length bytes ws)
  where
    step : (a b : Bool) → nat_eq (length bytes) (length (word_bytes w)) ≡ a
        → bytes_eq bytes (word_bytes w) ≡ b
        → first_word bytes (of_length (length bytes) ws) ≡ first_word bytes ws
        → first_word bytes (of_length (length bytes) (w ∷ ws)) ≡ first_word bytes (w ∷ ws)
    step true true e f h = rw (e, f) refl
    step true false e f h = rw (e, f) h
    step false false e f h = rw (e, f) h
    step false true e f h = absurd (clash (same_length (bytes_eq_is bytes (word_bytes w) f)) e)
      where
        same_length : bytes ≡ word_bytes w → nat_eq (length bytes) (length (word_bytes w)) ≡ true
        same_length g = eq-eqb (length bytes) (length (word_bytes w)) (ap length g)

pub known_by_length : (bytes : List ℕ) → first_word bytes (words_of_length (length bytes)) ≡ known_word bytes
known_by_length bytes = first_of_length bytes words
