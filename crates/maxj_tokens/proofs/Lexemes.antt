-- What a token is written as, and the tokens that stand at places.
use Rattle.std.proofs.Common.{◌≡◌, ◌∙◌, ℕ, ◌-◌, Bool, true, false, List, [], ◌∷◌, ◌++◌, length, take, drop, Some, None, if◌then◌else◌, refl, sym, ap, arith, length-append}
use Rattle.maxj_tokens.specs.Tokens.{Token, written, token_of, is_word, is_integer, is_decimal, is_string, is_sign}
use Rattle.maxj_tokens.specs.Scanning.{PlacedToken, ReadsAt}
use Rattle.maxj_tokens.specs.Reading.{Takes}
use Rattle.maxj_tokens.specs.Lexemes.{kind_view, placed_in}
use Rattle.maxj_tokens.specs.declared.lexeme.LexemeKind.{LexemeKind}
use Rattle.text_scan.proofs.Places as places

written_some : (u t : Token) → Some u ≡ Some t → written t ≡ written u
written_some u t e = let f : u ≡ t = cc in sym (ap written f)

chosen : (a b c d e : Bool) (w : List ℕ) (t : Token)
    → (if a then Some (Token.Word w) else (if b then Some (Token.Whole w) else
    (if c then Some (Token.Decimal w) else (if d then Some (Token.Str w) else
    (if e then Some (Token.Sign w) else None))))) ≡ Some t → written t ≡ w
chosen true b c d e w t h = written_some (Token.Word w) t h
chosen false true c d e w t h = written_some (Token.Whole w) t h
chosen false false true d e w t h = written_some (Token.Decimal w) t h
chosen false false false true e w t h = written_some (Token.Str w) t h
chosen false false false false true w t h = written_some (Token.Sign w) t h
chosen false false false false false w t h = absurd (cc)

-- a token is written as the bytes that it is of
pub written_is : (w : List ℕ) (t : Token) → token_of w ≡ Some t → written t ≡ w
written_is w t h = chosen (is_word w) (is_integer w) (is_decimal w) (is_string w) (is_sign w) w t h

take_front : (a ys : List ℕ) → take (length a) (a ++ ys) ≡ a
take_front [] ys = refl
take_front (x ∷ a) ys = ap (λ l. x ∷ l) (take_front a ys)

drop_front : (a ys : List ℕ) → drop (length a) (a ++ ys) ≡ ys
drop_front [] ys = refl
drop_front (x ∷ a) ys = drop_front a ys

-- the token at the front of what is left stands at its place
pub lexeme_at : {text rest behind : List ℕ} {ts : List PlacedToken} {t : Token} → ReadsAt 0 text ts rest → Takes rest t behind → (k : LexemeKind) → kind_view k (written t) ≡ t
    → placed_in text (record { kind = k; at = length text - length rest; length = length rest - length behind }) ≡ record { token = t; place = length text - length rest }
lexeme_at {text = text} {rest = rest} {behind = behind} {t = t} read (word, e, next) k f =
    let (front, g) = places.front read in
    let at : length text - length rest ≡ length front = (let m = ap length g in omega (arith, m, length-append front rest)) in
    let size : length rest - length behind ≡ length word = (let m = ap length e in omega (arith, m, length-append word behind)) in
    let left : drop (length text - length rest) text ≡ rest = ap (λ n. drop n text) at ∙ ap (λ l. drop (length front) l) g ∙ drop_front front rest in
    let bytes : take (length rest - length behind) (drop (length text - length rest) text) ≡ written t =
    ap (λ l. take (length rest - length behind) l) left ∙ ap (λ n. take n rest) size ∙ ap (λ l. take (length word) l) e ∙ take_front word behind ∙ sym (written_is word t next.is) in
    ap (λ u. record { token = u; place = length text - length rest }) (ap (kind_view k) bytes ∙ f)
