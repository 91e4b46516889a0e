-- The tokens of a source.
use Rattle.std.specs.Prelude.{◌≡◌, ℕ, Bool, false, ◌&&◌, ◌||◌, ◌==◌, not, List, [], ◌∷◌, Option, Some, None, if◌then◌else◌, codes}
use Rattle.std.specs.List.{list_all, list_any, before_first, after_first}
use Rattle.std.specs.Str.{bytes_eq}
use Rattle.grammar.specs.Bytes.{is_digit, is_letter, is_hex, is_between}
use Rattle.grammar.specs.Tokens.{IsText, Gaps}

-- a token, with its bytes as they are written
pub data Token : Type 0 where
  Word : List ℕ → Token  -- a name, or a word that is no name
  Whole : List ℕ → Token  -- an integer
  Decimal : List ℕ → Token  -- digits, `.` and digits
  Str : List ℕ → Token  -- a string, with its quotes
  Sign : List ℕ → Token

-- what is written
abbrev pub written : Token → List ℕ
written (Token.Word w) = w
written (Token.Whole w) = w
written (Token.Decimal w) = w
written (Token.Str w) = w
written (Token.Sign w) = w

abbrev pub is_name_start : ℕ → Bool
is_name_start b = is_letter b || b == 95

abbrev pub is_name_byte : ℕ → Bool
is_name_byte b = is_letter b || (is_digit b || b == 95)

-- a letter or `_`, and then letters, digits and `_`
abbrev pub is_word : List ℕ → Bool
is_word [] = false
is_word (b ∷ bs) = is_name_start b && list_all is_name_byte bs

abbrev pub are_digits : List ℕ → Bool
are_digits [] = false
are_digits (b ∷ bs) = is_digit b && list_all is_digit bs

-- decimal digits, of which the first is 0 only where it is alone
abbrev pub is_decimal_integer : List ℕ → Bool
is_decimal_integer [] = false
is_decimal_integer (b ∷ bs) = is_digit b && (list_all is_digit bs && (not (b == 48) || bytes_eq bs []))

-- `0x` and hexadecimal digits
abbrev pub is_hex_integer : List ℕ → Bool
is_hex_integer (a ∷ x ∷ d ∷ ds) = a == 48 && (x == 120 && (is_hex d && list_all is_hex ds))
is_hex_integer _ = false

-- `L` or `l`
abbrev pub is_suffix : ℕ → Bool
is_suffix b = b == 76 || b == 108

-- an integer, with `L` or `l` behind it or without
abbrev pub is_integer : List ℕ → Bool
is_integer word =
    is_decimal_integer word || (is_hex_integer word
    || ((is_decimal_integer (before_first is_suffix word) || is_hex_integer
    (before_first is_suffix word)) && (list_any is_suffix word
    && bytes_eq (after_first is_suffix word) [])))

abbrev pub is_dot : ℕ → Bool
is_dot b = b == 46

abbrev pub is_decimal : List ℕ → Bool
is_decimal word = are_digits (before_first is_dot word) && are_digits (after_first is_dot word)

abbrev pub is_quote : ℕ → Bool
is_quote b = b == 34

-- the bytes 32 to 126 without `"` and `\`
abbrev pub is_string_byte : ℕ → Bool
is_string_byte b = is_between 32 126 b && (not (b == 34) && not (b == 92))

-- `"`, string bytes, and `"`
abbrev pub is_string : List ℕ → Bool
is_string [] = false
is_string (q ∷ bs) = is_quote q && (list_all is_string_byte (before_first is_quote bs) && (list_any is_quote bs && bytes_eq (after_first is_quote bs) []))

abbrev pub signs : List (List ℕ)
signs =
    codes "(" ∷ codes ")" ∷ codes "{" ∷ codes "}" ∷ codes "[" ∷ codes "]" ∷ codes ";" ∷ codes "," ∷ codes "." ∷ codes "="
    ∷ codes "+" ∷ codes "-" ∷ codes "*" ∷ codes "/" ∷ codes "%" ∷ codes "&" ∷ codes "|" ∷ codes "^" ∷ codes "~" ∷ codes "!" ∷ codes "?" ∷ codes ":"
    ∷ codes "<" ∷ codes ">" ∷ codes "<=" ∷ codes ">=" ∷ codes "==" ∷ codes "!=" ∷ codes "===" ∷ codes "!==" ∷ codes "<<" ∷ codes ">>"
    ∷ codes "&&" ∷ codes "||" ∷ codes "++" ∷ codes "--" ∷ codes "+=" ∷ codes "-=" ∷ codes "*=" ∷ codes "<==" ∷ []

abbrev pub is_among : List ℕ → List (List ℕ) → Bool
is_among word words = list_any (bytes_eq word) words

abbrev pub is_sign : List ℕ → Bool
is_sign word = list_any (bytes_eq word) signs

-- the token that a word is, if it is one
abbrev pub token_of : List ℕ → Option Token
token_of word =
    if is_word word then Some (Token.Word word)
    else (if is_integer word then Some (Token.Whole word)
    else (if is_decimal word then Some (Token.Decimal word)
    else (if is_string word then Some (Token.Str word)
    else (if is_sign word then Some (Token.Sign word) else None))))

abbrev pub BeginsStar : List ℕ → Type 0
BeginsStar [] = ⊥
BeginsStar (b ∷ bs) = b ≡ 42

-- a `/` is no token before a `*`: that is a comment, and where the comment doesn't end, nothing
abbrev pub OpensNone : Token → List ℕ → Type 0
OpensNone (Token.Sign s) rest = s ≡ codes "/" → BeginsStar rest → ⊥
OpensNone _ rest = Unit {0}

abbrev pub begins_name_byte : List ℕ → Bool
begins_name_byte [] = false
begins_name_byte (b ∷ bs) = is_name_byte b

-- a digit, a letter or `_` follows a number directly
abbrev pub is_followed : Token → List ℕ → Bool
is_followed (Token.Whole w) rest = begins_name_byte rest
is_followed (Token.Decimal w) rest = begins_name_byte rest
is_followed _ rest = false

-- the rest may follow the token directly
abbrev pub Apart : Token → List ℕ → Type 0
Apart t rest = OpensNone t rest × (is_followed t rest ≡ false)

-- the bytes are these tokens, with white space and comments among them
abbrev pub IsTokens : List ℕ → List Token → Type 0
IsTokens bytes ts = IsText Gaps token_of Apart bytes ts
