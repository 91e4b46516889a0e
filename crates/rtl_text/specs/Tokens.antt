-- The tokens of a Verilog text (IEEE 1364-2005 clause 3, the subset's part of it).
use Rattle.std.specs.Prelude.{◌≡◌, ℕ, Bool, false, ◌&&◌, ◌==◌, List, [], ◌∷◌, Option, Some, None, if◌then◌else◌, codes}
use Rattle.std.specs.List.{list_all, list_any, before_first, after_first}
use Rattle.std.specs.Str.{bytes_eq}
use Rattle.grammar.specs.Bytes.{is_digit, is_hex, decimal_value, hexadecimal}
use Rattle.grammar.specs.Tokens.{IsText, Gaps}
use Rattle.rtl_ir.specs.Names.{begins_name, continues_name}

pub data Token : Type 0 where
  Word : List ℕ → Token  -- a name or a reserved word
  Number : ℕ → Token  -- decimal digits
  Literal : ℕ → ℕ → Token  -- a width, `'h` and hexadecimal digits
  Sign : List ℕ → Token

abbrev pub is_word : List ℕ → Bool
is_word [] = false
is_word (b ∷ bs) = begins_name b && list_all continues_name bs

abbrev pub is_number : List ℕ → Bool
is_number [] = false
is_number (b ∷ bs) = is_digit b && list_all is_digit bs

-- `h` and at least one hexadecimal digit
abbrev pub is_hex_part : List ℕ → Bool
is_hex_part (h ∷ d ∷ ds) = h == 104 && (is_hex d && list_all is_hex ds)
is_hex_part _ = false

abbrev pub is_quote : ℕ → Bool
is_quote b = b == 39

abbrev pub is_literal : List ℕ → Bool
is_literal word = is_number (before_first is_quote word) && is_hex_part (after_first is_quote word)

abbrev pub hex_digits : List ℕ → List ℕ
hex_digits [] = []
hex_digits (h ∷ ds) = ds

abbrev pub signs : List (List ℕ)
signs =
    codes "(" ∷ codes ")" ∷ codes "[" ∷ codes "]" ∷ codes "{" ∷ codes "}" ∷ codes ";" ∷ codes ":" ∷ codes "," ∷ codes "." ∷ codes "@" ∷ codes "?"
    ∷ codes "=" ∷ codes "==" ∷ codes "<" ∷ codes "<=" ∷ codes "~" ∷ codes "+" ∷ codes "-" ∷ codes "*" ∷ codes "/" ∷ codes "&" ∷ codes "|" ∷ codes "^" ∷ []

abbrev pub is_sign : List ℕ → Bool
is_sign word = list_any (bytes_eq word) signs

-- the token that a word is, if it is one
abbrev pub token_of : List ℕ → Option Token
token_of word =
    if is_word word then Some (Token.Word word)
    else (if is_number word then Some (Token.Number (decimal_value word))
    else (if is_literal word then Some (Token.Literal (decimal_value (before_first is_quote word)) (hexadecimal (hex_digits (after_first is_quote word))))
    else (if is_sign word then Some (Token.Sign word) else None)))

abbrev pub BeginsStar : List ℕ → Type 0
BeginsStar [] = ⊥
BeginsStar (b ∷ bs) = b ≡ 42

-- a `/` is no token before a `*`: that is a comment, and where the comment doesn't end, nothing
abbrev pub Apart : Token → List ℕ → Type 0
Apart (Token.Sign s) rest = s ≡ codes "/" → BeginsStar rest → ⊥
Apart _ rest = Unit {0}

-- the bytes are these tokens, with white space and comments among them
abbrev pub IsTokens : List ℕ → List Token → Type 0
IsTokens bytes ts = IsText Gaps token_of Apart bytes ts
