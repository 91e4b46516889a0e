-- What the scanner reads at the front of a text.
use Rattle.std.specs.Prelude.{◌≡◌, ◌⊎◌, ℕ, Bool, true, false, ◌||◌, List, [], ◌∷◌, ◌++◌, length, codes}
use Rattle.grammar.specs.Bytes.{is_digit}
use Rattle.grammar.specs.Tokens.{IsNext, Gaps}
use Rattle.maxj_tokens.specs.Tokens.{Token, token_of, OpensNone, is_name_start, is_decimal_integer, is_hex_integer, is_suffix, is_decimal, is_quote, is_sign}
use Rattle.maxj_tokens.specs.Scanning.{PlacedToken, HasStrayByte, HasNoToken}
use Rattle.maxj_tokens.specs.declared.sign.Sign.{Sign}
use Rattle.maxj_tokens.specs.declared.sign.Sign.TheVariants as S
use Rattle.maxj_tokens.specs.declared.token.Token.{Token as Read}
use Rattle.maxj_tokens.specs.declared.token.Token.TheVariants as T
use Rattle.maxj_tokens.specs.declared.token.Placed.{Placed}
use Rattle.maxj_tokens.specs.declared.scanner.ScanError.{ScanError}
use Rattle.maxj_tokens.specs.declared.scanner.ScanError.TheVariants as E

-- the token stands at the front, and the rest behind it
abbrev pub Takes : List ℕ → Token → List ℕ → Type 0
Takes text t rest = (word : List ℕ) × (text ≡ word ++ rest) × IsNext Gaps token_of OpensNone word rest t

abbrev pub sign_bytes : Sign → List ℕ
sign_bytes S.Open = codes "("
sign_bytes S.Close = codes ")"
sign_bytes S.OpenBrace = codes "{"
sign_bytes S.CloseBrace = codes "}"
sign_bytes S.OpenBracket = codes "["
sign_bytes S.CloseBracket = codes "]"
sign_bytes S.Semicolon = codes ";"
sign_bytes S.Comma = codes ","
sign_bytes S.Dot = codes "."
sign_bytes S.Assign = codes "="
sign_bytes S.Plus = codes "+"
sign_bytes S.Minus = codes "-"
sign_bytes S.Star = codes "*"
sign_bytes S.Slash = codes "/"
sign_bytes S.Percent = codes "%"
sign_bytes S.And = codes "&"
sign_bytes S.Or = codes "|"
sign_bytes S.Xor = codes "^"
sign_bytes S.Tilde = codes "~"
sign_bytes S.Not = codes "!"
sign_bytes S.Question = codes "?"
sign_bytes S.Colon = codes ":"
sign_bytes S.Less = codes "<"
sign_bytes S.Greater = codes ">"
sign_bytes S.LessEqual = codes "<="
sign_bytes S.GreaterEqual = codes ">="
sign_bytes S.Equal = codes "=="
sign_bytes S.NotEqual = codes "!="
sign_bytes S.Same = codes "==="
sign_bytes S.NotSame = codes "!=="
sign_bytes S.ShiftLeft = codes "<<"
sign_bytes S.ShiftRight = codes ">>"
sign_bytes S.AndAnd = codes "&&"
sign_bytes S.OrOr = codes "||"
sign_bytes S.PlusPlus = codes "++"
sign_bytes S.MinusMinus = codes "--"
sign_bytes S.PlusAssign = codes "+="
sign_bytes S.MinusAssign = codes "-="
sign_bytes S.StarAssign = codes "*="
sign_bytes S.Connect = codes "<=="

-- the token that a token of the scanner is
abbrev pub token_view : Read → Token
token_view (T.Word w) = Token.Word w.now
token_view (T.Whole w) = Token.Whole w.now
token_view (T.Decimal w) = Token.Decimal w.now
token_view (T.Str w) = Token.Str w.now
token_view (T.Sign s) = Token.Sign (sign_bytes s)

abbrev pub placed_view : Placed → PlacedToken
placed_view p = record { token = token_view p.token; place = p.at }

abbrev pub starts_name : List ℕ → Bool
starts_name [] = false
starts_name (b ∷ bs) = is_name_start b

abbrev pub starts_number : List ℕ → Bool
starts_number [] = false
starts_number (b ∷ bs) = is_digit b

abbrev pub starts_string : List ℕ → Bool
starts_string [] = false
starts_string (b ∷ bs) = is_quote b

-- the text begins with no sign of this length
abbrev pub LacksSign : ℕ → List ℕ → Type 0
LacksSign n text = (word back : List ℕ) → text ≡ word ++ back → length word ≡ n → is_sign word ≡ false

-- the text begins with no decimal
abbrev pub LacksDecimal : List ℕ → Type 0
LacksDecimal text = (word back : List ℕ) → text ≡ word ++ back → is_decimal word ≡ false

-- an integer without a suffix
abbrev pub is_plain : List ℕ → Bool
is_plain word = is_decimal_integer word || is_hex_integer word

-- the longest integer without a suffix at the front, and the rest behind it
pub record TakesPlain (text rest : List ℕ) : Type 0 where
  pub word : List ℕ
  pub split : text ≡ word ++ rest
  pub is : is_plain word ≡ true
  pub longest : (more back : List ℕ) → rest ≡ more ++ back → is_plain (word ++ more) ≡ true → more ≡ []

-- the text begins with no `L` and no `l`
abbrev pub BeginsNoSuffix : List ℕ → Type 0
BeginsNoSuffix [] = Unit {0}
BeginsNoSuffix (b ∷ bs) = is_suffix b ≡ false

-- a suffix at the front is passed over, where one stands there
abbrev pub PassesSuffix : List ℕ → List ℕ → Type 0
PassesSuffix text rest = ((b : ℕ) × (text ≡ b ∷ rest) × (is_suffix b ≡ true)) ⊎ ((rest ≡ text) × BeginsNoSuffix text)

abbrev pub Fails : List ℕ → ScanError → Type 0
Fails text E.NoMemory = Unit {0}
Fails text (E.StrayByte place) = HasStrayByte text place
Fails text (E.NoToken place) = HasNoToken text place
