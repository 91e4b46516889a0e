-- The tokens of a text with their places, and where a text has no token.
use Rattle.std.specs.Prelude.{◌≡◌, ℕ, Bool, false, ◌&&◌, ◌||◌, ◌==◌, List, [], ◌∷◌, ◌++◌, length, codes}
use Rattle.grammar.specs.Bytes.{is_digit, is_hex, decimal_value, hexadecimal}
use Rattle.grammar.specs.Tokens.{IsNext, Reads, IsText, Gaps}
use Rattle.rtl_text.specs.Tokens.{Token, token_of, is_quote, hex_digits, Apart}
use Rattle.rtl_ir.specs.Names.{begins_name}
use Rattle.rtl_ir.specs.Spelling.{sign_bytes}
use Rattle.std.specs.List.{before_first, after_first}
use Rattle.text_scan.specs.Places as places
use Rattle.text_scan.specs.Gaps.{BeginsNoGap}
use Rattle.verilog_syntax.specs.declared.mark.Mark.{Mark}
use Rattle.verilog_syntax.specs.declared.mark.Mark.TheVariants.{Open, Close, OpenBracket}
use Rattle.verilog_syntax.specs.declared.mark.Mark.TheVariants.{CloseBracket, OpenBrace, CloseBrace}
use Rattle.verilog_syntax.specs.declared.mark.Mark.TheVariants.{Semicolon, Colon, Comma, Dot, At}
use Rattle.verilog_syntax.specs.declared.mark.Mark.TheVariants.{Question, Assign, LessEqual, Tilde}
use Rattle.verilog_syntax.specs.declared.mark.Mark.TheVariants.{Operator}
use Rattle.verilog_syntax.specs.declared.token.Token.{Token as Read}
use Rattle.verilog_syntax.specs.declared.token.Token.TheVariants.{Word, Number, Literal, Sign as MarkOf}
use Rattle.verilog_syntax.specs.declared.token.Placed.{Placed}
use Rattle.verilog_syntax.specs.declared.scanner.ScanError.{ScanError}
use Rattle.verilog_syntax.specs.declared.scanner.ScanError.TheVariants.{NoMemory, NoToken}

-- the word is the next token of the text, and the rest follows it
abbrev pub IsNextToken : List ℕ → List ℕ → Token → Type 0
IsNextToken word rest t = IsNext Gaps token_of Apart word rest t

-- the bytes are these tokens, with white space and comments among them
abbrev pub IsTokens : List ℕ → List Token → Type 0
IsTokens bytes ts = IsText Gaps token_of Apart bytes ts

-- a token, and the number of bytes before it
abbrev pub PlacedToken : Type 0
PlacedToken = places.PlacedToken Token

-- the first of these bytes, which have the place n, are these tokens, and the rest is left
abbrev pub ReadsAt : ℕ → List ℕ → List PlacedToken → List ℕ → Type 0
ReadsAt n bytes ts left = places.ReadsAt token_of Apart n bytes ts left

-- the token stands at the front, and the rest behind it
abbrev pub Takes : List ℕ → Token → List ℕ → Type 0
Takes text t rest = (word : List ℕ) × (text ≡ word ++ rest) × IsNextToken word rest t

abbrev pub BeginsNoToken : List ℕ → Type 0
BeginsNoToken text = (word rest : List ℕ) (t : Token) → text ≡ word ++ rest → IsNextToken word rest t → ⊥

-- the text goes on, but with no token and no gap
pub record IsStuck (text : List ℕ) : Type 0 where
  pub some : text ≡ [] → ⊥
  pub no_gap : BeginsNoGap text
  pub no_token : BeginsNoToken text

-- The text is read up to this place, and no token and no gap begins there.
pub record HasNoToken (text : List ℕ) (place : ℕ) : Type 0 where
  pub front : List ℕ
  pub rest : List ℕ
  pub split : text ≡ front ++ rest
  pub at : length front ≡ place
  pub tokens : List Token
  pub read : Reads Gaps token_of Apart text tokens rest
  pub stuck : IsStuck rest

-- what the scanner reads

abbrev pub mark_bytes : Mark → List ℕ
mark_bytes Open = codes "("
mark_bytes Close = codes ")"
mark_bytes OpenBracket = codes "["
mark_bytes CloseBracket = codes "]"
mark_bytes OpenBrace = codes "{"
mark_bytes CloseBrace = codes "}"
mark_bytes Semicolon = codes ";"
mark_bytes Colon = codes ":"
mark_bytes Comma = codes ","
mark_bytes Dot = codes "."
mark_bytes At = codes "@"
mark_bytes Question = codes "?"
mark_bytes Assign = codes "="
mark_bytes LessEqual = codes "<="
mark_bytes Tilde = codes "~"
mark_bytes (Operator s) = sign_bytes s

abbrev pub literal_width : List ℕ → ℕ
literal_width word = decimal_value (before_first is_quote word)

abbrev pub literal_value : List ℕ → ℕ
literal_value word = hexadecimal (hex_digits (after_first is_quote word))

-- the token that a token of the scanner is
abbrev pub token_view : Read → Token
token_view (Word w) = Token.Word w.now
token_view (Number w) = Token.Number (decimal_value w.now)
token_view (Literal w) = Token.Literal (literal_width w.now) (literal_value w.now)
token_view (MarkOf m) = Token.Sign (mark_bytes m)

abbrev pub placed_view : Placed → PlacedToken
placed_view p = record { token = token_view p.token; place = p.at }

abbrev pub starts_name : List ℕ → Bool
starts_name [] = false
starts_name (b ∷ bs) = begins_name b

abbrev pub begins_number : List ℕ → Bool
begins_number [] = false
begins_number (b ∷ bs) = is_digit b

-- `==` or `<=` stands at the front
abbrev pub begins_double : List ℕ → Bool
begins_double (a ∷ b ∷ bs) = (a == 60 || a == 61) && b == 61
begins_double _ = false

-- `'h` and a hexadecimal digit stand at the front
abbrev pub begins_hex_part : List ℕ → Bool
begins_hex_part (q ∷ h ∷ d ∷ bs) = is_quote q && (h == 104 && is_hex d)
begins_hex_part _ = false

abbrev pub Fails : List ℕ → ScanError → Type 0
Fails text NoMemory = Unit {0}
Fails text (NoToken place) = HasNoToken text place
