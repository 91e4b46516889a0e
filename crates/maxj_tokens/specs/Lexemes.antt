-- Tokens by their places in a source.
use Rattle.std.specs.Prelude.{ℕ, List, take, drop}
use Rattle.maxj_tokens.specs.Tokens.{Token}
use Rattle.maxj_tokens.specs.Scanning.{PlacedToken}
use Rattle.maxj_tokens.specs.Reading.{sign_bytes}
use Rattle.maxj_tokens.specs.declared.lexeme.LexemeKind.{LexemeKind}
use Rattle.maxj_tokens.specs.declared.lexeme.LexemeKind.TheVariants as K
use Rattle.maxj_tokens.specs.declared.lexeme.Lexeme.{Lexeme}

-- the token of a kind with these bytes; a sign has its own
abbrev pub kind_view : LexemeKind → List ℕ → Token
kind_view K.Word w = Token.Word w
kind_view K.Whole w = Token.Whole w
kind_view K.Decimal w = Token.Decimal w
kind_view K.Str w = Token.Str w
kind_view (K.Sign s) w = Token.Sign (sign_bytes s)

-- the token of a source that stands at a place
abbrev pub placed_in : List ℕ → Lexeme → PlacedToken
placed_in text l = record { token = kind_view l.kind (take l.length (drop l.at text)); place = l.at }
