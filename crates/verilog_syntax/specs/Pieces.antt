-- The tokens that are known beforehand.
use Rattle.std.specs.Prelude.{◌≡◌, ℕ, Bool, false, ◌==◌, List, [], ◌∷◌, codes, Option, Some, None, nat_le, if◌then◌else◌, ◌||◌, is_some}
use Rattle.std.specs.Str.{bytes_eq}
use Rattle.rtl_ir.specs.declared.design.Sign.{Sign}
use Rattle.rtl_ir.specs.declared.design.Sign.TheVariants.{Add, Sub, Mul, Div, And, Or, Xor, Eq, Lt}
use Rattle.rtl_text.specs.Tokens.{Token}
use Rattle.rtl_ir.specs.Names.{is_reserved}
use Rattle.rtl_text.specs.Productions.{Part, Sign_, Reserved, Clock, Number}
use Rattle.verilog_syntax.specs.Parsing.{SizedNumber, LiteralOf, IsTree}
use Rattle.verilog_syntax.specs.Scanning.{mark_bytes}
use Rattle.verilog_syntax.specs.declared.keyword.Keyword.{Keyword}
use Rattle.verilog_syntax.specs.declared.keyword.Keyword.TheVariants as words
use Rattle.verilog_syntax.specs.declared.keyword.Piece.{Piece}
use Rattle.verilog_syntax.specs.declared.keyword.Piece.TheVariants as pieces

abbrev pub keyword_bytes : Keyword → List ℕ
keyword_bytes words.Module = codes "module"
keyword_bytes words.Endmodule = codes "endmodule"
keyword_bytes words.Input = codes "input"
keyword_bytes words.Output = codes "output"
keyword_bytes words.Wire = codes "wire"
keyword_bytes words.Reg = codes "reg"
keyword_bytes words.Assign = codes "assign"
keyword_bytes words.Always = codes "always"
keyword_bytes words.Posedge = codes "posedge"
keyword_bytes words.Begin = codes "begin"
keyword_bytes words.End = codes "end"
keyword_bytes words.If = codes "if"

abbrev pub piece_part : Piece → Part
piece_part (pieces.Word k) = Reserved (keyword_bytes k)
piece_part (pieces.Sign m) = Sign_ (mark_bytes m)
piece_part pieces.Clock = Clock
piece_part pieces.Zero = Number 0

abbrev pub piece_token : Piece → Token
piece_token (pieces.Word k) = Token.Word (keyword_bytes k)
piece_token (pieces.Sign m) = Token.Sign (mark_bytes m)
piece_token pieces.Clock = Token.Word (codes "clk")
piece_token pieces.Zero = Token.Number 0

-- whether two tokens are the same one
abbrev pub same_token : Token → Token → Bool
same_token (Token.Word v) (Token.Word w) = bytes_eq v w
same_token (Token.Number m) (Token.Number n) = m == n
same_token (Token.Sign v) (Token.Sign w) = bytes_eq v w
same_token _ _ = false

-- whether the tokens begin with this one
abbrev pub begins_with : Token → List Token → Bool
begins_with t [] = false
begins_with t (u ∷ us) = same_token u t

-- the name, and the number of at most this size, that is the first token
abbrev pub name_at : List Token → Option (List ℕ)
name_at (Token.Word w ∷ ts) = if is_reserved w then None else Some w
name_at _ = None

abbrev pub number_at : ℕ → List Token → Option ℕ
number_at limit (Token.Number n ∷ ts) = if nat_le n limit then Some n else None
number_at limit _ = None

-- a literal of the grammar is the first token
abbrev pub BeginsLiteral : SizedNumber → List Token → Type 0
BeginsLiteral n (Token.Literal w v ∷ ts) = (w ≡ n.width) × (v ≡ n.value) × IsTree LiteralOf n
BeginsLiteral n _ = ⊥

abbrev pub BeginsNoLiteral : List Token → Type 0
BeginsNoLiteral (Token.Literal w v ∷ ts) = IsTree LiteralOf (record { width = w; value = v }) → ⊥
BeginsNoLiteral _ = Unit {0}

-- the operator that is the first token
abbrev pub operator_in : List ℕ → Option Sign
operator_in s =
    if bytes_eq s (codes "+") then Some Add else (if bytes_eq s (codes "-") then Some Sub else (if bytes_eq s (codes "*") then Some Mul
    else (if bytes_eq s (codes "/") then Some Div else (if bytes_eq s (codes "&") then Some And else (if bytes_eq s (codes "|") then Some Or
    else (if bytes_eq s (codes "^") then Some Xor else (if bytes_eq s (codes "==") then Some Eq else (if bytes_eq s (codes "<") then Some Lt else None))))))))

abbrev pub operator_at : List Token → Option Sign
operator_at (Token.Sign s ∷ ts) = operator_in s
operator_at _ = None

-- whether an item begins
abbrev pub begins_item : List Token → Bool
begins_item ts =
    begins_with (Token.Word (codes "wire")) ts || (begins_with (Token.Word (codes "reg")) ts || (begins_with (Token.Word (codes "assign")) ts
    || (begins_with (Token.Word (codes "always")) ts || is_some (name_at ts))))
