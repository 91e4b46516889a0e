-- The kinds of tokens that the parser tells apart.
use Rattle.std.specs.Prelude.{ℕ, Bool, List, [], ◌∷◌, Option, Some, None, if◌then◌else◌, nat_eq, length, codes}
use Rattle.std.specs.Str.{bytes_eq}
use Rattle.maxj_tokens.specs.declared.sign.Sign.{Sign}
use Rattle.maxj_tokens.specs.declared.sign.Sign.TheVariants as S
use Rattle.maxj_syntax.specs.declared.kind.Word.{Word}
use Rattle.maxj_syntax.specs.declared.kind.Word.TheVariants as W
use Rattle.maxj_syntax.specs.declared.kind.Kind.{Kind}
use Rattle.maxj_syntax.specs.declared.kind.Kind.TheVariants as K
use Rattle.maxj_tokens.specs.Tokens.{Token, is_word}
use Rattle.maxj_tokens.specs.Reading.{sign_bytes}

abbrev pub word_bytes : Word → List ℕ
word_bytes W.Package = codes "package"
word_bytes W.Import = codes "import"
word_bytes W.Static = codes "static"
word_bytes W.Public = codes "public"
word_bytes W.Private = codes "private"
word_bytes W.Protected = codes "protected"
word_bytes W.Final = codes "final"
word_bytes W.Class = codes "class"
word_bytes W.Extends = codes "extends"
word_bytes W.Void = codes "void"
word_bytes W.Return = codes "return"
word_bytes W.If = codes "if"
word_bytes W.Else = codes "else"
word_bytes W.While = codes "while"
word_bytes W.For = codes "for"
word_bytes W.New = codes "new"
word_bytes W.This = codes "this"
word_bytes W.True = codes "true"
word_bytes W.False = codes "false"
word_bytes W.Int = codes "int"
word_bytes W.Boolean = codes "boolean"
word_bytes W.Super = codes "super"
word_bytes W.Kernel = codes "Kernel"
word_bytes W.CustomManager = codes "CustomManager"
word_bytes W.Memory = codes "Memory"
word_bytes W.DFEVar = codes "DFEVar"
word_bytes W.KernelParameters = codes "KernelParameters"
word_bytes W.EngineParameters = codes "EngineParameters"

-- the words that the grammar knows
abbrev pub words : List Word
words =
    W.Package ∷ W.Import ∷ W.Static ∷ W.Public ∷ W.Private ∷ W.Protected ∷ W.Final ∷ W.Class
    ∷ W.Extends ∷ W.Void ∷ W.Return ∷ W.If ∷ W.Else ∷ W.While ∷ W.For ∷ W.New ∷ W.This
    ∷ W.True ∷ W.False
    ∷ W.Int ∷ W.Boolean ∷ W.Super ∷ W.Kernel ∷ W.CustomManager ∷ W.Memory ∷ W.DFEVar ∷ W.KernelParameters ∷ W.EngineParameters ∷ []

-- the signs
abbrev pub all_signs : List Sign
all_signs =
    S.Open ∷ S.Close ∷ S.OpenBrace ∷ S.CloseBrace ∷ S.OpenBracket ∷ S.CloseBracket ∷ S.Semicolon
    ∷ S.Comma ∷ S.Dot ∷ S.Assign ∷ S.Plus ∷ S.Minus ∷ S.Star ∷ S.Slash ∷ S.Percent ∷ S.And
    ∷ S.Or ∷ S.Xor ∷ S.Tilde ∷ S.Not
    ∷ S.Question ∷ S.Colon ∷ S.Less ∷ S.Greater ∷ S.LessEqual ∷ S.GreaterEqual ∷ S.Equal
    ∷ S.NotEqual ∷ S.Same ∷ S.NotSame ∷ S.ShiftLeft ∷ S.ShiftRight ∷ S.AndAnd ∷ S.OrOr
    ∷ S.PlusPlus ∷ S.MinusMinus ∷ S.PlusAssign
    ∷ S.MinusAssign ∷ S.StarAssign ∷ S.Connect ∷ []

-- those of the words that have so many bytes
abbrev pub of_length : ℕ → List Word → List Word
of_length n [] = []
of_length n (w ∷ ws) = if nat_eq n (length (word_bytes w)) then w ∷ of_length n ws else of_length n ws

abbrev pub words_of_length : ℕ → List Word
words_of_length n = of_length n words

-- the first of the words that is written so
abbrev pub first_word : List ℕ → List Word → Option Word
first_word bytes [] = None
first_word bytes (w ∷ ws) = if bytes_eq bytes (word_bytes w) then Some w else first_word bytes ws

abbrev pub known_word : List ℕ → Option Word
known_word bytes = first_word bytes words

abbrev pub first_sign : List ℕ → List Sign → Option Sign
first_sign bytes [] = None
first_sign bytes (s ∷ ss) = if bytes_eq bytes (sign_bytes s) then Some s else first_sign bytes ss

abbrev pub kind_of_word : Option Word → Bool → Kind
kind_of_word (Some w) is = K.Word w
kind_of_word None is = if is then K.Name else K.Other

abbrev pub word_kind : List ℕ → Kind
word_kind bytes = kind_of_word (known_word bytes) (is_word bytes)

abbrev pub kind_of_sign : Option Sign → Kind
kind_of_sign (Some s) = K.Sign s
kind_of_sign None = K.Other

-- the kind of a token
abbrev pub kind_of : Token → Kind
kind_of (Token.Word w) = word_kind w
kind_of (Token.Whole w) = K.Whole
kind_of (Token.Decimal w) = K.Decimal
kind_of (Token.Str w) = K.Str
kind_of (Token.Sign s) = kind_of_sign (first_sign s all_signs)
