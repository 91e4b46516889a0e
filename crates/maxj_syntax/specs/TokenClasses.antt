-- The classes of tokens, and the kinds that each has.
use Rattle.std.specs.Prelude.{◌≡◌, ℕ, ◌+◌, Bool, true, false, List, [], ◌∷◌, nat_eq, if◌then◌else◌}
use Rattle.std.specs.List.{list_any}
use Rattle.std.specs.Str.{bytes_eq}
use Rattle.maxj_syntax.specs.declared.level.Level.{Level}
use Rattle.maxj_tokens.specs.declared.sign.Sign.{Sign}
use Rattle.maxj_tokens.specs.declared.sign.Sign.TheVariants as S
use Rattle.maxj_syntax.specs.declared.kind.Word.{Word}
use Rattle.maxj_syntax.specs.declared.kind.Word.TheVariants as W
use Rattle.maxj_syntax.specs.declared.kind.Kind.{Kind}
use Rattle.maxj_syntax.specs.declared.kind.Kind.TheVariants as K
use Rattle.maxj_syntax.specs.declared.tree.NodeKind.{NodeKind}
use Rattle.maxj_syntax.specs.declared.tree.NodeKind.TheVariants as N
use Rattle.maxj_syntax.specs.declared.symbol.TokenClass.{TokenClass}
use Rattle.maxj_syntax.specs.declared.symbol.TokenClass.TheVariants as C
use Rattle.maxj_tokens.specs.Tokens.{Token, written, is_among}
use Rattle.maxj_tokens.specs.Reading.{sign_bytes}
use Rattle.maxj_syntax.specs.Kinds.{word_bytes}
use Rattle.maxj_syntax.specs.Productions.{is_name, modifiers, type_words, value_words, assigning_signs, counting_signs, signs_of, IsLiteral}

abbrev pub sign_number : Sign → ℕ
sign_number S.Open = 0
sign_number S.Close = 1
sign_number S.OpenBrace = 2
sign_number S.CloseBrace = 3
sign_number S.OpenBracket = 4
sign_number S.CloseBracket = 5
sign_number S.Semicolon = 6
sign_number S.Comma = 7
sign_number S.Dot = 8
sign_number S.Assign = 9
sign_number S.Plus = 10
sign_number S.Minus = 11
sign_number S.Star = 12
sign_number S.Slash = 13
sign_number S.Percent = 14
sign_number S.And = 15
sign_number S.Or = 16
sign_number S.Xor = 17
sign_number S.Tilde = 18
sign_number S.Not = 19
sign_number S.Question = 20
sign_number S.Colon = 21
sign_number S.Less = 22
sign_number S.Greater = 23
sign_number S.LessEqual = 24
sign_number S.GreaterEqual = 25
sign_number S.Equal = 26
sign_number S.NotEqual = 27
sign_number S.Same = 28
sign_number S.NotSame = 29
sign_number S.ShiftLeft = 30
sign_number S.ShiftRight = 31
sign_number S.AndAnd = 32
sign_number S.OrOr = 33
sign_number S.PlusPlus = 34
sign_number S.MinusMinus = 35
sign_number S.PlusAssign = 36
sign_number S.MinusAssign = 37
sign_number S.StarAssign = 38
sign_number S.Connect = 39

abbrev pub word_number : Word → ℕ
word_number W.Package = 0
word_number W.Import = 1
word_number W.Static = 2
word_number W.Public = 3
word_number W.Private = 4
word_number W.Protected = 5
word_number W.Final = 6
word_number W.Class = 7
word_number W.Extends = 8
word_number W.Void = 9
word_number W.Return = 10
word_number W.If = 11
word_number W.Else = 12
word_number W.While = 13
word_number W.For = 14
word_number W.New = 15
word_number W.This = 16
word_number W.True = 17
word_number W.False = 18
word_number W.Int = 19
word_number W.Boolean = 20
word_number W.Super = 21
word_number W.Kernel = 22
word_number W.CustomManager = 23
word_number W.Memory = 24
word_number W.DFEVar = 25
word_number W.KernelParameters = 26
word_number W.EngineParameters = 27

-- the number of a kind
abbrev pub number : Kind → ℕ
number (K.Sign s) = sign_number s
number (K.Word w) = 40 + word_number w
number K.Name = 68
number K.Whole = 69
number K.Decimal = 70
number K.Str = 71
number K.Other = 72

abbrev pub same : Kind → Kind → Bool
same a b = nat_eq (number a) (number b)

abbrev pub among : Kind → List Kind → Bool
among k ks = list_any (same k) ks

abbrev pub without : Kind → List Kind → List Kind
without k [] = []
without k (j ∷ js) = if same j k then without k js else j ∷ without k js

-- the names, and the words that are names too
abbrev pub names : List Kind
names = K.Name ∷ K.Word W.Kernel ∷ K.Word W.CustomManager ∷ K.Word W.Memory ∷ K.Word W.DFEVar ∷ K.Word W.KernelParameters ∷ K.Word W.EngineParameters ∷ []

abbrev pub operators : Level → List Kind
operators Level.Prefixes = K.Sign S.Minus ∷ K.Sign S.Tilde ∷ K.Sign S.Not ∷ []
operators Level.Products = K.Sign S.Star ∷ K.Sign S.Slash ∷ K.Sign S.Percent ∷ []
operators Level.Sums = K.Sign S.Plus ∷ K.Sign S.Minus ∷ []
operators Level.Shifts = K.Sign S.ShiftLeft ∷ K.Sign S.ShiftRight ∷ []
operators Level.Orders = K.Sign S.Less ∷ K.Sign S.LessEqual ∷ K.Sign S.Greater ∷ K.Sign S.GreaterEqual ∷ []
operators Level.Equalities = K.Sign S.Same ∷ K.Sign S.NotSame ∷ K.Sign S.Equal ∷ K.Sign S.NotEqual ∷ []
operators Level.BitAnds = K.Sign S.And ∷ []
operators Level.BitXors = K.Sign S.Xor ∷ []
operators Level.BitOrs = K.Sign S.Or ∷ []
operators Level.Ands = K.Sign S.AndAnd ∷ []
operators Level.Ors = K.Sign S.OrOr ∷ []

-- the kinds of the tokens of a class
abbrev pub kinds_in : TokenClass → List Kind
kinds_in (C.Sign s) = K.Sign s ∷ []
kinds_in (C.Word w) = K.Word w ∷ []
kinds_in C.Name = names
kinds_in (C.NameBut w) = without (K.Word w) names
kinds_in C.TypeWord = K.Word W.Int ∷ K.Word W.Boolean ∷ []
kinds_in C.Modifier = K.Word W.Public ∷ K.Word W.Private ∷ K.Word W.Protected ∷ K.Word W.Static ∷ K.Word W.Final ∷ []
kinds_in C.ValueWord = K.Word W.This ∷ K.Word W.True ∷ K.Word W.False ∷ []
kinds_in C.Literal = K.Whole ∷ K.Decimal ∷ K.Str ∷ []
kinds_in C.Assigning = K.Sign S.Assign ∷ K.Sign S.PlusAssign ∷ K.Sign S.MinusAssign ∷ K.Sign S.StarAssign ∷ []
kinds_in C.Counting = K.Sign S.PlusPlus ∷ K.Sign S.MinusMinus ∷ []
kinds_in (C.Operator l) = operators l
kinds_in (C.OrderBut s) = without (K.Sign s) (operators Level.Orders)

abbrev pub class_has : TokenClass → Kind → Bool
class_has c k = among k (kinds_in c)

-- the node of a token that is a whole expression
abbrev pub leaf_kind : Token → NodeKind
leaf_kind (Token.Whole w) = N.Whole
leaf_kind (Token.Decimal w) = N.Decimal
leaf_kind (Token.Str w) = N.Str
leaf_kind _ = N.Name

abbrev pub IsWordOf : List (List ℕ) → Token → Type 0
IsWordOf ws t = (t ≡ Token.Word (written t)) × (is_among (written t) ws ≡ true)

abbrev pub IsSignOf : List (List ℕ) → Token → Type 0
IsSignOf ss t = (t ≡ Token.Sign (written t)) × (is_among (written t) ss ≡ true)

abbrev pub IsNameToken : Token → Type 0
IsNameToken t = (t ≡ Token.Word (written t)) × (is_name (written t) ≡ true)

-- the token is of the class
abbrev pub Accepts : TokenClass → Token → Type 0
Accepts (C.Sign s) t = t ≡ Token.Sign (sign_bytes s)
Accepts (C.Word w) t = t ≡ Token.Word (word_bytes w)
Accepts C.Name t = IsNameToken t
Accepts (C.NameBut w) t = IsNameToken t × (bytes_eq (written t) (word_bytes w) ≡ false)
Accepts C.TypeWord t = IsWordOf type_words t
Accepts C.Modifier t = IsWordOf modifiers t
Accepts C.ValueWord t = IsWordOf value_words t
Accepts C.Literal t = IsLiteral (leaf_kind t) (written t) t
Accepts C.Assigning t = IsSignOf assigning_signs t
Accepts C.Counting t = IsSignOf counting_signs t
Accepts (C.Operator l) t = IsSignOf (signs_of l) t
Accepts (C.OrderBut s) t = IsSignOf (signs_of Level.Orders) t × (bytes_eq (written t) (sign_bytes s) ≡ false)
