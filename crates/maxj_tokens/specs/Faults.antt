-- The faults of the tokens of a source: the first one that is out of profile, that stands too deep or too far.
use Rattle.std.specs.Prelude.{◌≡◌, ◌⊎◌, ◌≤◌, ◌<◌, ◌+◌, ◌^◌, ℕ, Bool, true, false, List, [], ◌∷◌, ◌++◌, length, drop, if◌then◌else◌, codes}
use Rattle.std.specs.List.{list_any, before_first}
use Rattle.grammar.specs.Bytes.{decimal_value, hexadecimal}
use Rattle.maxj_tokens.specs.Tokens.{Token, is_among, is_hex_integer, is_suffix}
use Rattle.maxj_tokens.specs.Scanning.{PlacedToken}

-- the place is that of the first token that is faulty after those before it
pub record IsFirst (Faulty : List PlacedToken → PlacedToken → Type 0) (tokens : List PlacedToken) (place : ℕ) : Type 0 where
  pub before : List PlacedToken
  pub token : PlacedToken
  pub behind : List PlacedToken
  pub split : tokens ≡ before ++ token ∷ behind
  pub faulty : Faulty before token
  pub first : (earlier : List PlacedToken) (other : PlacedToken) (later : List PlacedToken) → before ≡ earlier ++ other ∷ later → Faulty earlier other → ⊥
  pub at : place ≡ token.place

-- no token is
abbrev pub HasNone : (List PlacedToken → PlacedToken → Type 0) → List PlacedToken → Type 0
HasNone Faulty tokens = (before : List PlacedToken) (token : PlacedToken)
    (behind : List PlacedToken) → tokens ≡ before ++ token ∷ behind → Faulty before token → ⊥

-- tokens out of profile

-- the words of Java that no source uses
abbrev pub foreign_words : List (List ℕ)
foreign_words =
    codes "break" ∷ codes "continue" ∷ codes "do" ∷ codes "switch" ∷ codes "case"
    ∷ codes "default" ∷ codes "try" ∷ codes "catch" ∷ codes "finally" ∷ codes "throw"
    ∷ codes "throws"
    ∷ codes "interface" ∷ codes "enum" ∷ codes "implements" ∷ codes "abstract"
    ∷ codes "synchronized" ∷ codes "instanceof" ∷ codes "double" ∷ codes "float" ∷ codes "long"
    ∷ codes "byte" ∷ codes "short" ∷ codes "char" ∷ codes "null" ∷ codes "volatile" ∷ codes "native" ∷ codes "assert" ∷ codes "goto" ∷ []

-- the number that an integer says
abbrev pub integer_value : List ℕ → ℕ
integer_value word = let plain = before_first is_suffix word in if is_hex_integer plain then hexadecimal (drop 2 plain) else decimal_value plain

-- a word that no source uses, an integer above 2^128 - 1, or a decimal of more than 30 digits
abbrev pub IsForeign : Token → Type 0
IsForeign (Token.Word w) = is_among w foreign_words ≡ true
IsForeign (Token.Whole w) = 2 ^ 128 ≤ integer_value w
IsForeign (Token.Decimal w) = 30 + 1 < length w
IsForeign _ = ⊥

abbrev pub IsOutside : List PlacedToken → PlacedToken → Type 0
IsOutside before t = IsForeign t.token

-- tokens that stand too deep or too far

abbrev pub is_sign_of : List (List ℕ) → Token → Bool
is_sign_of ss (Token.Sign s) = is_among s ss
is_sign_of ss _ = false

abbrev pub is_opening : PlacedToken → Bool
is_opening t = is_sign_of (codes "(" ∷ codes "[" ∷ codes "{" ∷ []) t.token

abbrev pub is_closing : PlacedToken → Bool
is_closing t = is_sign_of (codes ")" ∷ codes "]" ∷ codes "}" ∷ []) t.token

abbrev pub is_break : PlacedToken → Bool
is_break t = is_sign_of (codes ";" ∷ codes "{" ∷ codes "}" ∷ []) t.token

-- how many of the tokens are such
abbrev pub count_of : (PlacedToken → Bool) → List PlacedToken → ℕ
count_of is [] = 0
count_of is (t ∷ ts) = if is t then 1 + count_of is ts else count_of is ts

-- up to and with the token, over 200 more signs open than close
abbrev pub IsTooDeep : List PlacedToken → PlacedToken → Type 0
IsTooDeep before t = count_of is_closing (before ++ t ∷ []) + 200 < count_of is_opening (before ++ t ∷ [])

-- the token is a `;`, `{` or `}`, and over 2000 others stand between it and the one before
pub record IsTooFar (before : List PlacedToken) (t : PlacedToken) : Type 0 where
  pub earlier : List PlacedToken
  pub last : PlacedToken
  pub between : List PlacedToken
  pub split : before ≡ earlier ++ last ∷ between
  pub broken : is_break last ≡ true
  pub unbroken : list_any is_break between ≡ false
  pub long : 2000 < length between
  pub breaks : is_break t ≡ true

abbrev pub IsExcess : List PlacedToken → PlacedToken → Type 0
IsExcess before t = IsTooDeep before t ⊎ IsTooFar before t
