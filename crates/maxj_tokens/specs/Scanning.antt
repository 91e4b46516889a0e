-- The tokens of a source with their places, and the first fault of its bytes.
use Rattle.std.specs.Prelude.{◌≡◌, ℕ, ◌+◌, Bool, true, false, not, ◌&&◌, ◌||◌, nat_le, List, [], ◌∷◌, ◌++◌, length}
use Rattle.grammar.specs.Tokens.{IsNext, Reads, Gaps, is_blank}
use Rattle.mx_base.specs.declared.span.Span.{Span}
use Rattle.text_scan.specs.Places as places
use Rattle.text_scan.specs.Gaps.{BeginsNoGap}
use Rattle.maxj_tokens.specs.Tokens.{Token, written, token_of, OpensNone, Apart, is_followed}

-- a token, and the number of bytes before it
abbrev pub PlacedToken : Type 0
PlacedToken = places.PlacedToken Token

-- the first of these bytes, which have the place n, are these tokens, and the rest is left
abbrev pub ReadsAt : ℕ → List ℕ → List PlacedToken → List ℕ → Type 0
ReadsAt n bytes ts left = places.ReadsAt token_of Apart n bytes ts left

-- the bytes are these tokens at these places
abbrev pub AreTokens : List ℕ → List PlacedToken → Type 0
AreTokens bytes ts = ReadsAt 0 bytes ts []

abbrev pub from_of : List PlacedToken → ℕ
from_of [] = 0
from_of (t ∷ ts) = t.place

abbrev pub to_of : List PlacedToken → ℕ
to_of [] = 0
to_of (t ∷ []) = t.place + length (written t.token)
to_of (t ∷ u ∷ ts) = to_of (u ∷ ts)

-- from the first token's begin to the last token's end
abbrev pub span_of : List PlacedToken → Span
span_of ts = record { from = from_of ts; to = to_of ts }

-- the text begins with no token, whatever follows it
abbrev pub BeginsNoToken : List ℕ → Type 0
BeginsNoToken text = (word rest : List ℕ) (t : Token) → text ≡ word ++ rest → IsNext Gaps token_of OpensNone word rest t → ⊥

-- the text goes on, but with no token and no gap
pub record IsStuck (text : List ℕ) : Type 0 where
  pub some : text ≡ [] → ⊥
  pub no_gap : BeginsNoGap text
  pub no_token : BeginsNoToken text

-- a number stands at the front that a digit, a letter or `_` follows directly
pub record IsFollowed (text number rest : List ℕ) : Type 0 where
  pub token : Token
  pub split : text ≡ number ++ rest
  pub next : IsNext Gaps token_of OpensNone number rest token
  pub followed : is_followed token rest ≡ true

-- the tokens of a text are read up to here, and here, at the begin of what is left, they have their first fault
pub data IsFault : List ℕ → List ℕ → Type 0 where
  stuck : {text : List ℕ} → IsStuck text → IsFault text text
  followed : {text rest : List ℕ} (number : List ℕ) → IsFollowed text number rest → IsFault text rest

-- the place of the first fault of the bytes, and what is left there
pub record HasFault (bytes : List ℕ) (place : ℕ) (left : List ℕ) : Type 0 where
  pub before : List ℕ
  pub split : bytes ≡ before ++ left
  pub at : length before ≡ place
  pub tokens : List Token
  pub rest : List ℕ
  pub read : Reads Gaps token_of Apart bytes tokens rest
  pub fault : IsFault rest left

-- a byte that stands in no source outside comments: above 126, or a control byte that is no white space
abbrev pub is_stray : ℕ → Bool
is_stray b = not (nat_le b 126) || (not (nat_le 32 b) && not (is_blank b))

abbrev pub begins_stray : List ℕ → Bool
begins_stray [] = false
begins_stray (b ∷ bs) = is_stray b

-- the first fault is such a byte
abbrev pub HasStrayByte : List ℕ → ℕ → Type 0
HasStrayByte bytes place = (left : List ℕ) × HasFault bytes place left × (begins_stray left ≡ true)

-- the first fault is another: no token begins there, a comment or string that begins there doesn't end, or a number goes on there
abbrev pub HasNoToken : List ℕ → ℕ → Type 0
HasNoToken bytes place = (left : List ℕ) × HasFault bytes place left × (begins_stray left ≡ false)
