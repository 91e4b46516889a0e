-- How a text of bytes falls into tokens. Places are byte places from 0.
-- Skips gap rest says that the gap may be passed over where the rest follows it. token_of gives the token that a word is, if
-- it is one. Apart t rest says that the rest may follow the token t directly.
use Rattle.std.specs.Prelude.{◌≡◌, ◌⊎◌, ◌==◌, ◌||◌, ℕ, Bool, true, List, [], ◌∷◌, ◌++◌, Option, Some, IsSome, Contains}

-- a word is the longest that is a token here, nothing is passed over here, and the rest may follow
pub record IsNext {T : Type 0} (Skips : List ℕ → List ℕ → Type 0) (token_of : List ℕ
    → Option T) (Apart : T → List ℕ → Type 0) (word rest : List ℕ) (t : T) : Type 0 where
  pub is : token_of word ≡ Some t
  pub longest : (more back : List ℕ) → rest ≡ more ++ back → IsSome (token_of (word ++ more)) → more ≡ []
  pub begins : (gap back : List ℕ) → word ++ rest ≡ gap ++ back → Skips gap back → ⊥
  pub apart : Apart t rest

-- the first of these bytes are the tokens ts, and the rest is left
pub data Reads {T : Type 0} (Skips : List ℕ → List ℕ → Type 0) (token_of : List ℕ
    → Option T) (Apart : T → List ℕ → Type 0) : List ℕ → List T → List ℕ → Type 0 where
  end : {bytes : List ℕ} → Reads Skips token_of Apart bytes [] bytes
  skip : {rest left : List ℕ} {ts : List T} (gap : List ℕ) → Skips gap rest
      → Reads Skips token_of Apart rest ts left → Reads Skips token_of Apart (gap ++ rest) ts left
  token : {rest left : List ℕ} {t : T} {ts : List T} (word : List ℕ)
      → IsNext Skips token_of Apart word rest t → Reads Skips token_of Apart rest ts left
      → Reads Skips token_of Apart (word ++ rest) (t ∷ ts) left

-- all of the bytes are the tokens ts
abbrev pub IsText : {T : Type 0} → (List ℕ → List ℕ → Type 0) → (List ℕ → Option T) → (T → List ℕ → Type 0) → List ℕ → List T → Type 0
IsText Skips token_of Apart bytes ts = Reads Skips token_of Apart bytes ts []

-- blank, tab, line feed, form feed, carriage return
abbrev pub is_blank : ℕ → Bool
is_blank b = b == 32 || (b == 9 || (b == 10 || (b == 12 || b == 13)))

-- the end of the text or a line feed
abbrev pub EndsLine : List ℕ → Type 0
EndsLine rest = (rest ≡ []) ⊎ ((back : List ℕ) × (rest ≡ 10 ∷ back))

-- these bytes hold no `*/`
abbrev pub HasNoClose : List ℕ → Type 0
HasNoClose text = (before after : List ℕ) → text ≡ before ++ 42 ∷ 47 ∷ after → ⊥

-- white space and comments: `//` to the end of its line, and `/*` to the next `*/`
pub data Gaps : List ℕ → List ℕ → Type 0 where
  blank : {rest : List ℕ} (b : ℕ) → is_blank b ≡ true → Gaps (b ∷ []) rest
  line : {rest : List ℕ} (text : List ℕ) → (Contains text 10 → ⊥) → EndsLine rest → Gaps (47 ∷ 47 ∷ text) rest
  block : {rest : List ℕ} (text : List ℕ) → HasNoClose (text ++ 42 ∷ []) → Gaps (47 ∷ 42 ∷ text ++ 42 ∷ 47 ∷ []) rest
