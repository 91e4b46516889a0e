-- Texts that are read token by token, with the places of the tokens. token_of and Apart are those of a language
-- (grammar/specs/Tokens.antt).
use Rattle.std.specs.Prelude.{ℕ, ◌+◌, List, [], ◌∷◌, ◌++◌, Option, length}
use Rattle.grammar.specs.Tokens.{IsNext, Gaps}

-- a token, and the number of bytes before it
pub record PlacedToken (T : Type 0) : Type 0 where
  pub token : T
  pub place : ℕ

-- the first of these bytes, which have the place n, are these tokens, and the rest is left
pub data ReadsAt {T : Type 0} (token_of : List ℕ → Option T) (Apart : T → List ℕ → Type 0) : ℕ → List ℕ → List (PlacedToken T) → List ℕ → Type 0 where
  end : {n : ℕ} {bytes : List ℕ} → ReadsAt token_of Apart n bytes [] bytes
  skip : {n : ℕ} {rest left : List ℕ} {ts : List (PlacedToken T)} (gap : List ℕ) → Gaps gap rest
      → ReadsAt token_of Apart (n + length gap) rest ts left
      → ReadsAt token_of Apart n (gap ++ rest) ts left
  token : {n : ℕ} {rest left : List ℕ} {t : T} {ts : List (PlacedToken T)} (word : List ℕ)
      → IsNext Gaps token_of Apart word rest t
      → ReadsAt token_of Apart (n + length word) rest ts left
      → ReadsAt token_of Apart n (word ++ rest) (record { token = t; place = n } ∷ ts) left
