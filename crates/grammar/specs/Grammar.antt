-- What a grammar derives, and what begins one of its parts. A grammar has parts of a type P and tokens of a type T.
-- Is p t says that the part p is a token and that t is such a one. Choice p qs says that the part p is a production
-- and that the parts qs are one of its choices. A part may carry the tree that it is read as.
use Rattle.std.specs.Prelude.{ℕ, ◌+◌, ◌<◌, ◌≤◌, List, [], ◌∷◌, ◌++◌, length, take}

-- the tokens are a whole list of the parts, one part after the other
pub data Derives {P T : Type 0} (Is : P → T → Type 0) (Choice : P → List P → Type 0) : List P → List T → Type 0 where
  none : Derives Is Choice [] []
  token : {p : P} {t : T} {ps : List P} {ts : List T} → Is p t → Derives Is Choice ps ts → Derives Is Choice (p ∷ ps) (t ∷ ts)
  choice : {p : P} {qs ps : List P} {front back : List T} → Choice p qs
      → Derives Is Choice qs front → Derives Is Choice ps back
      → Derives Is Choice (p ∷ ps) (front ++ back)

-- the tokens begin the part: they are none, or the token that the part is, or, for one choice of the part, whole lists of
-- the choice's first parts and then what begins the next part
pub data Begins {P T : Type 0} (Is : P → T → Type 0) (Choice : P → List P → Type 0) : P → List T → Type 0 where
  none : {p : P} → Begins Is Choice p []
  token : {p : P} {t : T} → Is p t → Begins Is Choice p (t ∷ [])
  choice : {p q : P} {first : List P} (rest : List P) {front back : List T}
      → Choice p (first ++ q ∷ rest) → Derives Is Choice first front → Begins Is Choice q back
      → Begins Is Choice p (front ++ back)

-- The token at this place is the first with which the tokens begin none of the parts that may stand first. Where the place
-- is the end of the tokens, they are no whole list of one.
pub record FirstBad {P T : Type 0} (Is : P → T → Type 0) (Choice : P → List P → Type 0) (Starts : P → Type 0) (ts : List T) (place : ℕ) : Type 0 where
  pub within : place ≤ length ts
  pub start : P
  pub starts : Starts start
  pub begun : Begins Is Choice start (take place ts)
  pub bad : place < length ts → (p : P) → Starts p → Begins Is Choice p (take (place + 1) ts) → ⊥
  pub none : (p : P) → Starts p → Derives Is Choice (p ∷ []) ts → ⊥
