-- What completes the beginning of a part.
use Rattle.std.specs.Prelude.{List, [], ◌∷◌, ◌++◌}
use Rattle.grammar.specs.Grammar.{Derives}

-- each part has a whole list of tokens
abbrev pub IsProductive : {P T : Type 0} → (P → T → Type 0) → (P → List P → Type 0) → Type 0
IsProductive {P} {T} Is Choice = (p : P) → (ts : List T) × Derives Is Choice (p ∷ []) ts

-- some further tokens make these a whole list of the part
abbrev pub IsCompleted : {P T : Type 0} → (P → T → Type 0) → (P → List P → Type 0) → P → List T → Type 0
IsCompleted {P} {T} Is Choice p ts = (more : List T) × Derives Is Choice (p ∷ []) (ts ++ more)
