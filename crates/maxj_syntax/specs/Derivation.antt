-- What the productions of a source derive. A choice may speak of the span of the tokens that it derives.
use Rattle.std.specs.Prelude.{List, [], ◌∷◌, ◌++◌}

pub data Derives {P T S : Type 0} (span : List T → S) (Is : P → T → Type 0) (Choice : S → P → List P → Type 0) : List P → List T → Type 0 where
  none : Derives span Is Choice [] []
  token : {p : P} {t : T} {ps : List P} {ts : List T} → Is p t → Derives span Is Choice ps ts → Derives span Is Choice (p ∷ ps) (t ∷ ts)
  choice : {p : P} {qs ps : List P} {front back : List T} → Choice (span front) p qs
      → Derives span Is Choice qs front → Derives span Is Choice ps back
      → Derives span Is Choice (p ∷ ps) (front ++ back)
