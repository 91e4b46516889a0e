-- The lines of a file.
use Rattle.std.specs.Prelude.{ℕ, ◌≡◌, ◌==◌, ◌⊎◌, List, [], ◌∷◌, ◌++◌, length, take, drop, if◌then◌else◌, Option, Some, None}

-- the lines of bytes that go on with a line that is begun
abbrev pub lines_from : List ℕ → List ℕ → List (List ℕ)
lines_from begun [] = if length begun == 0 then [] else begun ∷ []
lines_from begun (b ∷ bs) = if b == 10 then begun ∷ lines_from [] bs else lines_from (begun ++ b ∷ []) bs

-- the lines of a file: each is ended by LF, which the last one may lack
abbrev pub lines_of : List ℕ → List (List ℕ)
lines_of file = lines_from [] file

-- one line taken into a piece of 33 bytes; 33 bytes are the begin of a longer line, of which no more is taken
abbrev pub IsLineTaken : List ℕ → ℕ → ℕ → List ℕ → Option ℕ → Type 0
IsLineTaken file old new piece None = lines_from [] (drop old file) ≡ []
IsLineTaken file old new piece (Some n) =
    (lines_from [] (drop old file) ≡ take n piece ∷ lines_from [] (drop new file))
    ⊎ ((n ≡ 33) × ((more : List ℕ) × (others : List (List ℕ)) × (lines_from [] (drop old file) ≡ (take n piece ++ more) ∷ others)))
