-- Words in two halves of 64 bits.
use Rattle.std.specs.Prelude.{ℕ, ◌+◌, ◌*◌, ◌^◌, List, [], ◌∷◌}

-- the words of which these are the low and the high 64 bits
abbrev pub words : List ℕ → List ℕ → List ℕ
words [] high = []
words (x ∷ low) [] = []
words (x ∷ low) (y ∷ high) = (x + y * 2 ^ 64) ∷ words low high
