-- The bytes ahead, one after another.
use Rattle.std.proofs.Common.{◌≡◌, ℕ, ◌<◌, ◌+◌, List, get_or, take, drop, sym, ap, ◌∙◌, arith}
use Rattle.std.proofs.lemmas.List.{get_or-take, get_or-drop, drop-take, drop-drop}

-- the first of n bytes from a place on
first_of_some : (xs : List ℕ) (i n d : ℕ) → 0 < n → get_or (take n (drop i xs)) 0 d ≡ get_or xs i d
first_of_some xs i n d h = get_or-take n (drop i xs) 0 d h ∙ get_or-drop i xs 0 d ∙ ap (λ k. get_or xs k d) (omega arith)

-- the first byte ahead is the file's
pub ahead_first : (buf file : List ℕ) (i p n d : ℕ) → take n (drop i buf) ≡ take n (drop p file) → 0 < n → get_or buf i d ≡ get_or file p d
ahead_first buf file i p n d e h = sym (first_of_some buf i n d h) ∙ ap (λ xs. get_or xs 0 d) e ∙ first_of_some file p n d h

-- n bytes from the next place on
rest_of_some : (xs : List ℕ) (i n : ℕ) → drop 1 (take (1 + n) (drop i xs)) ≡ take n (drop (i + 1) xs)
rest_of_some xs i n = drop-take 1 n (drop i xs) ∙ ap (take n) (drop-drop 1 i xs)

-- so are those after it
pub ahead_rest : (buf file : List ℕ) (i p n : ℕ) → take (1 + n) (drop i buf) ≡ take (1 + n) (drop p file) → take n (drop (i + 1) buf) ≡ take n (drop (p + 1) file)
ahead_rest buf file i p n e = sym (rest_of_some buf i n) ∙ ap (drop 1) e ∙ rest_of_some file p n
