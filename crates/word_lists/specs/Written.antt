-- The lines of written words, one a line.
use Rattle.std.specs.Prelude.{ℕ, ◌<◌, ◌^◌, List, [], ◌∷◌, ◌++◌, All, IfSome, replicate, Option, Some, None}
use Rattle.std.specs.List.{flat_map}
use Rattle.word_files.specs.Written.{lower_digits, digit_count}

-- the digits of a word of a width in lower case, or as many `x` where it is undefined
abbrev pub word_digits : ℕ → Option ℕ → List ℕ
word_digits width (Some bits) = lower_digits (digit_count width) bits
word_digits width None = replicate (digit_count width) 120

-- its line, which LF ends
abbrev pub word_line : ℕ → Option ℕ → List ℕ
word_line width word = word_digits width word ++ 10 ∷ []

-- the lines of words, one after another
abbrev pub word_lines : ℕ → List (Option ℕ) → List ℕ
word_lines width words = flat_map (word_line width) words

-- words of a width, some of which may be undefined
abbrev pub HaveWidth : ℕ → List (Option ℕ) → Type 0
HaveWidth width words = All (λ word. IfSome word (λ bits. bits < 2 ^ width)) words
