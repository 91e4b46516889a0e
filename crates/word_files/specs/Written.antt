-- Writing files of words.
use Rattle.std.specs.Prelude.{ℕ, zero, suc, ◌≡◌, ◌⊎◌, ◌+◌, ◌/◌, ◌%◌, nat_lt, List, [], ◌∷◌, ◌++◌, replicate, Option, Some, None, if◌then◌else◌}
use Rattle.mx_bits.specs.declared.word.Word.{Word}

-- a hexadecimal digit in lower case
abbrev pub lower_digit : ℕ → ℕ
lower_digit value = if nat_lt value 10 then 48 + value else 87 + value

-- so many digits of a number, the low ones
abbrev pub lower_digits : ℕ → ℕ → List ℕ
lower_digits zero value = []
lower_digits (suc n) value = lower_digits n (value / 16) ++ lower_digit (value % 16) ∷ []

-- a word of a width has so many digits
abbrev pub digit_count : ℕ → ℕ
digit_count width = (width + 3) / 4

-- the digits of a word, or as many `x` where it is undefined
abbrev pub digits_of : ℕ → Option Word → List ℕ
digits_of width (Some word) = lower_digits (digit_count width) word.bits
digits_of width None = replicate (digit_count width) 120

-- its line, which LF ends
abbrev pub line_of : ℕ → Option Word → List ℕ
line_of width word = digits_of width word ++ 10 ∷ []

-- a line is put: it waits behind the lines that wait, or all of them now stand at the end of the file
abbrev pub Puts : List ℕ → List ℕ → List ℕ → List ℕ → List ℕ → Type 0
Puts file waiting line new_file new_waiting =
    ((new_file ≡ file) × (new_waiting ≡ waiting ++ line))
    ⊎ ((new_file ≡ file ++ (waiting ++ line)) × (new_waiting ≡ []))
