-- The classes of bytes of the scanners.
use Rattle.std.specs.Prelude.{◌≡◌, ℕ, Bool, false, not, ◌||◌, ◌&&◌, ◌==◌, List, [], ◌∷◌}
use Rattle.grammar.specs.Bytes.{is_between, is_letter, is_digit, is_hex}
use Rattle.text_scan.specs.declared.bytes.ByteClass.{ByteClass}
use Rattle.text_scan.specs.declared.bytes.ByteClass.TheVariants.{Word, WordOrDollar, Digit, Hex, NotLineFeed, NotApostrophe, Quotable}

-- a letter or `_`
abbrev pub begins_name : ℕ → Bool
begins_name b = is_letter b || b == 95

abbrev pub is_in : ByteClass → ℕ → Bool
is_in Word b = is_letter b || (is_digit b || b == 95)
is_in WordOrDollar b = begins_name b || is_digit b || b == 36
is_in Digit b = is_digit b
is_in Hex b = is_hex b
is_in NotLineFeed b = not (b == 10)
is_in NotApostrophe b = not (b == 39)
is_in Quotable b = is_between 32 126 b && (not (b == 34) && not (b == 92))

-- the text is empty or begins with a byte that is not of the class
abbrev pub BeginsOutside : ByteClass → List ℕ → Type 0
BeginsOutside class [] = Unit {0}
BeginsOutside class (b ∷ bs) = is_in class b ≡ false
