-- The line that a refusal says.
use Rattle.std.specs.Prelude.{ℕ, List, [], ◌∷◌, ◌++◌, codes}
use Rattle.std.specs.List.{flat_map}
use Rattle.std.specs.Fmt.{decimal}
use Rattle.refusal_line.specs.declared.line.Value.{Value}
use Rattle.refusal_line.specs.declared.line.Value.TheVariants.{Name, Names, Number}

-- a word with a blank before it
abbrev pub after_blank : List ℕ → List ℕ
after_blank word = 32 ∷ word

-- `refused`, the code, each word after a blank, and the line's end
abbrev pub refused : List ℕ → List (List ℕ) → List ℕ
refused code words = codes "refused " ++ code ++ flat_map after_blank words ++ 10 ∷ []

-- the words of a value: a name as it is, a number in decimal digits
abbrev pub words_of : Value → List (List ℕ)
words_of (Name name) = name.now ∷ []
words_of (Names names) = names.now
words_of (Number number) = decimal number ∷ []
