-- Names: the simple identifiers of IEEE 1364-2005, 3.7, less a short list of reserved words.
use Rattle.std.specs.Prelude.{ℕ, List, [], ◌∷◌, Bool, false, not, ◌&&◌, ◌||◌, nat_eq, nat_le, codes, bytes_eq}
use Rattle.std.specs.List.{list_all, list_any}

-- whether a byte is a letter of ASCII
abbrev pub is_letter : ℕ → Bool
is_letter b = (nat_le 65 b && nat_le b 90) || (nat_le 97 b && nat_le b 122)

-- whether a byte is a digit of ASCII
abbrev pub is_digit : ℕ → Bool
is_digit b = nat_le 48 b && nat_le b 57

-- whether a name may begin with a byte: a letter or '_'
abbrev pub begins_name : ℕ → Bool
begins_name b = is_letter b || nat_eq b 95

-- whether a byte may follow in a name: a letter, a digit, '_' or '$'
abbrev pub continues_name : ℕ → Bool
continues_name b = begins_name b || is_digit b || nat_eq b 36

-- the words that are no names
abbrev pub reserved_words : List (List ℕ)
reserved_words =
    codes "module" ∷ codes "endmodule" ∷ codes "input" ∷ codes "output" ∷ codes "wire" ∷ codes "reg" ∷ codes "assign"
    ∷ codes "always" ∷ codes "posedge" ∷ codes "begin" ∷ codes "end" ∷ codes "if" ∷ []

abbrev pub is_reserved : List ℕ → Bool
is_reserved text = list_any (bytes_eq text) reserved_words

-- whether a text is a name
abbrev pub is_name : List ℕ → Bool
is_name [] = false
is_name (b ∷ bs) = begins_name b && list_all continues_name bs && not (is_reserved (b ∷ bs))
