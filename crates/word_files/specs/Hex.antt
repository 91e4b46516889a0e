-- Words as hexadecimal digits.
use Rattle.std.specs.Prelude.{ℕ, Bool, ◌&&◌, nat_lt, nat_le, List, length, Option, Some, None, if◌then◌else◌}
use Rattle.std.specs.List.{list_all}
use Rattle.grammar.specs.Bytes.{is_hex, hexadecimal}

-- 1 to 32 hexadecimal digits of either case
abbrev pub is_word : List ℕ → Bool
is_word bytes = nat_lt 0 (length bytes) && (nat_le (length bytes) 32 && list_all is_hex bytes)

-- the number that such digits say
abbrev pub word_of : List ℕ → Option ℕ
word_of bytes = if is_word bytes then Some (hexadecimal bytes) else None
