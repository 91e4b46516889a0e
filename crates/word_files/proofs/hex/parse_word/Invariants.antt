use Rattle.std.proofs.Common.{◌≡◌, ◌<◌, ◌^◌, drop}
use Rattle.std.specs.List.{list_all}
use Rattle.grammar.specs.Bytes.{is_hex, digits_value}
use Rattle.word_files.proofs.hex.parse_word.Given as goal

-- the digits left say with the value so far what all say
abbrev pub invariant-loop-byte : goal.invariant-loop-byte
invariant-loop-byte l = record {
  value : digits_value 16 l.value (drop l.byte-index l.bytes) ≡ digits_value 16 0 l.bytes;
  digits : list_all is_hex (drop l.byte-index l.bytes) ≡ list_all is_hex l.bytes;
  below : l.value < 16 ^ l.byte-index;
}
