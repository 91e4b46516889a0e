use Rattle.std.proofs.Common.{◌≡◌, ◌≤◌, ◌-◌, ◌++◌, length, take, drop}
use Rattle.word_files.specs.Written.{lower_digits}
use Rattle.word_files.proofs.digits.lower_hex.Given as goal

-- the digits of the rest before those that stand are the number's
abbrev pub invariant-loop-place : goal.invariant-loop-place
invariant-loop-place l = record {
  within : l.place ≤ l.count;
  size : length l.line ≡ 33;
  digits : lower_digits l.count l.value ≡ lower_digits l.place l.rest ++ take (l.count - l.place) (drop l.place l.line);
}

abbrev pub decreases-loop-place : goal.decreases-loop-place
decreases-loop-place l = l.place
