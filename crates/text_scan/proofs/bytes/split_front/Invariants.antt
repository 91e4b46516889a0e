use Rattle.std.proofs.Common.{◌≡◌, ◌-◌, ◌≤◌, length, take, true}
use Rattle.std.specs.List.{list_all}
use Rattle.text_scan.specs.Classes.{is_in}
use Rattle.text_scan.proofs.bytes.split_front.Given as goal

-- all bytes so far are of the class
abbrev pub invariant-loop-length : goal.invariant-loop-length
invariant-loop-length l = record {
  within : l.length ≤ length l.text;
  front : list_all (is_in l.class) (take l.length l.text) ≡ true;
}

abbrev pub decreases-loop-length : goal.decreases-loop-length
decreases-loop-length l = length l.text - l.length
