use Rattle.std.proofs.Common.{◌≡◌, ◌<◌, ◌+◌, ◌*◌, ◌^◌}
use Rattle.fix_arith.proofs.literals.long_division.Given as goal

abbrev pub invariant-loop-done : goal.invariant-loop-done
invariant-loop-done l = record {
  below : l.quotient.left < l.divisor;
  sum : l.digits * 2 ^ l._done ≡ l.quotient.whole * l.divisor + l.quotient.left;
}
