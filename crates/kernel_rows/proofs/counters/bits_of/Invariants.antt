-- The bits so far, and those of the digits that are left, are those of all digits.
use Rattle.std.proofs.Common.{◌≡◌, ◌+◌, drop}
use Rattle.kernel_meaning.specs.LibraryRows as Rows
use Rattle.kernel_rows.proofs.counters.bits_of.Given as goal

abbrev pub invariant-loop-digit : goal.invariant-loop-digit
invariant-loop-digit l =
    l.bits + Rows.bits_of (drop l.digit-index l.digits) l.chain ≡ Rows.bits_of l.digits l.chain
