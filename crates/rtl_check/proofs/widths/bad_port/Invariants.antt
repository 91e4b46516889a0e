use Rattle.std.proofs.Common.{◌≡◌, ◌<◌, ℕ}
use Rattle.rtl_ir.specs.Value.{width_of}
use Rattle.rtl_ir.specs.Rules.{Connection}
use Rattle.rtl_check.proofs.widths.bad_port.Given as goal

abbrev pub invariant-loop-number : goal.invariant-loop-number
invariant-loop-number l =
    (k j : ℕ) (e : Connection l.design l.module k j) → k < l.number → width_of e.inner e.port.net ≡ width_of l.module e.net
