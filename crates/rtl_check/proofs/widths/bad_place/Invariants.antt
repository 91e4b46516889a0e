use Rattle.std.proofs.Common.{◌≡◌, ◌<◌, ℕ, Some}
use Rattle.std.specs.Prelude.{slice_get}
use Rattle.rtl_ir.specs.declared.design.Design.{Design}
use Rattle.rtl_ir.specs.Value.{width_of}
use Rattle.rtl_ir.specs.Rules.{Connection}
use Rattle.rtl_check.proofs.widths.bad_place.Given as goal

abbrev pub invariant-loop-place : goal.invariant-loop-place
invariant-loop-place l =
    (d : Design) (k : ℕ)
    → slice_get l.module.instances k ≡ Some l.instance
    → slice_get d.modules l.instance.module ≡ Some l.inner
    → (j : ℕ) (e : Connection d l.module k j)
    → j < l.place
    → width_of e.inner e.port.net ≡ width_of l.module e.net
