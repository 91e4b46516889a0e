use Rattle.std.proofs.Common.{◌≡◌, ◌<◌, ◌≤◌, ℕ, Some}
use Rattle.std.specs.Prelude.{slice_get}
use Rattle.rtl_ir.specs.Value.{width_of}
use Rattle.rtl_ir.specs.Operands.{reads}
use Rattle.verilog_sim.proofs.compile.is_narrow.Given as goal

abbrev pub invariant-loop-net : goal.invariant-loop-net
invariant-loop-net l = (j n : ℕ) → j < l.net-index → slice_get (reads l.assign.expr) j ≡ Some n → width_of l.«module» n ≤ 64
