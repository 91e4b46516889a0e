use Rattle.std.proofs.Common.{◌≡◌, ◌<◌, ℕ, true, length, Some}
use Rattle.std.specs.Prelude.{slice_get}
use Rattle.rtl_ir.specs.declared.design.Port.{Port}
use Rattle.verilog_sim.specs.Feeding.{is_marked}
use Rattle.verilog_sim.proofs.order.mark_ports.Given as goal

abbrev pub invariant-loop-port : goal.invariant-loop-port
invariant-loop-port l =
    (length l.marks ≡ length l.fn.marks)
    × ((n : ℕ) → is_marked l.fn.marks n ≡ true → is_marked l.marks n ≡ true)
    × ((j : ℕ) (p : Port) → j < l.port-index → slice_get l.ports j ≡ Some p → is_marked l.marks p.net ≡ true)
