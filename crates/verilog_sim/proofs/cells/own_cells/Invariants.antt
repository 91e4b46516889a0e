use Rattle.std.proofs.Common.{◌≡◌, ◌+◌, ◌-◌, ◌^◌, min, take, length}
use Rattle.std.specs.Prelude.{sum_by}
use Rattle.rtl_ir.specs.declared.design.Mem.{Mem}
use Rattle.verilog_sim.proofs.cells.own_cells.Given as goal

abbrev pub invariant-loop-memory : goal.invariant-loop-memory
invariant-loop-memory l = l.cells ≡ min (length l.module.nets + sum_by (λ (x : Mem). x.depth) (take l.memory-index l.memory-items)) (2 ^ 64 - 1)
