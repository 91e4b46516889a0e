use Rattle.std.proofs.Common.{◌≡◌, ℕ, ◌+◌, ◌-◌, ◌^◌, List, min, map, take, get_or}
use Rattle.std.specs.Prelude.{sum_by}
use Rattle.rtl_ir.specs.declared.design.Instance.{Instance}
use Rattle.verilog_sim.specs.Start.{cells_of}
use Rattle.verilog_sim.proofs.cells.with_instances.Given as goal

abbrev pub invariant-loop-instance : goal.invariant-loop-instance
invariant-loop-instance l = (all : List ℕ) → l.cells ≡ map (λ n. min n (2 ^ 64 - 1)) all
    → l.count ≡ min (cells_of l.«module» + sum_by (λ (i : Instance). get_or all i.«module» 0)
    (take l.instance-index l.instance-items)) (2 ^ 64 - 1)
