use Rattle.std.proofs.Common.{◌≡◌, Some, get_or, []}
use Rattle.std.specs.Prelude.{sum_by}
use Rattle.rtl_ir.specs.declared.design.Instance.{Instance}
use Rattle.rtl_ir.specs.declared.design.Module.{Module}
use Rattle.rtl_ir.specs.Flat.{top_of}
use Rattle.verilog_sim.specs.Start.{cells_after}
use Rattle.verilog_sim.proofs.Flattened.{AreFlattened}
use Rattle.verilog_sim.proofs.flatten.add_design.Given as goal

abbrev pub invariant-loop-instance : goal.invariant-loop-instance
invariant-loop-instance l = (top : Module) → top_of l.design ≡ Some top → AreFlattened l.design top l.parts l.scopes.items

-- the cells of all instances that have not yet become parts
abbrev pub decreases-loop-instance : goal.decreases-loop-instance
decreases-loop-instance l = sum_by (λ (i : Instance). get_or (cells_after [] l.design.modules) i.«module» 0) l.parts.instances.items
