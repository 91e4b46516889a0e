-- A design made flat: the instances of its top module become parts of it, one after another.
use Rattle.std.specs.Prelude.{List}
use Rattle.rtl_ir.specs.declared.design.Design.{Design}
use Rattle.rtl_ir.specs.declared.design.Module.{Module}
use Rattle.verilog_sim.specs.declared.flatten.Parts.{Parts}
use Rattle.verilog_sim.specs.declared.scope.Scope.{Scope}
use Rattle.verilog_sim.specs.Flattened.{IsCopied, Joins, module_of}

-- the lists so far are those of the top module, of which these instances became parts
pub record AreFlattened (d : Design) (top : Module) (parts : Parts) (ss : List Scope) : Type 0 where
  pub copy : Module
  pub copied : IsCopied top copy
  pub joins : Joins d copy ss (module_of top.ports parts)
