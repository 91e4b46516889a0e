use Rattle.std.proofs.Common.{◌≡◌, map, take}
use Rattle.rtl_ir.specs.declared.design.Module.{Module}
use Rattle.rtl_check.proofs.names.module_again.Given as goal

abbrev pub invariant-loop-module : goal.invariant-loop-module
invariant-loop-module l = map (λ name. name.now) l.names.items ≡ map (λ (m : Module). m.name) (take l.module-index l.design.modules)
