use Rattle.std.proofs.Common.{◌≡◌, ◌++◌, map, take}
use Rattle.rtl_ir.specs.declared.design.Net.{Net}
use Rattle.rtl_ir.specs.declared.design.Mem.{Mem}
use Rattle.rtl_ir.specs.declared.design.Instance.{Instance}
use Rattle.rtl_check.proofs.names.declared.Given as goal

abbrev pub invariant-loop-net : goal.invariant-loop-net
invariant-loop-net l = map (λ name. name.now) l.names.items ≡ map (λ (n : Net). n.name) (take l.net-index l.module.nets)

abbrev pub invariant-loop-mem : goal.invariant-loop-mem
invariant-loop-mem l = map (λ name. name.now) l.names.items ≡ map (λ (n : Net). n.name) l.module.nets ++ map (λ (k : Mem). k.name) (take l.mem-index l.module.mems)

abbrev pub invariant-loop-instance : goal.invariant-loop-instance
invariant-loop-instance l = map (λ name. name.now) l.names.items ≡ map
    (λ (n : Net). n.name) l.module.nets ++ map (λ (k : Mem). k.name) l.module.mems
    ++ map (λ (i : Instance). i.name) (take l.instance-index l.module.instances)
