use Rattle.std.proofs.Common.{◌∙◌, subst}
use Rattle.rtl_ir.specs.declared.design.Module.{Module}
use Rattle.rtl_build.specs.Storage.{AddsMemory}
use Rattle.rtl_build.proofs.Storing.{adds_memory, open_memory, memory, stored}
use Rattle.rtl_build.proofs.netlist.Netlist.memory.Goals as goal

pub invariant_of-self-2 : goal.invariant_of-self-2
invariant_of-self-2 c = open_memory c.self.inside.built c.push.new.self (memory c.args.name c.args.width c.args.depth) c.self.invariant c.in_ok-push.ensures.ok

pub returns : goal.returns
returns c =
    let m = c.self.inside.built in
    subst (λ (k : Module). AddsMemory k (stored m c.push.new.self m.updates) c.args.name c.args.width c.args.depth c.in_ok-memory.memory) c.self.view_is
    (adds_memory m c.push.new.self c.args.name c.args.width c.args.depth c.in_ok-memory.memory c.self.invariant (c.in_ok-memory.ensures ∙ c.len.ensures) c.in_ok-push.ensures.ok)
