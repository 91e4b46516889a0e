use Rattle.std.proofs.Common.{ℕ, List, ap, ◌∙◌}
use Rattle.rtl_ir.specs.declared.design.Mem.{Mem}
use Rattle.verilog_sim.specs.Relocation.{bare_mem}
use Rattle.verilog_sim.proofs.Pushing.{pushed_more}
use Rattle.verilog_sim.proofs.inlining.add_mems.Goals as goal

abbrev named : Mem → List ℕ → Mem
named x name = record { name = name; width = x.width; depth = x.depth }

pub loop-mem-preserved : goal.loop-mem-preserved
loop-mem-preserved c =
    let x = c.mem-item.result in
    pushed_more bare_mem c.args.more.now c.loop-mem.mem-index x c.args.mems.now.items c.loop-mem.mems.items c.push.new.self.items
    (named x c.from_vec.result) c.loop-mem-test.true c.mem-item.is c.loop-mem.invariant c.in_ok-push.ensures.items
    (ap (named x) (c.from_vec.ensures ∙ c.new.ensures.items))
