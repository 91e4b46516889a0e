use Rattle.std.proofs.Common.{ℕ, List, ap, ◌∙◌}
use Rattle.rtl_ir.specs.declared.design.Net.{Net}
use Rattle.verilog_sim.specs.Relocation.{bare_net}
use Rattle.verilog_sim.proofs.Pushing.{pushed_more}
use Rattle.verilog_sim.proofs.inlining.add_nets.Goals as goal

abbrev named : Net → List ℕ → Net
named x name = record { name = name; width = x.width; reg = x.reg }

pub loop-net-preserved : goal.loop-net-preserved
loop-net-preserved c =
    let x = c.net-item.result in
    pushed_more bare_net c.args.more.now c.loop-net.net-index x c.args.nets.now.items c.loop-net.nets.items c.push.new.self.items
    (named x c.from_vec.result) c.loop-net-test.true c.net-item.is c.loop-net.invariant c.in_ok-push.ensures.items
    (ap (named x) (c.from_vec.ensures ∙ c.new.ensures.items))
