use Rattle.verilog_sim.specs.Relocation.{relocated_instance}
use Rattle.verilog_sim.proofs.Pushing.{pushed_more}
use Rattle.verilog_sim.proofs.inlining.add_instances.Goals as goal

pub loop-instance-preserved : goal.loop-instance-preserved
loop-instance-preserved c =
    let made = c.in_ok-relocated_instance in
    pushed_more (relocated_instance c.args.first_net) c.args.more.now c.loop-instance.instance-index c.instance-item.result
    c.args.instances.now.items c.loop-instance.instances.items c.push.new.self.items made.field-0 c.loop-instance-test.true
    c.instance-item.is c.loop-instance.invariant c.in_ok-push.ensures.items made.ensures
