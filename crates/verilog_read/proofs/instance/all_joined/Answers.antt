use Rattle.std.proofs.Common.{arith}
use Rattle.verilog_read.proofs.JoinSteps.{first_free}
use Rattle.verilog_read.proofs.instance.all_joined.Goals as goal

pub returns-in-None : goal.returns-in-None
returns-in-None c = first_free c.args.ports.now c.args.nets.now c.loop-place.all
    c.loop-place.place _ _ c.name_of.result.now
    (omega arith) c.requires c.loop-place.invariant c.in-None.is c.name_of.ensures
