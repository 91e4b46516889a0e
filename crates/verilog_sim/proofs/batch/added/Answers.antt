use Rattle.std.proofs.Common.{◌∙◌}
use Rattle.verilog_sim.proofs.Batching.{entry_added}
use Rattle.verilog_sim.proofs.batch.added.Goals as goal

pub returns : goal.returns
returns g c = λ old was.
    c.batch.ensures ∙ entry_added g.R.Operation.step old c.args.entries.items c.in_ok-more.more.items c.entry.result c.args.reads
    c.args.instruction.now was c.in_ok-more.ensures c.entry.ensures c.requires.narrow c.requires.step
