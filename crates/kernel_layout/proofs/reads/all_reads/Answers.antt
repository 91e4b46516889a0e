use Rattle.std.proofs.Common.{◌+◌, sym, subst}
use Rattle.cycle_find.specs.Constraints.{numbers_of}
use Rattle.kernel_layout.specs.Layouts.{AreReads}
use Rattle.kernel_layout.proofs.Reading.{one_node_more}
use Rattle.kernel_layout.proofs.reads.all_reads.Goals as goal

pub loop-reader-preserved : goal.loop-reader-preserved
loop-reader-preserved c =
    let nodes = c.args.kernel.now.nodes in
    let s = numbers_of c.args.times.now in
    let more = one_node_more nodes s c.loop-reader.reader c.loop-reader.reads.items c.in_ok-reads_of.field-0 c.loop-reader.invariant.read c.in_ok-reads_of.ensures in
    record { read = subst (λ all. AreReads nodes s (c.loop-reader.reader + 1) all) (sym (c.in_ok-push.ensures.items)) more }
