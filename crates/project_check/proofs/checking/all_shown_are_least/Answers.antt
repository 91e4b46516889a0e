use Rattle.std.proofs.Common.{subst}
use Rattle.std.specs.Prelude.{All}
use Rattle.std.proofs.lemmas.List.{take_all}
use Rattle.std.proofs.lemmas.List.Elements.{All-more}
use Rattle.kernel_report.specs.Judging.{ShownAreLeast}
use Rattle.project_check.proofs.checking.all_shown_are_least.Goals as goal

pub loop-kernel-preserved : goal.loop-kernel-preserved
loop-kernel-preserved c =
    let law = ShownAreLeast c.args.table.now in
    let kernel = c.kernel-item.result in
    All-more law c.args.kernels.now c.loop-kernel.kernel-index kernel c.loop-kernel-test.true
    c.loop-kernel.invariant (subst law c.kernel-item.is c.shown_are_least.ensures)

pub returns : goal.returns
returns c =
    subst (All (ShownAreLeast c.args.table.now))
    (take_all c.loop-kernel.kernel-index c.args.kernels.now c.loop-kernel-test.false)
    c.loop-kernel.invariant
