use Rattle.std.proofs.Common.{ap, length, arith}
use Rattle.std.proofs.lemmas.Option.{slice_get_within}
use Rattle.project_words.proofs.Families.{one_family, one_more}
use Rattle.project_words.proofs.family.one_project_family.Goals as goal

pub loop-kernel-preserved : goal.loop-kernel-preserved
loop-kernel-preserved c =
    one_more c.args.project.now.kernels c.kernels-kernel-items.result.now c.loop-kernel.kernel-index c.kernel-item.result
    c.kernels-kernel-items.ensures c.loop-kernel-test.true c.kernel-item.is c.one_family.ensures c.loop-kernel.invariant

pub returns : goal.returns
returns c =
    one_family c.args.project.now (λ k kernel at.
    let within = slice_get_within c.args.project.now.kernels k kernel at in
    let size = ap length c.kernels-kernel-items.ensures in
    let done = c.loop-kernel-test.false in
    c.loop-kernel.invariant k kernel (omega (arith, within, size, done)) at)
