-- Each kernel can be built, and is built behind those before it.
use Rattle.std.proofs.Common.{sym, subst}
use Rattle.std.proofs.lemmas.Result.{err_from_is_err_and}
use Rattle.kernel_meaning.specs.SoundPlans.{IsAdded, IsKernelClass}
use Rattle.project_build.proofs.Kernels.{more_kernels}
use Rattle.project_build.proofs.Refusals.{one_lacks}
use Rattle.project_build.proofs.building.build_kernels.Goals as goal

pub build_one-requires-clause-sound : goal.build_one-requires-clause-sound
build_one-requires-clause-sound c classes is =
    let made = c.made-item.result in
    subst (IsAdded (IsKernelClass classes)) (sym c.made-item.is)
    (c.requires.sound classes is c.loop-made.made-index made c.loop-made-test.true)

pub returns-in_err-kernel-clause-err : goal.returns-in_err-kernel-clause-err
returns-in_err-kernel-clause-err c classes is =
    let error = err_from_is_err_and c.from_residual.result c.from_residual.ensures.1 in
    rw (error.1, error.2)
    (one_lacks classes c.args.mades.now c.loop-made.made-index c.made-item.result
    c.loop-made.kernels.items c.in_err-kernel.field-0.0 c.loop-made-test.true c.made-item.is
    (c.loop-made.invariant classes is) (c.in_err-kernel.ensures.err classes is))

pub loop-made-preserved : goal.loop-made-preserved
loop-made-preserved c classes is =
    more_kernels classes c.args.mades.now c.loop-made.made-index c.made-item.result
    c.loop-made.kernels.items c.push.new.self.items c.in_ok-kernel.kernel c.loop-made-test.true
    c.made-item.is (c.loop-made.invariant classes is) (c.in_ok-kernel.ensures.ok classes is)
    c.in_ok-push.ensures.items
