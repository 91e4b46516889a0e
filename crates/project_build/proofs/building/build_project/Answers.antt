-- What a source builds can be carried out, and each refusal is the first cause.
use Rattle.std.proofs.Common.{All, sym, subst}
use Rattle.std.proofs.lemmas.Result.{err_from_is_err_and}
use Rattle.kernel_meaning.specs.SoundPlans.{IsAdded, IsKernelClass}
use Rattle.project_build.specs.Building.{AreKernelsFor}
use Rattle.project_build.specs.Causes.{MayLackProject}
use Rattle.project_build.proofs.Kernels.{names_same}
use Rattle.project_build.proofs.Refusals.{plan_lacks, kernels_lack, links_lack}
use Rattle.project_build.proofs.Whole.{plan_sound, sound_whole}
use Rattle.project_build.proofs.building.build_project.Goals as goal

pub returns-in-Err-clause-err : goal.returns-in-Err-clause-err
returns-in-Err-clause-err c classes is =
    subst (MayLackProject classes) (sym c.plan_refused.ensures)
    (plan_lacks classes c.in-Err.error (c.in-Err.ensures classes is))

pub build_kernels-requires-clause-sound : goal.build_kernels-requires-clause-sound
build_kernels-requires-clause-sound c classes is =
    subst (All (IsAdded (IsKernelClass classes))) (sym c.as_slice.ensures)
    (plan_sound classes c.in-Ok.plan (c.in-Ok.ensures classes is)).kernels

pub returns-in_err-kernels-clause-err : goal.returns-in_err-kernels-clause-err
returns-in_err-kernels-clause-err c classes is =
    let error = err_from_is_err_and c.from_residual.result c.from_residual.ensures.1 in
    rw (error.1, error.2)
    (kernels_lack classes c.in-Ok.plan c.as_slice.result.now c.in_err-kernels.field-0.0
    (c.in-Ok.ensures classes is) c.as_slice.ensures (c.in_err-kernels.ensures.err classes is))

pub join-requires-clause-whole : goal.join-requires-clause-whole
join-requires-clause-whole c =
    let read = c.requires.read in
    sound_whole read.0 c.in-Ok.plan
    (plan_sound read.0 c.in-Ok.plan (c.in-Ok.ensures read.0 read.1))

pub join-requires-clause-named : goal.join-requires-clause-named
join-requires-clause-named c =
    let read = c.requires.read in
    names_same read.0 c.in-Ok.plan.kernels c.in_ok-kernels.kernels.items
    (subst (λ ms. AreKernelsFor read.0 ms c.in_ok-kernels.kernels.items) c.as_slice.ensures
    (c.in_ok-kernels.ensures.ok read.0 read.1))

pub returns-in-Err-join-clause-err : goal.returns-in-Err-join-clause-err
returns-in-Err-join-clause-err c classes is =
    subst (MayLackProject classes) (sym c.links_refused.ensures)
    (links_lack classes c.in-Ok.plan c.in_ok-kernels.kernels.items c.in-Err-join.error
    (c.in-Ok.ensures classes is)
    (subst (λ ms. AreKernelsFor classes ms c.in_ok-kernels.kernels.items) c.as_slice.ensures
    (c.in_ok-kernels.ensures.ok classes is)) c.in-Err-join.ensures.err)
