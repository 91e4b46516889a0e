use Rattle.std.proofs.Common.{◌+◌, ◌∷◌, ◌++◌, [], take, sym, subst}
use Rattle.std.proofs.lemmas.List.{take_all}
use Rattle.std.proofs.lemmas.Result.{err_from_is_err_and}
use Rattle.manager_links.proofs.Pieces.{take_read, zip_push}
use Rattle.project_netlists.specs.Scheduled.{IsBestOf, AreBestSchedules}
use Rattle.project_netlists.proofs.Scheduled.{all_scheduled}
use Rattle.project_netlists.proofs.Refusing.{of_schedule}
use Rattle.project_netlists.proofs.schedules.schedules.Goals as goal

pub loop-number-preserved : goal.loop-number-preserved
loop-number-preserved c =
    let table = c.args.table.now in
    let kernels = c.args.kernels.now in
    let i = c.loop-number.number in
    let kernel = c.index-kernels-number.result in
    let made = c.in_ok-schedule_of.field-0 in
    subst (AreBestSchedules table (take (i + 1) kernels)) (sym c.in_ok-push.ensures.ok)
    (subst (λ ks. AreBestSchedules table ks (c.loop-number.all ++ made ∷ []))
    (sym (take_read kernels i kernel c.loop-number-test.true c.index-kernels-number.is))
    (zip_push (IsBestOf table) (take i kernels) c.loop-number.all kernel made c.loop-number.invariant
    c.in_ok-schedule_of.ensures.best))

pub returns-in_err-schedule_of-clause-refused : goal.returns-in_err-schedule_of-clause-refused
returns-in_err-schedule_of-clause-refused c =
    let table = c.args.table.now in
    let kernels = c.args.kernels.now in
    let i = c.loop-number.number in
    let error = err_from_is_err_and c.from_residual.result c.from_residual.ensures.1 in
    rw (error.1, error.2)
    (of_schedule table kernels i c.index-kernels-number.result c.in_err-schedule_of.field-0.0
    c.loop-number-test.true c.index-kernels-number.is
    (all_scheduled table (take i kernels) c.loop-number.all c.loop-number.invariant)
    c.in_err-schedule_of.ensures.refused)

pub returns-clause-best : goal.returns-clause-best
returns-clause-best c =
    subst (λ ks. AreBestSchedules c.args.table.now ks c.loop-number.all)
    (take_all c.loop-number.number c.args.kernels.now c.loop-number-test.false)
    c.loop-number.invariant
