use Rattle.std.proofs.Common.{◌∙◌, ◌≤◌, length, sym, subst}
use Rattle.std.specs.Prelude.{All}
use Rattle.std.proofs.lemmas.Result.{err_from_is_err_and}
use Rattle.manager_links.specs.Links.{AreLinksOf}
use Rattle.manager_links.specs.Starts.{AreTimes}
use Rattle.project_netlists.specs.Netlists.{HasPortName, AreKernelNetlists}
use Rattle.project_netlists.specs.Refused.{FitsBits, MayLackSchedule, MayHaveTooMany, MayHaveDeepLink}
use Rattle.project_netlists.specs.Scheduled.{HasSchedule, AreBestSchedules, all_times}
use Rattle.project_netlists.proofs.Made.{all_fit}
use Rattle.project_netlists.proofs.Refusing.{refused_schedule, refused_bits, refused_link, of_these, deep_of_these}
use Rattle.project_netlists.proofs.Scheduled.{all_scheduled, all_timed}
use Rattle.project_netlists.proofs.making.project_netlists.Goals as goal

pub schedules-requires : goal.schedules-requires
schedules-requires c = record {
  few = subst (λ ks. length ks ≤ 64) (sym c.kernels-kernels.ensures) c.args.project.now.whole.few.most;
}

pub netlists-requires-clause-few : goal.netlists-requires-clause-few
netlists-requires-clause-few c =
    subst (λ ks. length ks ≤ 64) (sym c.kernels-kernels.ensures) c.args.project.now.whole.few.most

pub netlists-requires-clause-names : goal.netlists-requires-clause-names
netlists-requires-clause-names c =
    subst (λ ks. All HasPortName ks) (sym c.kernels-kernels.ensures) c.requires.names

pub netlists-requires-clause-best : goal.netlists-requires-clause-best
netlists-requires-clause-best c =
    subst (AreBestSchedules c.args.table.now c.kernels-kernels.result.now) (sym c.as_slice.ensures)
    c.in_ok-schedules.ensures.best

pub links_of-requires : goal.links_of-requires
links_of-requires c =
    let table = c.args.table.now in
    let kernels = c.args.project.now.kernels in
    let schedules = c.in_ok-schedules.schedules in
    subst (AreTimes kernels) (sym (c.as_slice-2.ensures ∙ c.in_ok-times.ensures))
    (all_timed table kernels schedules
    (subst (λ ks. AreBestSchedules table ks schedules) c.kernels-kernels.ensures c.in_ok-schedules.ensures.best))

-- ---- no schedules

pub returns-in_err-schedules-clause-refused : goal.returns-in_err-schedules-clause-refused
returns-in_err-schedules-clause-refused c =
    let table = c.args.table.now in
    let told = c.in_err-schedules.field-0.0 in
    let error = err_from_is_err_and c.from_residual.result c.from_residual.ensures.1 in
    rw (error.1, error.2)
    (refused_schedule table c.args.project.now told
    (subst (λ ks. MayLackSchedule table ks told) c.kernels-kernels.ensures c.in_err-schedules.ensures.refused))

pub returns-in_err-schedules-clause-of : goal.returns-in_err-schedules-clause-of
returns-in_err-schedules-clause-of c =
    let table = c.args.table.now in
    let project = c.args.project.now in
    let told = c.in_err-schedules.field-0.0 in
    let error = err_from_is_err_and c.from_residual.result c.from_residual.ensures.1 in
    rw (error.1, error.2)
    (of_these table project told (refused_schedule table project told
    (subst (λ ks. MayLackSchedule table ks told) c.kernels-kernels.ensures c.in_err-schedules.ensures.refused)))

-- ---- no modules

pub returns-in_err-made-clause-refused : goal.returns-in_err-made-clause-refused
returns-in_err-made-clause-refused c =
    let table = c.args.table.now in
    let told = c.in_err-made.field-0.0 in
    let error = err_from_is_err_and c.from_residual-in_err-made.result c.from_residual-in_err-made.ensures.1 in
    rw (error.1, error.2)
    (refused_bits table c.args.project.now told
    (subst (λ ks. All (HasSchedule table) ks) c.kernels-kernels.ensures
    (all_scheduled table c.kernels-kernels.result.now c.in_ok-schedules.schedules c.in_ok-schedules.ensures.best))
    (subst (λ ks. MayHaveTooMany table ks told) c.kernels-kernels.ensures c.in_err-made.ensures.refused))

pub returns-in_err-made-clause-of : goal.returns-in_err-made-clause-of
returns-in_err-made-clause-of c =
    let table = c.args.table.now in
    let project = c.args.project.now in
    let told = c.in_err-made.field-0.0 in
    let error = err_from_is_err_and c.from_residual-in_err-made.result c.from_residual-in_err-made.ensures.1 in
    rw (error.1, error.2)
    (of_these table project told (refused_bits table project told
    (subst (λ ks. All (HasSchedule table) ks) c.kernels-kernels.ensures
    (all_scheduled table c.kernels-kernels.result.now c.in_ok-schedules.schedules c.in_ok-schedules.ensures.best))
    (subst (λ ks. MayHaveTooMany table ks told) c.kernels-kernels.ensures c.in_err-made.ensures.refused)))

-- ---- no links

pub returns-in_err-links-clause-refused : goal.returns-in_err-links-clause-refused
returns-in_err-links-clause-refused c =
    let table = c.args.table.now in
    let project = c.args.project.now in
    let schedules = c.in_ok-schedules.schedules in
    let told = c.in_err-links.field-0.0 in
    let best = subst (λ ks. AreBestSchedules table ks schedules) c.kernels-kernels.ensures c.in_ok-schedules.ensures.best in
    let error = err_from_is_err_and c.from_residual-in_err-links.result c.from_residual-in_err-links.ensures.1 in
    rw (error.1, error.2)
    (refused_link table project schedules told best (all_scheduled table project.kernels schedules best)
    (subst (λ ks. All (FitsBits table) ks) c.kernels-kernels.ensures
    (all_fit table c.kernels-kernels.result.now (all_times c.as_slice.result.now) c.in_ok-made.made.parts
    c.in_ok-made.made.inners c.in_ok-made.ensures.made))
    (subst (λ times. MayHaveDeepLink project times told) (c.as_slice-2.ensures ∙ c.in_ok-times.ensures)
    c.in_err-links.ensures.refused))

pub returns-in_err-links-clause-of : goal.returns-in_err-links-clause-of
returns-in_err-links-clause-of c =
    let told = c.in_err-links.field-0.0 in
    let error = err_from_is_err_and c.from_residual-in_err-links.result c.from_residual-in_err-links.ensures.1 in
    rw (error.1, error.2)
    (deep_of_these c.args.project.now c.as_slice-2.result.now told c.in_err-links.ensures.refused)

-- ---- all of it

pub returns-clause-made : goal.returns-clause-made
returns-clause-made c =
    let table = c.args.table.now in
    let project = c.args.project.now in
    let schedules = c.in_ok-schedules.schedules in
    let made = c.in_ok-made.made in
    let times = c.as_slice-2.ensures ∙ c.in_ok-times.ensures in
    let best = subst (λ ks. AreBestSchedules table ks schedules) c.kernels-kernels.ensures c.in_ok-schedules.ensures.best in
    record {
      schedules = schedules;
      best = best;
      timed = all_timed table project.kernels schedules best;
      kernels =
          subst (AreKernelNetlists table project.kernels (all_times schedules) made.parts) (sym c.into_vec.ensures)
          (subst (λ xs. AreKernelNetlists table project.kernels (all_times xs) made.parts made.inners) c.as_slice.ensures
          (subst (λ ks. AreKernelNetlists table ks (all_times c.as_slice.result.now) made.parts made.inners) c.kernels-kernels.ensures
          c.in_ok-made.ensures.made));
      links = subst (λ ts. AreLinksOf project ts c.in_ok-links.links) times c.in_ok-links.ensures.links;
      within = c.in_ok-links.ensures.within;
    }
