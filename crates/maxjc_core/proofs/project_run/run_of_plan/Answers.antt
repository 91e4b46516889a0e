-- The run of a project that a plan says.
use Rattle.std.proofs.Common.{◌≡◌, ◌∙◌}
use Rattle.project_words.specs.declared.given.ProjectRun.{ProjectRun}
use Rattle.maxjc_core.proofs.RunGiving.{gives, is-given}
use Rattle.maxjc_core.proofs.project_run.run_of_plan.Goals as goal

pub returns-clause-gives : goal.returns-clause-gives
returns-clause-gives c =
    let project = c.args.project.now in
    let plan = c.args.plan.now in
    let run : ProjectRun =
    record { ticks = c.from_vec.result; scalars = c.in_ok-scalars.scalars; words = c.args.words } in
    let ticks : c.from_vec.result ≡ plan.ticks =
    c.from_vec.ensures ∙ c.in_ok-ticks.ensures.items_if_clones_equal (λ x y e. e)
    ∙ c.as_slice.ensures in
    gives project plan run c.requires.fits ticks
    (rw (c.kernels.ensures, c.as_slice-2.ensures) at c.in_ok-scalars.ensures)

pub returns-clause-given : goal.returns-clause-given
returns-clause-given c =
    let project = c.args.project.now in
    let plan = c.args.plan.now in
    let run : ProjectRun =
    record { ticks = c.from_vec.result; scalars = c.in_ok-scalars.scalars; words = c.args.words } in
    let ticks : c.from_vec.result ≡ plan.ticks =
    c.from_vec.ensures ∙ c.in_ok-ticks.ensures.items_if_clones_equal (λ x y e. e)
    ∙ c.as_slice.ensures in
    is-given project plan run c.requires.fits c.requires.within ticks
    (rw (c.kernels.ensures, c.as_slice-2.ensures) at c.in_ok-scalars.ensures)
