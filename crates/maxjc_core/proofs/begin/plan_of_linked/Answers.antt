-- The plan of a run of a linked project, and that the run has few words.
use Rattle.std.proofs.Common.{◌∙◌, ◌≤◌, ◌^◌, length, ap, subst}
use Rattle.project_rtl.specs.Shapes.{shape_of}
use Rattle.project_words.specs.Given.{word_count}
use Rattle.maxjc_core.specs.ExpectCauses.{HaveTooMany, IsOfExpect}
use Rattle.maxjc_core.specs.RunFiles.{HasNoPlan}
use Rattle.maxjc_core.specs.CompileStops.{IfRefused}
use Rattle.maxjc_core.proofs.Giving.{counted-ticks}
use Rattle.maxjc_core.proofs.Linking.{linking}
use Rattle.maxjc_core.proofs.Refusing.{refused-so}
use Rattle.maxjc_core.proofs.begin.plan_of_linked.Goals as goal

pub plan_of_project-requires : goal.plan_of_project-requires
plan_of_project-requires c = record { names = c.requires.names }

pub test_words-requires : goal.test_words-requires
test_words-requires c =
    ap length c.as_slice.ensures
    ∙ counted-ticks c.args.linked.now.project c.in-Ok.plan c.in-Ok.ensures.fits

pub returns-in-Err-clause-refused : goal.returns-in-Err-clause-refused
returns-in-Err-clause-refused c source table report links =
    let run = c.args.run.now in
    let linked = c.args.linked.now in
    refused-so c.in-Err.stop (HasNoPlan run (shape_of linked.project))
    (IsOfExpect source table report run)
    (IsOfExpect.no_plan (linking source table report linked links))
    c.in-Err.ensures.refused

pub returns-in-Ok-test_words-clause-begins : goal.returns-in-Ok-test_words-clause-begins
returns-in-Ok-test_words-clause-begins c source table report links = record {
  linked = links;
  planned = c.in-Ok.ensures.planned;
  few = subst (λ ts. word_count c.args.linked.now.project.kernels ts ≤ 2 ^ 24) c.as_slice.ensures
      c.in-Ok-test_words.ensures.few;
}

pub returns-clause-refused : goal.returns-clause-refused
returns-clause-refused c source table report links =
    let run = c.args.run.now in
    let linked = c.args.linked.now in
    let plan = c.in-Ok.plan in
    refused-so c.in-Err-test_words.stop (HaveTooMany linked.project.kernels plan.ticks)
    (IsOfExpect source table report run)
    (IsOfExpect.too_many_words (record {
      linked = linking source table report linked links;
      plan = plan;
      planned = c.in-Ok.ensures.planned;
    }))
    (subst (λ ts. IfRefused c.in-Err-test_words.stop (HaveTooMany linked.project.kernels ts))
    c.as_slice.ensures c.in-Err-test_words.ensures.refused)
