-- What the stream equations say of a run that was begun.
use Rattle.std.proofs.Common.{◌∙◌, ◌≤◌, ◌^◌, arith, sym, subst}
use Rattle.manager_links.specs.Links.{AreLinksOf}
use Rattle.manager_links.specs.Starts.{AreTimes}
use Rattle.project_words.specs.Given.{given_of, word_count}
use Rattle.stream_expect.specs.Expected.{IsExpectedOf}
use Rattle.maxjc_core.proofs.Linking.{causal-kernels, timed-parts}
use Rattle.maxjc_core.proofs.expect.expected_of.Goals as goal

pub run_of_plan-requires : goal.run_of_plan-requires
run_of_plan-requires c = record { fits = c.requires.ready.fits; within = c.requires.within }

pub expect-requires-clause-causal : goal.expect-requires-clause-causal
expect-requires-clause-causal c =
    let shows = c.requires.ready.begins.linked.shows in
    causal-kernels shows.latencies c.args.begun.now.linked.project.kernels shows.checked.problems

pub expect-requires-clause-times : goal.expect-requires-clause-times
expect-requires-clause-times c =
    let begun = c.args.begun.now in
    let links = c.requires.ready.begins.linked in
    let shows = links.shows in
    subst (AreTimes begun.linked.project.kernels) (sym (c.as_slice.ensures ∙ links.times))
    (timed-parts shows.latencies begun.linked.project.kernels links.report.kernels
    shows.checked.says.is shows.checked.shown)

pub expect-requires-clause-links : goal.expect-requires-clause-links
expect-requires-clause-links c =
    let begun = c.args.begun.now in
    subst (λ ts. AreLinksOf begun.linked.project ts begun.linked.links) (sym c.as_slice.ensures)
    c.requires.ready.begins.linked.are

pub expect-requires-clause-given : goal.expect-requires-clause-given
expect-requires-clause-given c = c.in_ok-run.ensures.given

pub returns-in-Ok-clause-is : goal.returns-in-Ok-clause-is
returns-in-Ok-clause-is c =
    let begun = c.args.begun.now in
    let given = given_of c.in_ok-run.run' in
    record {
      given = given;
      gives = c.in_ok-run.ensures.gives;
      is = subst
          (λ ts. IsExpectedOf begun.linked.project ts begun.linked.links given c.in-Ok.expected)
          c.as_slice.ensures c.in-Ok.ensures.is;
    }

-- the kernels have few words, so they aren't refused for many
pub unreachable-requires : goal.unreachable-requires
unreachable-requires c =
    let few : word_count c.args.begun.now.linked.project.kernels c.in_ok-run.run'.ticks ≤ 2 ^ 24 =
    subst (λ ts. word_count c.args.begun.now.linked.project.kernels ts ≤ 2 ^ 24)
    (sym c.in_ok-run.ensures.ticks) c.requires.ready.begins.few in
    let large = rw c.in-Err-TooLarge.field-0-is at c.in-Err-TooLarge.ensures.err in
    let count = large.count in
    let many = large.many in
    omega (arith, count, many, few)
