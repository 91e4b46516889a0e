-- The links of the project at the times of its report.
use Rattle.maxjc_core.specs.CheckCauses.{IsOfCheck}
use Rattle.maxjc_core.specs.ExpectCauses.{IsTooDeep, HasNoLinks}
use Rattle.maxjc_core.specs.Expecting.{report_times}
use Rattle.maxjc_core.proofs.Checking.{showing}
use Rattle.maxjc_core.proofs.Linking.{timed-parts}
use Rattle.maxjc_core.proofs.Refusing.{refused-so}
use Rattle.maxjc_core.proofs.linked.link_project.Goals as goal

pub links_of-requires : goal.links_of-requires
links_of-requires c =
    let shown = c.in-Ok.field-0 in
    let shows = c.in-Ok.ensures.shows in
    timed-parts shows.latencies shown.project.kernels shown.report.kernels shows.checked.says.is
    shows.checked.shown

pub returns-clause-refused : goal.returns-clause-refused
returns-clause-refused c =
    let source = c.args.source.now in
    let table = c.args.table.now in
    let report = c.args.report.now in
    refused-so c.in-Err.stop (IsOfCheck source table report) (HasNoLinks source table report)
    HasNoLinks.of_check c.in-Err.ensures.refused

pub returns-in-Ok-links_of-clause-linked : goal.returns-in-Ok-links_of-clause-linked
returns-in-Ok-links_of-clause-linked c = record {
  report = c.in-Ok.field-0.report;
  shows = c.in-Ok.ensures.shows;
  times = c.in-Ok-links_of.ensures.times;
  are = c.in-Ok-links_of.ensures.links;
  shallow = c.in-Ok-links_of.ensures.within;
}

pub returns-in-Ok-clause-refused : goal.returns-in-Ok-clause-refused
returns-in-Ok-clause-refused c =
    let source = c.args.source.now in
    let table = c.args.table.now in
    let report = c.args.report.now in
    let shown = c.in-Ok.field-0 in
    refused-so c.in-Err-links_of.stop (IsTooDeep shown.project (report_times shown.report))
    (HasNoLinks source table report)
    (λ cause deep. HasNoLinks.too_deep
    (showing source table report shown.project shown.report c.in-Ok.ensures.shows) cause deep)
    c.in-Err-links_of.ensures.refused
