use Rattle.maxjc_core.specs.ExpectCauses.{HasNoLinks, IsOfExpect}
use Rattle.maxjc_core.proofs.Building.{names_plain}
use Rattle.maxjc_core.proofs.Refusing.{refused-so}
use Rattle.maxjc_core.proofs.begin.begin.Goals as goal

pub plan_of_linked-requires : goal.plan_of_linked-requires
plan_of_linked-requires c = record {
  names = names_plain c.args.source.now c.args.table.now c.in-Ok.linked.project
      c.in-Ok.ensures.linked.shows.latencies c.in-Ok.ensures.linked.shows.is;
}

pub returns-clause-refused : goal.returns-clause-refused
returns-clause-refused c =
    let source = c.args.source.now in
    let table = c.args.table.now in
    let report = c.args.report.now in
    let run = c.args.run.now in
    refused-so c.in-Err.stop (HasNoLinks source table report) (IsOfExpect source table report run)
    IsOfExpect.no_links c.in-Err.ensures.refused

pub returns-in-Ok-plan_of_linked-clause-begins : goal.returns-in-Ok-plan_of_linked-clause-begins
returns-in-Ok-plan_of_linked-clause-begins c =
    c.in-Ok-plan_of_linked.ensures.begins c.args.source.now c.args.table.now c.args.report.now
    c.in-Ok.ensures.linked

pub returns-in-Ok-clause-refused : goal.returns-in-Ok-clause-refused
returns-in-Ok-clause-refused c =
    c.in-Err-plan_of_linked.ensures.refused c.args.source.now c.args.table.now c.args.report.now
    c.in-Ok.ensures.linked
