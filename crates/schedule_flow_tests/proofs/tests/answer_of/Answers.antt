use Rattle.std.proofs.Common.{◌^◌}
use Rattle.cycle_find.specs.Constraints.{numbers_of}
use Rattle.schedule_flow_tests.proofs.Sizes.{times_small}
use Rattle.schedule_flow_tests.proofs.tests.answer_of.Goals as goal

pub returns-in-Ok-clause-small : goal.returns-in-Ok-clause-small
returns-in-Ok-clause-small c =
    let times = numbers_of c.in-Ok.answer.times in
    times_small times c.args.problem.now.arcs.nodes c.requires.problem.arcs.nodes c.in-Ok.ensures.earliest.non_negative (c.in-Ok.ensures.within (2 ^ 40) c.requires.small)
