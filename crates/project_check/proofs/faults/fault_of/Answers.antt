use Rattle.std.proofs.Common.{rules}
use Rattle.std.proofs.lemmas.Int.{to_z-of_z}
use mir.Val.{SFits}
use mir.Syntax.{w128}
use Rattle.project_check.proofs.Refusing.{part_times, part_flow, part_costs}
use Rattle.project_check.proofs.faults.fault_of.Goals as goal

pub returns-in_ok-name_of-in-BadTimes-clause-fault : goal.returns-in_ok-name_of-in-BadTimes-clause-fault
returns-in_ok-name_of-in-BadTimes-clause-fault c =
    λ table part judged. part_times table c.args.kernel.now part c.args.judgement c.in-BadTimes.arc
    c.in_ok-name_of-in-BadTimes.field-0 c.in_ok-name_of-in-BadTimes.ensures c.in-BadTimes.is judged

pub returns-in_ok-name_of-in-BadFlow-clause-fault : goal.returns-in_ok-name_of-in-BadFlow-clause-fault
returns-in_ok-name_of-in-BadFlow-clause-fault c =
    λ table part judged. part_flow table c.args.kernel.now part c.args.judgement c.in-BadFlow.node
    c.in_ok-name_of-in-BadFlow.field-0 c.in_ok-name_of-in-BadFlow.ensures c.in-BadFlow.is judged

pub returns-in_ok-name_of-in-CostsDiffer-clause-fault :
    goal.returns-in_ok-name_of-in-CostsDiffer-clause-fault
returns-in_ok-name_of-in-CostsDiffer-clause-fault c =
    let cost : SFits w128 c.in-CostsDiffer.cost = search rules in
    let value : SFits w128 c.in-CostsDiffer.value = search rules in
    λ table part judged. simp to_z-of_z (part_costs table c.args.kernel.now part c.args.judgement
    c.in-CostsDiffer.cost c.in-CostsDiffer.value c.in_ok-name_of-in-CostsDiffer.field-0
    c.in_ok-name_of-in-CostsDiffer.ensures c.in-CostsDiffer.is judged)
