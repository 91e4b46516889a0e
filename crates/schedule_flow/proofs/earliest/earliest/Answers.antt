use Rattle.std.proofs.Common.{List, sym, subst, arith, rules}
use Rattle.cycle_find.specs.declared.arcs.Arc.{Arc}
use Rattle.cycle_find.specs.Constraints.{numbers_of, NeedsWithin}
use Rattle.cycle_find.specs.Search.{Refutes}
use Rattle.schedule_problem.specs.Flow.{flow_of}
use Rattle.schedule_flow.specs.Earliest.{IsTightened}
use Rattle.schedule_flow.proofs.earliest.earliest.Goals as goal

pub returns-in-Ok-clause-legal : goal.returns-in-Ok-clause-legal
returns-in-Ok-clause-legal c =
    let t : IsTightened c.args.problem.now (flow_of c.args.flow.now) c.from_vec.result = search rules in
    t.legal (numbers_of c.in-Ok.times.items) (search rules)

pub returns-in-Ok-clause-tight : goal.returns-in-Ok-clause-tight
returns-in-Ok-clause-tight c =
    let t : IsTightened c.args.problem.now (flow_of c.args.flow.now) c.from_vec.result = search rules in
    t.tight (numbers_of c.in-Ok.times.items) (search rules)

pub unreachable-requires : goal.unreachable-requires
unreachable-requires c =
    let t : IsTightened c.args.problem.now (flow_of c.args.flow.now) c.from_vec.result = search rules in
    let r = subst (Refutes c.from_vec.result) c.in-Err-Cycle.field-0-is c.in-Err-Cycle.ensures.cycle in
    let x = numbers_of c.args.x.now in
    r.1 x (t.solves x c.requires.legal c.requires.tight)

pub returns-in-Ok-clause-within : goal.returns-in-Ok-clause-within
returns-in-Ok-clause-within c size h v =
    let sizes = c.in_ok-list.ensures.needs 1 size (λ j l. omega (arith, h j l)) in
    let near : NeedsWithin size c.in_ok-list.list.items = λ j l. omega (arith, sizes j l) in
    let N : List Arc → Type 0 = λ l. NeedsWithin size l in
    c.in-Ok.ensures.within size (subst N (sym c.from_vec.ensures) near) v
