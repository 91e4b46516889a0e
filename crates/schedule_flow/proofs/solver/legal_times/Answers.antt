use Rattle.std.proofs.Common.{◌^◌, arith}
use Rattle.std.proofs.lemmas.Int.{ints}
use Rattle.schedule_flow.proofs.Finding.{greatest_need}
use Rattle.schedule_flow.proofs.solver.legal_times.Goals as goal

pub returns-in-Ok-clause-high : goal.returns-in-Ok-clause-high
returns-in-Ok-clause-high c =
    let p = c.args.problem.now in
    let size = greatest_need p.arcs.list p.arcs.nodes (2 ^ 60) c.requires.arcs.needs in
    λ v. let h = c.in-Ok.ensures.within size.0 size.1 v in omega (arith, ints, h, size.2)
