use Rattle.std.proofs.Common.{subst}
use Rattle.cycle_find.specs.Constraints.{numbers_of, Solves, IsPositiveCycle}
use Rattle.offset_edges.proofs.WalkLemmas.{causal_from, round_from, solvable_of}
use Rattle.offset_edges.proofs.causal.round_ahead.Goals as goal

pub solve-requires : goal.solve-requires
solve-requires c =
    solvable_of c.args.nodes c.args.edges.now c.in_ok-arcs.arcs c.requires.nodes c.requires.few
    c.requires.edges
    c.in_ok-arcs.ensures.nodes c.in_ok-arcs.ensures.arcs

pub returns-in-Ok-clause-causal : goal.returns-in-Ok-clause-causal
returns-in-Ok-clause-causal c =
    causal_from c.args.nodes c.args.edges.now (numbers_of c.in-Ok.field-0.items)
    (subst (λ xs. Solves (numbers_of c.in-Ok.field-0.items) xs) c.in_ok-arcs.ensures.arcs
    c.in-Ok.ensures.least.solves)

pub returns-in-Err-Cycle-clause-round : goal.returns-in-Err-Cycle-clause-round
returns-in-Err-Cycle-clause-round c =
    round_from c.args.nodes c.args.edges.now c.in-Err-Cycle.cycle.arcs c.requires.edges
    (subst (λ xs. IsPositiveCycle xs c.in-Err-Cycle.cycle.arcs) c.in_ok-arcs.ensures.arcs
    (rw c.in-Err-Cycle.field-0-is at c.in-Err-Cycle.ensures.cycle).0)
