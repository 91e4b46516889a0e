-- The edges under the walk are a closed walk that looks back too few ticks.
use Rattle.std.proofs.Common.{◌∙◌, arith, subst, sym, ◌≤◌}
use Rattle.offset_edges.specs.Walks.{IsClosed}
use Rattle.offset_edges.proofs.KernelLemmas.{short, uncovered}
use Rattle.offset_edges.proofs.uncovered.uncovered_walk.Goals as goal

pub walk_over-requires-clause-few : goal.walk_over-requires-clause-few
walk_over-requires-clause-few c =
    let under = short c.args.table.now c.args.kernel.now.nodes c.in_ok-ticks.ticks.items
    c.in_ok-ticks.ensures.ok
    c.args.kernel.now.made c.args.kernel.now.few c.args.cycle.now.arcs c.as_slice-3.result.now
    c.requires.cycle
    (c.as_slice-3.ensures.value ∙ c.in_ok-round.ensures) in
    let few = under.few in
    let nodes = c.args.kernel.now.few in
    omega arith

pub walk_over-requires-clause-closed : goal.walk_over-requires-clause-closed
walk_over-requires-clause-closed c =
    let under = short c.args.table.now c.args.kernel.now.nodes c.in_ok-ticks.ticks.items
    c.in_ok-ticks.ensures.ok
    c.args.kernel.now.made c.args.kernel.now.few c.args.cycle.now.arcs c.as_slice-3.result.now
    c.requires.cycle
    (c.as_slice-3.ensures.value ∙ c.in_ok-round.ensures) in
    subst (λ es. IsClosed es c.as_slice-3.result.now) (sym (c.as_slice.ensures.value
    ∙ c.in_ok-edges.ensures.edges))
    under.closed

pub returns-clause-uncovered : goal.returns-clause-uncovered
returns-clause-uncovered c =
    let under = short c.args.table.now c.args.kernel.now.nodes c.in_ok-ticks.ticks.items
    c.in_ok-ticks.ensures.ok
    c.args.kernel.now.made c.args.kernel.now.few c.args.cycle.now.arcs c.as_slice-3.result.now
    c.requires.cycle
    (c.as_slice-3.ensures.value ∙ c.in_ok-round.ensures) in
    uncovered c.args.table.now c.args.kernel.now.nodes c.in_ok-ticks.ticks.items
    c.in_ok-ticks.ensures.ok
    c.as_slice-2.result.now c.as_slice.result.now c.in_ok-walk_over.field-0 c.as_slice-3.result.now
    c.as_slice-2.ensures.value (c.as_slice.ensures.value ∙ c.in_ok-edges.ensures.edges)
    c.in_ok-walk_over.ensures.shown c.in_ok-walk_over.ensures.offset
    c.in_ok-walk_over.ensures.latency
    under.short
