use Rattle.std.proofs.Common.{◌≡◌, ◌∙◌, ap, sym, subst, length, ◌≤◌, ◌^◌, ◌+◌}
use Rattle.std.specs.Prelude.{pos, ◌≤ℤ◌}
use Rattle.cycle_find.specs.Constraints.{NeedsWithin}
use Rattle.schedule_problem.specs.Optimum.{IsProblem}
use Rattle.offset_edges.specs.Walks.{offsets_of}
use Rattle.offset_edges.specs.Problems.{problem_of}
use Rattle.offset_edges.proofs.KernelLemmas.{shown, problem, solvable, few_arcs, small}
use Rattle.offset_edges.proofs.LatencyLemmas.{all_timed}
use Rattle.offset_edges.proofs.kernel.edges.Goals as goal
use Rattle.offset_edges.proofs.kernel.edges.Goals.{After-drop-ticks-2}

pub returns-in-Some-clause-err : goal.returns-in-Some-clause-err
returns-in-Some-clause-err c =
    let nodes = c.args.kernel.now.nodes in
    let table = c.args.table.now in
    let ticks = c.in_ok-ticks.ticks.items in
    let t = c.in_ok-ticks.ensures.ok in
    let round = rw c.in-Some.is at c.in_ok-round.ensures.round in
    let there : c.as_slice.result.now ≡ c.as_slice-in-Some.result.now = c.as_slice.ensures.value
    ∙ sym c.as_slice-in-Some.ensures.value in
    let offset : c.in_ok-walk.walk.offset ≡ offsets_of c.as_slice.result.now c.in-Some.round =
    c.in_ok-walk.ensures.offset ∙ ap (offsets_of c.as_slice-in-Some.result.now)
    c.as_slice-in-Some-3.ensures
    ∙ ap (λ es. offsets_of es c.in-Some.round) (sym there) in (
      all_timed table nodes ticks t,
      record {
        shown = shown table nodes ticks t c.as_slice-in-Some-2.result.now
            c.as_slice-in-Some.result.now c.in_ok-walk.walk
            c.as_slice-in-Some-2.ensures.value (c.as_slice-in-Some.ensures.value
            ∙ c.in_ok-edges.ensures.edges) c.in_ok-walk.ensures.shown;
        ahead = subst (λ z. pos 0 ≤ℤ z) (sym offset) round.ahead;
      },
    )

-- the problem that was made
made : (c : After-drop-ticks-2) → c.in_ok-problem_over.field-0 ≡ problem_of c.args.table.now
    c.args.kernel.now.nodes
made c =
    problem c.args.table.now c.args.kernel.now.nodes c.in_ok-ticks.ticks.items
    c.in_ok-ticks.ensures.ok
    c.as_slice-3.result.now c.as_slice-2.result.now c.in_ok-problem_over.field-0
    c.as_slice-3.ensures.value
    (c.as_slice-2.ensures.value ∙ c.in_ok-edges.ensures.edges) c.in_ok-problem_over.ensures

pub returns-clause-problem : goal.returns-clause-problem
returns-clause-problem c = made c

pub returns-clause-solvable : goal.returns-clause-solvable
returns-clause-solvable c =
    subst (λ p. IsProblem p) (sym (made c))
    (solvable c.args.table.now c.args.kernel.now.nodes c.in_ok-ticks.ticks.items
    c.in_ok-ticks.ensures.ok
    c.args.kernel.now.made c.args.kernel.now.few)

pub returns-clause-few : goal.returns-clause-few
returns-clause-few c =
    subst (λ p. length p.arcs.list ≤ 2 ^ 20) (sym (made c))
    (few_arcs c.args.table.now c.args.kernel.now.nodes c.in_ok-ticks.ticks.items
    c.in_ok-ticks.ensures.ok
    c.args.kernel.now.made c.args.kernel.now.few)

pub returns-clause-small : goal.returns-clause-small
returns-clause-small c =
    subst (λ p. NeedsWithin (2 ^ 32 + 64) p.arcs.list) (sym (made c))
    (small c.args.table.now c.args.kernel.now.nodes c.in_ok-ticks.ticks.items
    c.in_ok-ticks.ensures.ok
    c.args.kernel.now.made c.args.kernel.now.few)
