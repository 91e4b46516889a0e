use Rattle.std.proofs.Common.{◌^◌, ℕ, ◌≤◌, ℤ, List, sym, subst, arith}
use Rattle.std.specs.Prelude.{unsigned_abs}
use Rattle.cycle_find.specs.Constraints.{numbers_of}
use Rattle.schedule_flow_tests.proofs.Sizes.{times_small}
use Rattle.schedule_flow_tests.proofs.tests.cost_of_earliest.Goals as goal

pub cost-requires-clause-within : goal.cost-requires-clause-within
cost-requires-clause-within c =
    let small = times_small
    (numbers_of c.in-Ok.times.items) c.args.problem.now.arcs.nodes
    c.requires.problem.arcs.nodes c.in-Ok.ensures.least.non_negative
    (c.in-Ok.ensures.within (2 ^ 40) c.requires.small) in
    let P : List ℤ → Type 0 = λ l. (v : ℕ) → unsigned_abs (numbers_of l v) ≤ 2 ^ 61 in
    subst P (sym c.as_slice.ensures.value) (λ v. omega (arith, small v))
