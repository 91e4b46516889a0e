use Rattle.std.proofs.Common.{◌≡◌, ◌-ℤ◌, refl, subst, arith, rules, FitsSigned}
use Rattle.std.specs.Int.{w64}
use Rattle.std.proofs.lemmas.Int.{ints}
use Rattle.cycle_find.specs.declared.arcs.Arc.{Arc}
use Rattle.cycle_find.specs.Constraints.{numbers_of}
use Rattle.schedule_flow.proofs.search.slack.Goals as goal

pub overflow_sub-result-2 : goal.overflow_sub-result-2
overflow_sub-result-2 c =
    let a = c.arc_of-arc.result in
    let f : FitsSigned w64 a.need = search rules in
    omega (arith, ints, f, c.requires.small a.to, c.requires.small a.from)

pub returns-clause-slack : goal.returns-clause-slack
returns-clause-slack c =
    let a = c.arc_of-arc.result in
    let x = numbers_of c.args.x.now in
    let f : FitsSigned w64 a.need = search rules in
    let P : Arc → Type 0 = λ b. ((x a.to -ℤ x a.from) -ℤ a.need) ≡ ((x b.to -ℤ x b.from) -ℤ b.need) in
    let e = subst P c.arc_of-arc.ensures refl in
    omega (arith, ints, e, f, c.requires.small a.to, c.requires.small a.from)

pub returns-clause-small : goal.returns-clause-small
returns-clause-small c =
    let a = c.arc_of-arc.result in
    let f : FitsSigned w64 a.need = search rules in
    omega (arith, ints, f, c.requires.small a.to, c.requires.small a.from)
