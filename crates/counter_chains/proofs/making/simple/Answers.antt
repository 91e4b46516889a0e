use Rattle.std.proofs.Common.{rules, ◌∙◌, subst}
use Rattle.std.specs.Prelude.{pos, ◌<ℤ◌}
use Rattle.std.proofs.lemmas.Int.{to_z-of_z}
use mir.Val.{SFits}
use mir.Syntax.{w32}
use Rattle.counter_chains.proofs.Answered.{simple_all, simple_below, simple_above, simple_none}
use Rattle.counter_chains.proofs.making.simple.Goals as goal

pub returns-in_default : goal.returns-in_default
returns-in_default c = simple_all c.args.bits c.args.max c.in_default.is c.requires.at_most

pub returns-in_default-one_less : goal.returns-in_default-one_less
returns-in_default-one_less c =
    let f : SFits w32 c.in-Some.max = search rules in
    simple_none c.args.bits c.in-Some.max c.args.max c.in-Some.is f
    (subst (λ z. z <ℤ pos 1) (to_z-of_z w32 c.in-Some.max f) c.in_default-one_less.ensures.none)

pub returns-then-last-all : goal.returns-then-last-all
returns-then-last-all c =
    let f : SFits w32 c.in-Some.max = search rules in
    simple_above c.args.bits c.in-Some-one_less.last c.in-Some.max c.args.max c.in-Some.is f
    (c.in-Some-one_less.ensures.some ∙ to_z-of_z w32 c.in-Some.max f) c.if-last-all.true c.requires.at_most

pub returns : goal.returns
returns c =
    let f : SFits w32 c.in-Some.max = search rules in
    simple_below c.args.bits c.in-Some-one_less.last c.in-Some.max c.args.max c.in-Some.is
    (c.in-Some-one_less.ensures.some ∙ to_z-of_z w32 c.in-Some.max f) c.if-last-all.false c.requires.at_most
