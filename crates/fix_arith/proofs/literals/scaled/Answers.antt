use Rattle.std.proofs.Common.{rules, lit≤, ◌+ℤ◌, ◌≡◌, ◌≤◌, ◌^◌, ◌∙◌, ap, sym, subst, pos, ◌*ℤ◌, unsigned_abs, IfNone}
use Rattle.fix_arith.specs.Rounding.{rounded}
use Rattle.fix_arith.specs.Values.{signed_of}
use Rattle.fix_arith.specs.Integers.{exact}
use Rattle.fix_arith.proofs.Divisions.{scaled_splits, by_division, size_of_scaled}
use Rattle.fix_arith.proofs.Roundings.{next_if}
use Rattle.fix_arith.proofs.literals.scaled.Goals as goal
use Rattle.fix_arith.proofs.literals.scaled.Goals.{After-rounds_up}

pub returns-in_err-size-clause-none : goal.returns-in_err-size-clause-none
returns-in_err-size-clause-none c =
    let n = c.args.number.now in
    let d = c.power_of_ten-divisor in
    let large = size_of_scaled c.args.mode n.negative n.digits (2 ^ c.args.bits) d.result (2 ^ 128) d.ensures.some c.in_err-size.ensures.none in
    subst (λ r. IfNone r (2 ^ 128 ≤ unsigned_abs (rounded c.args.mode (signed_of n.negative n.digits *ℤ pos (2 ^ c.args.bits)) (10 ^ n.tens)))) (sym c.from_residual.ensures)
    (subst (λ t. 2 ^ 128 ≤ unsigned_abs (rounded c.args.mode (signed_of n.negative n.digits *ℤ pos (2 ^ c.args.bits)) t)) d.ensures.value large)

-- the floor, or the next number
divided : (c : After-rounds_up)
    → next_if c.rounds_up.result (exact c.below-floor.result.0) ≡ rounded c.args.mode
    (signed_of c.args.number.now.negative c.args.number.now.digits *ℤ pos (2 ^ c.args.bits))
    (10 ^ c.args.number.now.tens)
divided c =
    let n = c.args.number.now in
    let q = c.in_ok-size.size in
    let d = c.power_of_ten-divisor.result in
    let b = c.below-floor in
    let z = signed_of n.negative n.digits *ℤ pos (2 ^ c.args.bits) in
    by_division c.args.mode z (exact b.result.0) d b.result.1 c.is_odd.result c.rounds_up.result c.cmp.result b.ensures.left
    (scaled_splits n.negative n.digits (2 ^ c.args.bits) q.whole q.left d b.result.1 (exact b.result.0) c.in_ok-size.ensures.some.1 b.ensures.split)
    c.is_odd.ensures c.cmp.ensures c.rounds_up.ensures
    ∙ ap (rounded c.args.mode z) c.power_of_ten-divisor.ensures.value

pub returns-then-not-rounds_up-clause-some : goal.returns-then-not-rounds_up-clause-some
returns-then-not-rounds_up-clause-some c = ap (λ b. next_if b (exact c.below-floor.result.0)) (sym c.if-not-rounds_up.true) ∙ divided (goal.at.returns-then-not-rounds_up-clause-some c).After-rounds_up

pub returns-then-equals-clause-none : goal.returns-then-equals-clause-none
returns-then-equals-clause-none c =
    let top : exact c.below-floor.result.0 ≡ pos 340282366920938463463374607431768211455 = search rules in
    let is = ap (λ b. next_if b (exact c.below-floor.result.0)) (sym c.if-not-rounds_up.false) ∙ divided (goal.at.returns-then-equals-clause-none c).After-rounds_up in
    subst (λ z. 340282366920938463463374607431768211456 ≤ unsigned_abs z) (ap (λ z. z +ℤ pos 1) (sym top) ∙ is) (lit≤ tt)

pub returns-clause-some : goal.returns-clause-some
returns-clause-some c = c.successor.ensures ∙ ap (λ b. next_if b (exact c.below-floor.result.0)) (sym c.if-not-rounds_up.false) ∙ divided (goal.at.returns-clause-some c).After-rounds_up
