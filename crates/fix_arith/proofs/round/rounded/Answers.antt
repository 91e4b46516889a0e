use Rattle.std.proofs.Common.{◌≡◌, ◌^◌, ◌∙◌, ap, sym, arith}
use Rattle.fix_arith.specs.Rounding.{rounded}
use Rattle.fix_arith.specs.Integers.{exact}
use Rattle.fix_arith.proofs.Roundings.{next_if, by_shift, rounded-one}
use Rattle.fix_arith.proofs.round.rounded.Goals as goal
use Rattle.fix_arith.proofs.round.rounded.Goals.{After-rounds_up}

pub returns-then-bits-eq0 : goal.returns-then-bits-eq0
returns-then-bits-eq0 c = sym (ap (λ k. rounded c.args.mode (exact c.args.n) (2 ^ k)) c.if-bits-eq0.true ∙ rounded-one c.args.mode (exact c.args.n))

rounded_by_shift : (c : After-rounds_up) → next_if c.rounds_up.result (exact c.shifted_right-floor.result) ≡ rounded c.args.mode (exact c.args.n) (2 ^ c.args.bits)
rounded_by_shift c = by_shift c.args.mode (exact c.args.n)
    (exact c.shifted_right-floor.result) c.args.bits c.bits.result c.is_odd.result
    c.rounds_up.result c.cmp-left.result (omega arith) c.requires c.shifted_right-floor.ensures
    (c.bits.ensures ∙ c.reduced.ensures.bits) c.is_odd.ensures c.cmp-left.ensures
    c.rounds_up.ensures

pub returns-then-rounds_up : goal.returns-then-rounds_up
returns-then-rounds_up c = c.successor.ensures ∙ ap (λ b. next_if b
    (exact c.shifted_right-floor.result)) (sym c.if-rounds_up.true) ∙ rounded_by_shift
    (goal.at.returns-then-rounds_up c).After-rounds_up

pub returns-else-rounds_up : goal.returns-else-rounds_up
returns-else-rounds_up c = ap (λ b. next_if b (exact c.shifted_right-floor.result)) (sym c.if-rounds_up.false) ∙ rounded_by_shift (goal.at.returns-else-rounds_up c).After-rounds_up
