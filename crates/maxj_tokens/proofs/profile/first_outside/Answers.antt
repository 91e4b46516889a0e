use Rattle.std.proofs.Common.{arith}
use Rattle.maxj_tokens.specs.Faults.{IsOutside}
use Rattle.text_scan.proofs.ByteTests.{clash}
use Rattle.maxj_tokens.proofs.FirstFaults.{none_of_none, first_at, none_at, none_at_all}
use Rattle.maxj_tokens.proofs.profile.first_outside.Goals as goal

pub loop-number-init : goal.loop-number-init
loop-number-init c = none_of_none IsOutside

pub returns-then-is_foreign-clause-some : goal.returns-then-is_foreign-clause-some
returns-then-is_foreign-clause-some c = first_at IsOutside c.args.tokens.now c.loop-number.number _ c.at-placed.ensures c.loop-number.invariant (c.is_foreign.ensures.0 c.if-is_foreign.true)

pub loop-number-preserved : goal.loop-number-preserved
loop-number-preserved c = none_at IsOutside c.args.tokens.now c.loop-number.number _ c.at-placed.ensures c.loop-number.invariant (λ f. clash (c.is_foreign.ensures.1 f) c.if-is_foreign.false)

pub returns-clause-none : goal.returns-clause-none
returns-clause-none c = none_at_all IsOutside c.args.tokens.now c.loop-number.number (omega arith) c.loop-number.invariant
