-- Each turn counts the bits of one digit, or skips it.
use Rattle.std.proofs.Common.{arith}
use Rattle.kernel_rows.proofs.DigitBits.{bits-counted, bits-skipped}
use Rattle.kernel_rows.proofs.counters.bits_of.Goals as goal
use Rattle.kernel_rows.proofs.counters.bits_of.Goals.{then-digit-chain, else-digit-chain}

pub overflow_add-bits : goal.overflow_add-bits
overflow_add-bits c =
    let e = bits-counted c.args.digits.now c.loop-digit.digit-index c.args.chain _
    c.loop-digit-test.true c.if-digit-chain.true in
    let i = c.loop-digit.invariant in
    omega (arith, e, i, c.from-bits.ensures, c.requires)

pub loop-digit-preserved : goal.loop-digit-preserved
loop-digit-preserved c =
    let i = c.loop-digit.invariant in
    elim c.if-digit-chain.branch [
      | then-digit-chain w ↦
          let e = bits-counted c.args.digits.now c.loop-digit.digit-index c.args.chain _
          c.loop-digit-test.true w.if-digit-chain.true in
          omega (arith, e, i, w.from-bits.ensures, w.bits-is)
      | else-digit-chain w ↦
          let e = bits-skipped c.args.digits.now c.loop-digit.digit-index c.args.chain _
          c.loop-digit-test.true w.if-digit-chain.false in
          omega (arith, e, i, w.bits-is)
    ]
