use Rattle.std.proofs.Common.{◌≡◌, ◌∙◌, Some, length, take, refl, ap, arith}
use Rattle.std.specs.Prelude.{slice_get}
use Rattle.std.proofs.lemmas.Option.{slice_get_read}
use Rattle.verilog_sim.specs.Gifts.{scalar_gifts}
use Rattle.verilog_sim.proofs.Written.{length_written}
use Rattle.verilog_sim.proofs.GiftSteps.{scalar_written}
use Rattle.verilog_sim.proofs.drive.drive_scalars.Goals as goal

pub set-requires : goal.set-requires
set-requires c =
    let g = c.args.stimulus.now in
    let i = c.loop-k.k in
    let x = c.index-scalars-k.result in
    let at : slice_get c.args.scalars.now i ≡ Some x = slice_get_read c.args.scalars.now (length c.args.scalars.now) i
    x refl c.loop-k-test.true c.index-scalars-k.is in
    let size = ap length c.loop-k.invariant in
    let same = length_written c.args.values.now (scalar_gifts g.steady.now c.args.kernels (take i c.args.scalars.now)) in
    let lt = c.requires.nets i x at in
    omega (arith, lt, size, same)

pub loop-k-preserved : goal.loop-k-preserved
loop-k-preserved c =
    let g = c.args.stimulus.now in
    let i = c.loop-k.k in
    let x = c.index-scalars-k.result in
    let at : slice_get c.args.scalars.now i ≡ Some x = slice_get_read c.args.scalars.now (length c.args.scalars.now) i
    x refl c.loop-k-test.true c.index-scalars-k.is in
    c.set.ensures ∙ (rw (c.word_at.ensures) (scalar_written g.steady.now c.args.values.now c.loop-k.values
    c.args.kernels i c.args.scalars.now x at c.loop-k.invariant))
