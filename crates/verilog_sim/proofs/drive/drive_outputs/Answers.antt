use Rattle.std.proofs.Common.{◌≡◌, ◌∙◌, Some, length, take, refl, ap, arith}
use Rattle.std.specs.Prelude.{slice_get}
use Rattle.std.proofs.lemmas.Option.{slice_get_read}
use Rattle.verilog_sim.specs.Gifts.{output_gifts}
use Rattle.verilog_sim.proofs.Written.{length_written}
use Rattle.verilog_sim.proofs.GiftSteps.{output_written}
use Rattle.verilog_sim.proofs.drive.drive_outputs.Goals as goal

pub set-requires : goal.set-requires
set-requires c =
    let g = c.args.stimulus.now in
    let i = c.loop-k.k in
    let x = c.index-outputs-k.result in
    let at : slice_get c.args.outputs.now i ≡ Some x = slice_get_read c.args.outputs.now (length c.args.outputs.now) i
    x refl c.loop-k-test.true c.index-outputs-k.is in
    let size = ap length c.loop-k.invariant in
    let same = length_written c.args.values.now (output_gifts g.accepts.now 0 (take i c.args.outputs.now)) in
    let lt = c.requires.nets i x at in
    omega (arith, lt, size, same)

pub loop-k-preserved : goal.loop-k-preserved
loop-k-preserved c =
    let g = c.args.stimulus.now in
    let i = c.loop-k.k in
    let x = c.index-outputs-k.result in
    let at : slice_get c.args.outputs.now i ≡ Some x = slice_get_read c.args.outputs.now (length c.args.outputs.now) i
    x refl c.loop-k-test.true c.index-outputs-k.is in
    c.set.ensures ∙ (rw (c.bit_at.ensures) (output_written g.accepts.now c.args.values.now c.loop-k.values i c.args.outputs.now x at c.loop-k.invariant))
