use Rattle.std.proofs.Common.{◌≡◌, ◌∙◌, ℕ, List, Some, length, set, take, refl, ap, arith}
use Rattle.std.specs.Prelude.{slice_get}
use Rattle.std.proofs.lemmas.Option.{slice_get_read}
use Rattle.std.proofs.lemmas.List.{length-set}
use Rattle.verilog_sim.specs.Gifts.{kernel_gifts}
use Rattle.verilog_sim.proofs.Written.{length_written}
use Rattle.verilog_sim.proofs.GiftSteps.{kernel_written}
use Rattle.verilog_sim.proofs.drive.drive_kernels.Goals as goal

pub set-requires : goal.set-requires
set-requires c =
    let g = c.args.stimulus.now in
    let i = c.loop-k.k in
    let x = c.index-kernels-k.result in
    let at : slice_get c.args.kernels.now i ≡ Some x = slice_get_read c.args.kernels.now (length c.args.kernels.now) i
    x refl c.loop-k-test.true c.index-kernels-k.is in
    let size = ap length c.loop-k.invariant in
    let same = length_written c.args.values.now (kernel_gifts g.steady.now g.holds.now 0 (take i c.args.kernels.now)) in
    let lt = c.requires.nets i x at in
    omega (arith, lt.0, size, same)

pub set-requires-in-loop-k : goal.set-requires-in-loop-k
set-requires-in-loop-k c =
    let g = c.args.stimulus.now in
    let i = c.loop-k.k in
    let x = c.index-kernels-k.result in
    let at : slice_get c.args.kernels.now i ≡ Some x = slice_get_read c.args.kernels.now (length c.args.kernels.now) i
    x refl c.loop-k-test.true c.index-kernels-k.is in
    let size = ap length c.loop-k.invariant in
    let same = length_written c.args.values.now (kernel_gifts g.steady.now g.holds.now 0 (take i c.args.kernels.now)) in
    let lt = c.requires.nets i x at in
    omega (arith, lt.1, size, same, ap length c.set.ensures, length-set c.loop-k.values x.hold c.bit_at.result)

pub loop-k-preserved : goal.loop-k-preserved
loop-k-preserved c =
    let g = c.args.stimulus.now in
    let i = c.loop-k.k in
    let x = c.index-kernels-k.result in
    let at : slice_get c.args.kernels.now i ≡ Some x = slice_get_read c.args.kernels.now (length c.args.kernels.now) i
    x refl c.loop-k-test.true c.index-kernels-k.is in
    c.set-in-loop-k.ensures ∙ ap (λ (l : List ℕ). set l x.ticks c.word_at.result) c.set.ensures
    ∙ (rw (c.bit_at.ensures, c.word_at.ensures) (kernel_written g.steady.now g.holds.now c.args.values.now
    c.loop-k.values i c.args.kernels.now x at c.loop-k.invariant))
