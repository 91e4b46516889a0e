use Rattle.std.proofs.Common.{◌≡◌, ◌<◌, ℕ, List, length, get_or, Some, refl, subst, arith}
use Rattle.std.specs.Prelude.{slice_get}
use Rattle.std.proofs.lemmas.Option.{slice_get_read}
use Rattle.rtl_ir.specs.Operands.{reads}
use Rattle.verilog_sim.proofs.Marking.{one_marked}
use Rattle.verilog_sim.proofs.order.mark_reads.Goals as goal

-- the net at a place of the list that was read
net_at : (items nets : List ℕ) (i n : ℕ) → items ≡ nets → i < length items → n ≡ get_or items i n → slice_get nets i ≡ Some n
net_at items nets i n e lt is = subst (λ (l : List ℕ). slice_get l i ≡ Some n) e (slice_get_read items (length items) i n refl lt is)

pub bounds-marks-index : goal.bounds-marks-index
bounds-marks-index c =
    let items : c.as_slice-net-items.result.now ≡ reads c.args.expr.now = (let e = c.as_slice-net-items.ensures in let f = c.operands-nets.ensures in cc) in
    let at = net_at c.as_slice-net-items.result.now (reads c.args.expr.now) c.loop-net.net-index c.net-item.result items c.loop-net-test.true c.net-item.is in
    let lt = c.requires c.net-item.result (c.loop-net.net-index, at) in
    omega (arith, lt, c.index.ensures.number, c.loop-net.invariant.size)

pub loop-net-preserved : goal.loop-net-preserved
loop-net-preserved c =
    let items : c.as_slice-net-items.result.now ≡ reads c.args.expr.now = (let e = c.as_slice-net-items.ensures in let f = c.operands-nets.ensures in cc) in
    let at = net_at c.as_slice-net-items.result.now (reads c.args.expr.now) c.loop-net.net-index c.net-item.result items c.loop-net-test.true c.net-item.is in
    let lt = c.requires c.net-item.result (c.loop-net.net-index, at) in
    rw c.index.ensures.number
    (one_marked (reads c.args.expr.now) c.args.marks.now c.loop-net.marks c.loop-net.net-index c.net-item.result at (omega (arith, lt, c.loop-net.invariant.size)) c.loop-net.invariant)
