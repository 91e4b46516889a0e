use Rattle.std.proofs.Common.{◌≡◌, ◌<◌, ◌≤◌, ℕ, List, length, get_or, Some, refl, subst, arith}
use Rattle.std.specs.Prelude.{slice_get}
use Rattle.std.proofs.lemmas.Option.{slice_get_read}
use Rattle.rtl_ir.specs.Operands.{reads}
use Rattle.verilog_sim.proofs.Levelling.{above_more}
use Rattle.verilog_sim.proofs.level.level_above.Goals as goal

-- the net at a place of the list that was read
net_at : (items nets : List ℕ) (i n : ℕ) → items ≡ nets → i < length items → n ≡ get_or items i n → slice_get nets i ≡ Some n
net_at items nets i n e lt is = subst (λ (l : List ℕ). slice_get l i ≡ Some n) e (slice_get_read items (length items) i n refl lt is)

pub bounds-levels-index : goal.bounds-levels-index
bounds-levels-index c =
    let items : c.as_slice-net-items.result.now ≡ reads c.args.expr.now = (let e = c.as_slice-net-items.ensures in let f = c.operands-nets.ensures in cc) in
    let at = net_at c.as_slice-net-items.result.now (reads c.args.expr.now) c.loop-net.net-index c.net-item.result items c.loop-net-test.true c.net-item.is in
    let lt = c.requires c.net-item.result (c.loop-net.net-index, at) in
    omega (arith, lt, c.index.ensures.number)

pub loop-net-preserved : goal.loop-net-preserved
loop-net-preserved c =
    let levels = c.args.levels.now in
    let n = c.net-item.result in
    let items : c.as_slice-net-items.result.now ≡ reads c.args.expr.now = (let e = c.as_slice-net-items.ensures in let f = c.operands-nets.ensures in cc) in
    let at = net_at c.as_slice-net-items.result.now (reads c.args.expr.now) c.loop-net.net-index n items c.loop-net-test.true c.net-item.is in
    let here : get_or levels n 0 ≤ c.greater-level.result = subst (λ (k : ℕ). get_or levels k 0 ≤ c.greater-level.result) c.index.ensures.number c.greater-level.ensures.right in (
      above_more (reads c.args.expr.now) levels c.loop-net.level c.greater-level.result c.loop-net.net-index n at c.greater-level.ensures.left here c.loop-net.invariant.0,
      λ bound most. c.greater-level.ensures.least bound (c.loop-net.invariant.1 bound most) (most c.index.result),
    )
