use Rattle.std.proofs.Common.{◌≡◌, ◌+◌, ◌≤◌, ℕ, List, take, length, sym, subst, ◌∙◌, arith}
use Rattle.std.proofs.lemmas.List.{take_all}
use Rattle.rtl_ir.specs.Operands.{reads}
use Rattle.verilog_sim.proofs.Pushing.{taken_more}
use Rattle.verilog_sim.proofs.order.operands.Goals as goal

pub loop-net-preserved : goal.loop-net-preserved
loop-net-preserved c =
    let i = c.loop-net.net-index in
    let nets = c.as_slice-net-items.result.now in
    let same : nets ≡ reads c.args.expr.now = c.as_slice-net-items.ensures ∙ c.operands-nets.ensures in
    let was = subst (λ (l : List ℕ). c.loop-net.nodes.items ≡ take i l) (sym same) c.loop-net.invariant in
    subst (λ (l : List ℕ). c.push.new.self.items ≡ take (i + 1) l) same
    (taken_more nets i c.net-item.result c.loop-net.nodes.items c.push.new.self.items _ c.loop-net-test.true c.net-item.is was
    c.in_ok-push.ensures.items (omega (arith, c.index.ensures.number, c.index.ensures.range)))

pub returns : goal.returns
returns c =
    let same : c.as_slice-net-items.result.now ≡ reads c.args.expr.now = c.as_slice-net-items.ensures ∙ c.operands-nets.ensures in
    let end = subst (λ (l : List ℕ). length l ≤ c.loop-net.net-index) same c.loop-net-test.false in
    c.from_vec.ensures ∙ c.loop-net.invariant ∙ take_all c.loop-net.net-index (reads c.args.expr.now) end
