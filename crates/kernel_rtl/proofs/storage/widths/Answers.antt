use Rattle.std.proofs.Common.{arith}
use Rattle.kernel_ports.proofs.Looping.{view_wide}
use Rattle.kernel_rtl.proofs.Starting.{width_more, all_widths}
use Rattle.kernel_rtl.proofs.storage.widths.Goals as goal

pub width-requires : goal.width-requires
width-requires c =
    let lt = c.loop-number-test.true in
    let end = c.count-number-end.ensures in
    let is = c.new.ensures in
    view_wide c.args.kernel.now c.new.result c.node.result (omega (arith, lt, end, is)) c.node.ensures

pub loop-number-preserved : goal.loop-number-preserved
loop-number-preserved c =
    let lt = c.loop-number-test.true in
    let end = c.count-number-end.ensures in
    let is = c.new.ensures in
    width_more c.args.kernel.now.nodes c.loop-number.number c.new.result c.width.result c.node.result c.loop-number.widths.items c.push.new.self.items is
    (omega (arith, lt, end)) c.loop-number.invariant c.node.ensures c.width.ensures c.in_ok-push.ensures.items

pub returns : goal.returns
returns c =
    let ge = c.loop-number-test.false in
    let end = c.count-number-end.ensures in
    all_widths c.args.kernel.now.nodes c.loop-number.number c.loop-number.widths.items (omega (arith, ge, end)) c.loop-number.invariant
