use Rattle.std.proofs.Common.{◌-◌, sym, subst, arith}
use Rattle.std.proofs.lemmas.Result.{IfOk-weaker}
use Rattle.rtl_ir.specs.declared.design.Module.{Module}
use Rattle.link_fifo.specs.Fifo.{IsFifoModule}
use Rattle.link_fifo.proofs.Whole.{no_more, whole}
use Rattle.link_fifo.proofs.building.fifo.Goals as goal

pub numbers_of-numbers-requires-clause-order : goal.numbers_of-numbers-requires-clause-order
numbers_of-numbers-requires-clause-order c =
    let p = c.bits_for-places in
    let q = c.bits_for-counts in
    no_more p.result q.result (c.args.depth - 1) c.args.depth p.ensures.least (omega arith) q.ensures.holds p.ensures.some

pub returns : goal.returns
returns c =
    let r = c.requires in
    let p = c.bits_for-places in
    let q = c.bits_for-counts in
    let order = no_more p.result q.result (c.args.depth - 1) c.args.depth p.ensures.least (omega arith) q.ensures.holds p.ensures.some in
    let P : Module → Type 0 = IsFifoModule c.args.name c.args.width c.args.depth in
    IfOk-weaker _ _ _ (λ m is. subst P (sym is) (whole c.args.name c.args.width c.args.depth p.result q.result c.numbers_of-numbers.result
    r.named r.some r.narrow r.least r.most p.ensures.some order q.ensures.small
    (record { holds = p.ensures.holds; least = p.ensures.least })
    (record { holds = q.ensures.holds; least = q.ensures.least }) c.numbers_of-numbers.ensures)) c.build.ensures
