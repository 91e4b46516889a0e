use Rattle.std.proofs.Common.{◌<◌, ℕ, List, length, refl, ap, subst, arith, ◌∙◌}
use Rattle.std.proofs.lemmas.Option.{slice_get_read, slice_get_within}
use Rattle.std.proofs.lemmas.List.{length-set}
use Rattle.verilog_sim.specs.Levels.{IsAbove}
use Rattle.verilog_sim.proofs.Levelling.{bound_set, rising_set}
use Rattle.verilog_sim.proofs.level.levels_of.Goals as goal

pub level_above-requires : goal.level_above-requires
level_above-requires c = λ n read.
    let i = c.loop-assign.assign-index in
    let at = slice_get_read c.args.order.now (length c.args.order.now) i c.assign-item.result refl c.loop-assign-test.true c.assign-item.is in
    let from = c.requires.order.from i c.assign-item.result at in
    let lt = (c.requires.runnable.assigns from.0 c.assign-item.result from.1).expr.nets n read in
    omega (arith, lt, ap length c.as_slice.ensures.value, c.loop-assign.invariant.0)

pub index_mut-requires : goal.index_mut-requires
index_mut-requires c =
    let i = c.loop-assign.assign-index in
    let at = slice_get_read c.args.order.now (length c.args.order.now) i c.assign-item.result refl c.loop-assign-test.true c.assign-item.is in
    let from = c.requires.order.from i c.assign-item.result at in
    let lt = (c.requires.runnable.assigns from.0 c.assign-item.result from.1).target in
    omega (arith, lt, c.index.ensures.number, c.loop-assign.invariant.0, c.loop-assign.levels.ok)

pub loop-assign-preserved : goal.loop-assign-preserved
loop-assign-preserved c =
    let order = c.args.order.now in
    let i = c.loop-assign.assign-index in
    let a = c.assign-item.result in
    let levels = c.loop-assign.levels.items in
    let x = c.level_above.result in
    let at = slice_get_read order (length order) i a refl c.loop-assign-test.true c.assign-item.is in
    let from = c.requires.order.from i a at in
    let lt : a.target < length levels = (let less = (c.requires.runnable.assigns from.0 a from.1).target in omega (arith, less, c.loop-assign.invariant.0)) in
    let is : IsAbove a.expr levels x = subst (λ (l : List ℕ). IsAbove a.expr l x) c.as_slice.ensures.value c.level_above.ensures in
    let small : i < 18446744073709551615 = omega (arith, c.loop-assign-test.true, c.loop-assign.auto.assign-index-end) in
    rw c.index.ensures.number (
      length-set levels a.target x ∙ c.loop-assign.invariant.0,
      bound_set levels a.target x i lt (is.at_most i c.loop-assign.invariant.1) c.loop-assign.invariant.1,
      rising_set c.args.module.now order levels i x a c.requires.order.in_order at lt (λ n read. is.above i n small c.loop-assign.invariant.1 read) c.loop-assign.invariant.2,
    )

pub returns-clause-levels : goal.returns-clause-levels
returns-clause-levels c = λ i n a at read. c.loop-assign.invariant.2 i n a (omega (arith, slice_get_within c.args.order.now i a at, c.loop-assign-test.false)) at read
