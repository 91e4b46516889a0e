use Rattle.std.proofs.Common.{sym, ◌∙◌}
use Rattle.latency_table.proofs.RowLemmas.{none_here, rows_all}
use Rattle.latency_table.proofs.rows.rows_of.Goals as goal

pub returns-in_default-row_above : goal.returns-in_default-row_above
returns-in_default-row_above c =
    sym (none_here _ c.in-Some.pairs.now.items c.deref-pair-items.result.now c.loop-pair.pair-index c.loop-pair.above c.loop-pair.rows c.pair-item.result
    c.in-Some.ensures c.deref-pair-items.ensures.value c.loop-pair.invariant c.loop-pair-test.true c.pair-item.is
    (sym c.row_above.ensures ∙ c.in_default-row_above.is))

pub returns : goal.returns
returns c =
    sym (rows_all _ c.in-Some.pairs.now.items c.deref-pair-items.result.now c.loop-pair.pair-index c.loop-pair.above c.loop-pair.rows
    c.in-Some.ensures c.deref-pair-items.ensures.value c.loop-pair.invariant c.loop-pair-test.false)
