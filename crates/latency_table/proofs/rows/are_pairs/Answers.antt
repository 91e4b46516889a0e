use Rattle.std.proofs.Common.{sym, ◌∙◌}
use Rattle.latency_table.proofs.ItemLemmas.{fails_here, all_pass}
use Rattle.latency_table.proofs.rows.are_pairs.Goals as goal

pub returns-then-not-is_pair : goal.returns-then-not-is_pair
returns-then-not-is_pair c =
    sym (fails_here _ c.in-Some.pairs.now.items c.deref-pair-items.result.now c.loop-pair.pair-index c.pair-item.result c.in-Some.ensures
    c.deref-pair-items.ensures.value c.loop-pair.invariant c.loop-pair-test.true c.pair-item.is (sym c.is_pair.ensures ∙ c.if-not-is_pair.true))

pub returns : goal.returns
returns c =
    sym (all_pass _ c.in-Some.pairs.now.items c.deref-pair-items.result.now c.loop-pair.pair-index c.in-Some.ensures
    c.deref-pair-items.ensures.value c.loop-pair.invariant c.loop-pair-test.false)
