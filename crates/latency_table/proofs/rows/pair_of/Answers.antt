use Rattle.std.proofs.Common.{arith}
use Rattle.latency_table.proofs.ItemLemmas.{no_pair}
use Rattle.latency_table.proofs.rows.pair_of.Goals as goal

pub returns-then-len-ne2 : goal.returns-then-len-ne2
returns-then-len-ne2 c = no_pair _ c.in_ok-items.items.now.items c.in_ok-items.ensures (λ e. c.if-len-ne2.true (omega (arith, c.len.ensures)))
