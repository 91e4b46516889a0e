use Rattle.std.proofs.Common.{◌≡◌}
use Rattle.manager_links.proofs.kernel_order.rows_of.Given as goal

abbrev pub invariant-loop-list : goal.invariant-loop-list
invariant-loop-list l = l.rows.items ≡ l.yielded
