use Rattle.std.proofs.Common.{take}
use Rattle.std.specs.List.{AllZip}
use Rattle.manager_links.specs.Numbers.{AreEnds}
use Rattle.manager_links.specs.Terminals.{terminals}
use Rattle.manager_links.proofs.ends.number_joins.Given as goal

abbrev pub invariant-loop-join : goal.invariant-loop-join
invariant-loop-join l =
    AllZip (AreEnds (terminals l.plan l.kernels)) (take l.join-index l.plan.joins) l.ends.items
