use Rattle.std.proofs.Common.{take}
use Rattle.manager_links.specs.Numbers.{Knows}
use Rattle.manager_links.specs.Terminals.{ports_from}
use Rattle.manager_links.proofs.terminals.Terminals.of.Given as goal

abbrev pub invariant-loop-number : goal.invariant-loop-number
invariant-loop-number l = Knows l.plan l.kernels (ports_from 0 (take l.number l.kernels)) l.known
