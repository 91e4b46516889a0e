use Rattle.std.proofs.Common.{◌≡◌, map, take}
use Rattle.manager_links.specs.Waiting.{one_later}
use Rattle.manager_links.proofs.starting.one_later.Given as goal

abbrev pub invariant-loop-number : goal.invariant-loop-number
invariant-loop-number l = l.starts ≡ map one_later (take l.number-index l.numbers)
