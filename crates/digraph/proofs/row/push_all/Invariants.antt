use Rattle.std.proofs.Common.{◌≡◌, ◌++◌, take}
use Rattle.digraph.proofs.row.push_all.Given as goal

abbrev pub invariant-loop-place : goal.invariant-loop-place
invariant-loop-place g l = l.list ≡ l.initial.list ++ take l.place l.row
