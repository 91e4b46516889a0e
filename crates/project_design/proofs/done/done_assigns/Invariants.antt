use Rattle.std.proofs.Common.{◌≡◌, ◌+◌, ◌≤◌, ◌++◌, length, drop}
use Rattle.project_rtl.specs.Tops.{ended_assigns}
use Rattle.project_design.proofs.done.done_assigns.Given as goal

abbrev pub invariant-loop-net : goal.invariant-loop-net
invariant-loop-net l = record {
  told :
      l.assigns ++ ended_assigns l.done l.next l.last (drop l.net-index l.ended) l.valids
      ≡ ended_assigns l.done l.from l.first l.ended l.valids;
  next : l.next ≡ l.from + l.net-index;
  index : l.net-index ≤ length l.ended;
}
