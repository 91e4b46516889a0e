use Rattle.rtl_check.specs.Paths.{Adds, IsSmall, IsAssigned}
use Rattle.rtl_check.proofs.paths.add_assigns.Given as goal

abbrev pub invariant-loop-place : goal.invariant-loop-place
invariant-loop-place l = record {
  added : Adds (IsAssigned l.module l.place) l.initial.graph l.graph;
  small : IsSmall l.initial.graph → IsSmall l.graph;
}
