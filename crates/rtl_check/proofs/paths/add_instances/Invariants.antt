use Rattle.rtl_check.specs.Paths.{Adds, IsSmall, IsParted}
use Rattle.rtl_check.proofs.paths.add_instances.Given as goal

abbrev pub invariant-loop-place : goal.invariant-loop-place
invariant-loop-place l = record {
  added : Adds (IsParted l.module l.tables l.place) l.initial.graph l.graph;
  small : IsSmall l.initial.graph → IsSmall l.graph;
}
