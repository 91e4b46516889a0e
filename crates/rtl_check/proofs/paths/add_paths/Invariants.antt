use Rattle.rtl_check.specs.Paths.{Adds, IsSmall, IsPassed}
use Rattle.rtl_check.proofs.paths.add_paths.Given as goal

abbrev pub invariant-loop-output : goal.invariant-loop-output
invariant-loop-output l = record {
  added : Adds (IsPassed l.instance l.table l.output) l.initial.graph l.graph;
  small : IsSmall l.initial.graph → IsSmall l.graph;
}
