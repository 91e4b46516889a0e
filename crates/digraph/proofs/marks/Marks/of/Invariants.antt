use Rattle.std.proofs.Common.{◌≡◌, length}
use Rattle.digraph.proofs.Marking.{AreFirst}
use Rattle.digraph.proofs.marks.Marks.of.Given as goal

abbrev pub invariant-loop-i : goal.invariant-loop-i
invariant-loop-i l = record {
  size : length l.marks ≡ length l.initial.marks;
  first : AreFirst l.numbers l.i l.marks;
}
