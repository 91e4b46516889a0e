use Rattle.std.proofs.Common.{◌≡◌, ℕ, length, slice_index}
use Rattle.digraph.specs.FanIn.{Collects, all_left}
use Rattle.digraph.proofs.FanIns.{Meets}
use Rattle.digraph.proofs.cone.meet_reads.Given as goal

abbrev pub invariant-loop-i : goal.invariant-loop-i
invariant-loop-i l = record {
  size : length l.seen ≡ length l.graph;
  left : all_left l.number l.seen l.nodes.items ≡ all_left l.number l.initial.seen l.initial.nodes.items;
  meets : (end : ℕ) → Collects l.graph end l.number l.initial.seen l.initial.nodes.items l.done
      → Meets l.graph end l.number l.seen l.nodes.items l.done (slice_index l.initial.nodes.items l.done) l.i;
}
