use Rattle.std.proofs.Common.{◌≡◌, ◌+◌, ◌-◌, length, map, take, drop}
use Rattle.std.specs.Prelude.{slice_index}
use Rattle.kernel_control.specs.Ports.{scalars_of}
use Rattle.maxjc_core.proofs.project_run.node_words.Given as goal

-- of the nodes so far the scalars have the first words
abbrev pub invariant-loop-number : goal.invariant-loop-number
invariant-loop-number l = record {
  each : length l.words ≡ l.number;
  next : l.next ≡ l.fn.next + length (scalars_of (take l.number l.kernel.nodes));
  scalars :
      map (slice_index l.words) (scalars_of (take l.number l.kernel.nodes))
      ≡ take (l.next - l.fn.next) (drop l.fn.next l.scalars);
}
