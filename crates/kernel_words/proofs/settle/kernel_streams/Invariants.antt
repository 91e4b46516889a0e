use Rattle.std.proofs.Common.{◌≡◌, ◌<◌, []}
use Rattle.kernel_family.specs.declared.place.Place.{Place}
use Rattle.kernel_words.specs.Filling.{IsPlace, IsKnown, IsFilling}
use Rattle.kernel_words.proofs.settle.kernel_streams.Given as goal

-- the words of earlier nodes are known
abbrev pub invariant-loop-number : goal.invariant-loop-number
invariant-loop-number l = record {
  filling : IsFilling l.kernel.nodes l.run l.streams l.taken.items;
  known : (b : Place) → IsPlace l.kernel.nodes l.streams.ticks b → b.node < l.number → IsKnown l.streams b;
  empty : l.stack.items ≡ [];
}

-- and those of earlier ticks of this one
abbrev pub invariant-loop-tick : goal.invariant-loop-tick
invariant-loop-tick l = record {
  filling : IsFilling l.kernel.nodes l.run l.streams l.taken.items;
  known : (b : Place) → IsPlace l.kernel.nodes l.streams.ticks b → b.node < l.number → IsKnown l.streams b;
  so_far : (b : Place) → IsPlace l.kernel.nodes l.streams.ticks b → b.node ≡ l.number → b.tick < l.tick → IsKnown l.streams b;
  empty : l.stack.items ≡ [];
}
